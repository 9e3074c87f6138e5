-- The library's words for lists are the state's own, for any list: so what a chain of iterators says is said in the definitions' words.
use Prim.Native.Nat.{ℕ, suc, ◌+◌, ◌<◌, ◌≤◌}
use mathlib.Core.Path.{◌≡◌, refl}
use mathlib.Core.Bool.{Bool, true, false, not, cond, ◌||◌, ◌&&◌}
use mathlib.Core.List.{List, [], ◌∷◌}
use native.Mathlib.Omega.{arith}
use borrow.Author.Tests.{ltb-true, ltb-false}
use lib.ListN.{length}
use lib.Dec.{ltb}
use Rattle.std.specs.Prelude.{Option, Some, None, is_some}
use Rattle.std.specs.List.{list_any, list_all, fold, position, position_or_len}
use Rattle.std.proofs.lemmas.List.Recursion.{is_position_or_len}
use Rattle.layout.specs.Bytes.{both}
use Rattle.layout.proofs.Tests.{never}
use Rattle.state.specs.Lists.{pick, any, all, place_of, carry, IsPlaceOf}
use Rattle.state.proofs.Loops.{any_found, any_none}
use Rattle.state.proofs.Finding.{place_le}

module _ {A : Type 0} (p : A → Bool) where
  pub any_list : (xs : List A) → list_any p xs ≡ any p xs
  any_list [] = refl
  any_list (x ∷ xs) = at (p x) (any_list xs)
    where
      at : (b : Bool) → list_any p xs ≡ any p xs → (b || list_any p xs) ≡ pick b true (any p xs)
      at true e = refl
      at false e = e

  pub all_list : (xs : List A) → list_all p xs ≡ all p xs
  unfolding both
  all_list [] = refl
  all_list (x ∷ xs) = at (p x) (all_list xs)
    where
      at : (b : Bool) → list_all p xs ≡ all p xs → (b && list_all p xs) ≡ both b (all p xs)
      at true e = e
      at false e = refl

  pub position_place : (xs : List A) → place_of p xs ≡ position_or_len p xs
  position_place = is_position_or_len (place_of p) p refl (λ x xs. at (p x) (place_of p xs))
    where
      at : (b : Bool) (n : ℕ) → pick b 0 (suc n) ≡ cond b 0 (1 + n)
      at true n = refl
      at false n = omega arith

  -- where a search tells the place, it is that of the first element that passes
  pub is_place : (xs : List A) (r : Option ℕ) → r ≡ position p xs → IsPlaceOf r (place_of p xs) (length xs)
  is_place xs r e = rw (e, ← position_place xs) (at (place_of p xs) (length xs) (place_le p xs) (ltb (place_of p xs) (length xs)) refl)
    where
      at : (place n : ℕ) → place ≤ n → (b : Bool) → ltb place n ≡ b → IsPlaceOf (cond (ltb place n) (Some place) None) place n
      at place n l true e = rw e (refl, ltb-true place n e)
      at place n l false e = let h = ltb-false place n e in rw e (omega arith)

pub carry_fold : {A B : Type 0} (f : B → A → B) (b : B) (xs : List A) → fold f b xs ≡ carry f b xs
carry_fold f b [] = refl
carry_fold f b (x ∷ xs) = carry_fold f (f b x) xs

-- a search that finds nothing says that none passes
pub none_found : {A : Type 0} (p : A → Bool) (xs : List A) (r : Option ℕ) (b : Bool) → is_some r ≡ not b → IsPlaceOf r (place_of p xs) (length xs)
    → b ≡ not (any p xs)
none_found p xs None true e k = rw (any_none p xs (omega arith))
none_found p xs None false e k = never (cc)
none_found p xs (Some i) true e k = never (cc)
none_found p xs (Some i) false e k = let h : place_of p xs < length xs = omega arith in rw (any_found p xs h)
