-- Tests taken apart: what the layers' rules, written as `both t (both u ..)`, say of their parts.
use Prim.Native.Nat.{ℕ, ◌≤◌, ◌<◌}
use mathlib.Core.Path.{◌≡◌, refl}
use mathlib.Core.Logic.{◌⊎◌}
use mathlib.Core.List.{List}
use mathlib.Core.Bool.{Bool, true, false}
use native.Mathlib.Omega.{arith}
use lib.ListN.{length}
use borrow.Author.Tests.{leb-true, le-leb, eqb-true, eq-eqb}
use Rattle.std.proofs.lemmas.Bool.{cases_lt}
use Rattle.layout.specs.Bytes.{both, is_ring_length, Sized}

-- a case that can't be: two constructors are never equal
pub never {ℓ} : {A : Type ℓ} → ◌≡◌ {A = ℕ} 0 1 → A
never z = absurd (let w : ⊥ = omega arith in w)

pub both_left : (a b : Bool) → both a b ≡ true → a ≡ true
unfolding both
both_left true b e = refl
both_left false b e = e

pub both_right : (a b : Bool) → both a b ≡ true → b ≡ true
unfolding both
both_right true b e = e
both_right false true e = refl
both_right false false e = e

pub not_true_false : (b : Bool) → (b ≡ true → ⊥) → b ≡ false
not_true_false true k = absurd (k refl)
not_true_false false k = refl

pub true_not_false : (b : Bool) → b ≡ true → b ≡ false → ⊥
true_not_false b p q = never (cc)

-- the second test may be taken for another where the first holds
pub both_ext : (a b b' : Bool) → (a ≡ true → b ≡ b') → both a b ≡ both a b'
unfolding both
both_ext true b b' k = k refl
both_ext false b b' k = refl

-- one order or the other: the library's `cases_lt`, under the name that the proofs above cite
pub lt_or_le : (a b : ℕ) → (a < b) ⊎ (b ≤ a)
lt_or_le a b = cases_lt a b

-- the length that a ring has

pub sized_true : (r : List ℕ) (n : ℕ) → Sized r n → is_ring_length n (length r) ≡ true
unfolding is_ring_length both
sized_true r n z = rw (le-leb _ _ z.low, le-leb _ _ z.high, eq-eqb _ _ z.len)

pub sized_sound : (r : List ℕ) (n : ℕ) → is_ring_length n (length r) ≡ true → Sized r n
unfolding is_ring_length
sized_sound r n e =
    let t = both_right _ _ e in
    record {
      low = leb-true _ _ (both_left _ _ e);
      high = leb-true _ _ (both_left _ _ t);
      len = eqb-true _ _ (both_right _ _ t);
    }
