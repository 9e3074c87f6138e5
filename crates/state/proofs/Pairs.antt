-- Tests over lists: joined, at a place, and one element more.
use mathlib.Core.Path.{◌≡◌, refl, sym, ◌∙◌, ap}
use mathlib.Core.Bool.{Bool, true, false, not}
use mathlib.Core.List.{List, [], ◌∷◌, ◌++◌, append_assoc}
use Rattle.layout.specs.Bytes.{both}
use Rattle.layout.proofs.Tests.{both_left, both_right}
use Rattle.state.proofs.Bools.{both_intro, yes_both, no_both, both_yes, both_assoc, both_cross}
use Rattle.state.specs.Lists.{pick, any, all, pairs}

module _ {A : Type 0} (p : A → Bool) where
  pub all_append : (xs ys : List A) → all p (xs ++ ys) ≡ both (all p xs) (all p ys)
  unfolding both
  all_append [] ys = refl
  all_append (x ∷ xs) ys = ap (both (p x)) (all_append xs ys) ∙ both_assoc (p x) (all p xs) (all p ys)

  pub all_always : ((x : A) → p x ≡ true) → (xs : List A) → all p xs ≡ true
  all_always k [] = refl
  all_always k (x ∷ xs) = both_intro (p x) (all p xs) (k x) (all_always k xs)

  pub all_snoc : (xs : List A) (x : A) → all p xs ≡ true → p x ≡ true → all p (xs ++ x ∷ []) ≡ true
  all_snoc xs x e k = all_append xs (x ∷ []) ∙ both_intro _ _ e (both_intro (p x) true k refl)

  pub all_left : (xs ys : List A) → all p (xs ++ ys) ≡ true → all p xs ≡ true
  all_left xs ys e = both_left _ _ (sym (all_append xs ys) ∙ e)

  pub all_right : (xs ys : List A) → all p (xs ++ ys) ≡ true → all p ys ≡ true
  all_right xs ys e = both_right _ _ (sym (all_append xs ys) ∙ e)

  -- none passes where all fail
  pub none_all : (xs : List A) → not (any p xs) ≡ all (λ x. not (p x)) xs
  none_all [] = refl
  none_all (x ∷ xs) = at (p x) refl (none_all xs)
    where
      at : (b : Bool) → p x ≡ b → not (any p xs) ≡ all (λ x. not (p x)) xs → not (any p (x ∷ xs)) ≡ all (λ x. not (p x)) (x ∷ xs)
      at true e k = rw e (sym (no_both (all (λ x. not (p x)) xs)))
      at false e k = rw e (k ∙ sym (yes_both (all (λ x. not (p x)) xs)))

module _ {A : Type 0} (p : A → A → Bool) where
  pub pairs_snoc : (xs : List A) (y : A) → pairs p (xs ++ y ∷ []) ≡ both (pairs p xs) (all (λ x. p x y) xs)
  unfolding both
  pairs_snoc [] y = refl
  pairs_snoc (x ∷ xs) y =
      ap (λ b. both b (pairs p (xs ++ y ∷ []))) (all_append (p x) xs (y ∷ []))
      ∙ ap (both (both (all (p x) xs) (both (p x y) true))) (pairs_snoc xs y)
      ∙ both_cross (all (p x) xs) (both (p x y) true) (pairs p xs) (all (λ x. p x y) xs)
      ∙ ap (λ b. both (both (all (p x) xs) (pairs p xs)) (both b (all (λ x. p x y) xs))) (both_yes (p x y))

  pub pairs_left : (xs ys : List A) → pairs p (xs ++ ys) ≡ true → pairs p xs ≡ true
  pairs_left [] ys e = refl
  pairs_left (x ∷ xs) ys e = both_intro _ _ (all_left (p x) xs ys (both_left _ _ e)) (pairs_left xs ys (both_right (all (p x) (xs ++ ys)) _ e))

  pub pairs_right : (xs ys : List A) → pairs p (xs ++ ys) ≡ true → pairs p ys ≡ true
  pairs_right [] ys e = e
  pairs_right (x ∷ xs) ys e = pairs_right xs ys (both_right (all (p x) (xs ++ ys)) _ e)

  -- an element within: every one before it passes beside it
  pub pairs_before : (xs ys : List A) (y : A) → pairs p (xs ++ y ∷ ys) ≡ true → all (λ x. p x y) xs ≡ true
  pairs_before xs ys y e = both_right (pairs p xs) _ (sym (pairs_snoc xs y) ∙ pairs_left (xs ++ y ∷ []) ys (ap (pairs p) (append_assoc xs (y ∷ []) ys) ∙ e))

pub all_imp : {A : Type 0} (p q : A → Bool) → ((x : A) → p x ≡ true → q x ≡ true) → (xs : List A) → all p xs ≡ true → all q xs ≡ true
all_imp p q k [] e = refl
all_imp p q k (x ∷ xs) e = both_intro _ _ (k x (both_left _ _ e)) (all_imp p q k xs (both_right (p x) _ e))

pub any_append : {A : Type 0} (p : A → Bool) (xs ys : List A) → any p (xs ++ ys) ≡ pick (any p xs) true (any p ys)
any_append p [] ys = refl
any_append p (x ∷ xs) ys = at (p x) refl (any_append p xs ys)
  where
    at : (b : Bool) → p x ≡ b → any p (xs ++ ys) ≡ pick (any p xs) true (any p ys) → any p ((x ∷ xs) ++ ys) ≡ pick (any p (x ∷ xs)) true (any p ys)
    at true e k = rw e
    at false e k = rw e k

-- one element put for another
module _ {A : Type 0} (q p : A) (ys : List A) where
  pub all_put : (r : A → Bool) (xs : List A) → all r (xs ++ q ∷ ys) ≡ true → r p ≡ true → all r (xs ++ p ∷ ys) ≡ true
  all_put r xs e k =
      all_append r xs (p ∷ ys) ∙ both_intro _ _ (all_left r xs (q ∷ ys) e) (both_intro _ _ k (both_right (r q) _ (all_right r xs (q ∷ ys) e)))

  pub pairs_put : (r : A → A → Bool) (xs : List A) → pairs r (xs ++ q ∷ ys) ≡ true → all (λ x. r x p) xs ≡ true → all (r p) ys ≡ true → pairs r (xs ++ p ∷ ys) ≡ true
  pairs_put r [] e a b = both_intro _ _ b (both_right (all (r q) ys) _ e)
  pairs_put r (x ∷ xs) e a b =
      both_intro _ _ (all_put (r x) xs (both_left _ _ e) (both_left _ _ a))
      (pairs_put r xs (both_right (all (r x) (xs ++ q ∷ ys)) _ e) (both_right (r x p) _ a) b)

  pub any_put : (r : A → Bool) (xs : List A) → r q ≡ false → any r (xs ++ q ∷ ys) ≡ true → any r (xs ++ p ∷ ys) ≡ true
  any_put r [] z e = at (r p)
    where
      at : (b : Bool) → pick b true (any r ys) ≡ true
      at true = refl
      at false = rw z at e
  any_put r (x ∷ xs) z e = by (r x) refl (any_put r xs z)
    where
      by : (b : Bool) → r x ≡ b → (any r (xs ++ q ∷ ys) ≡ true → any r (xs ++ p ∷ ys) ≡ true) → any r ((x ∷ xs) ++ p ∷ ys) ≡ true
      by true w k = rw w
      by false w k = rw w (k (rw w at e))
