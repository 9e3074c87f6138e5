-- Laws of those of a list that pass a test.
use mathlib.Core.Path.{◌≡◌, refl, ap}
use mathlib.Core.Bool.{Bool, true, false}
use mathlib.Core.List.{List, [], ◌∷◌, ◌++◌}
use Rattle.layout.specs.Bytes.{both}
use Rattle.state.specs.Lists.{pick, those}
use Rattle.state.proofs.Finding.{Each}

pub those_append : {A : Type 0} (q : A → Bool) (xs ys : List A) → those q (xs ++ ys) ≡ those q xs ++ those q ys
those_append q [] ys = refl
those_append q (x ∷ xs) ys = at (q x) (those_append q xs ys)
  where
    at : (b : Bool) → those q (xs ++ ys) ≡ those q xs ++ those q ys → pick b (x ∷ those q (xs ++ ys)) (those q (xs ++ ys)) ≡ pick b (x ∷ those q xs) (those q xs) ++ those q ys
    at true e = ap (◌∷◌ x) e
    at false e = e

pub those_none : {A : Type 0} (q : A → Bool) (xs : List A) → Each (λ x. q x ≡ false) xs → those q xs ≡ []
those_none q [] o = refl
those_none q (x ∷ xs) o = rw o.0 (those_none q xs o.1)

pub those_same : {A : Type 0} (p q : A → Bool) (xs : List A) → Each (λ x. p x ≡ q x) xs → those p xs ≡ those q xs
those_same p q [] o = refl
those_same p q (x ∷ xs) o = rw (o.0, those_same p q xs o.1)

pub those_all : {A : Type 0} (q : A → Bool) (xs : List A) → Each (λ x. q x ≡ true) xs → those q xs ≡ xs
those_all q [] o = refl
those_all q (x ∷ xs) o = rw o.0 (ap (◌∷◌ x) (those_all q xs o.1))

-- by two tests at once, or one after the other
pub those_both : {A : Type 0} (p q : A → Bool) (xs : List A) → those (λ x. both (p x) (q x)) xs ≡ those q (those p xs)
unfolding both
those_both p q [] = refl
those_both p q (x ∷ xs) = at (p x) (q x) refl (those_both p q xs)
  where
    at : (a b : Bool) → q x ≡ b → those (λ x. both (p x) (q x)) xs ≡ those q (those p xs)
        → pick (both a b) (x ∷ those (λ x. both (p x) (q x)) xs) (those (λ x. both (p x) (q x)) xs) ≡ those q (pick a (x ∷ those p xs) (those p xs))
    at true true z e = rw z (ap (◌∷◌ x) e)
    at true false z e = rw z e
    at false b z e = e

pub each_those : {A : Type 0} (P : A → Type 0) (q : A → Bool) (xs : List A) → Each P xs → Each P (those q xs)
each_those P q [] o = tt
each_those P q (x ∷ xs) o = at (q x) (each_those P q xs o.1)
  where
    at : (b : Bool) → Each P (those q xs) → Each P (pick b (x ∷ those q xs) (those q xs))
    at true k = (o.0, k)
    at false k = k
