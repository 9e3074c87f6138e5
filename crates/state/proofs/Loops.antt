-- What a search over a list tells by its place, and blanks that are filled from the front.
use Prim.Native.Nat.{ℕ, suc, ◌+◌, ◌-◌, ◌≤◌, ◌<◌}
use mathlib.Core.Path.{◌≡◌, refl, ◌∙◌}
use mathlib.Core.Bool.{Bool, true, false}
use mathlib.Core.List.{List, [], ◌∷◌, ◌++◌, map, map-append, append_assoc}
use native.Mathlib.Omega.{arith}
use native.Mathlib.Numerals.{add-one}
use lib.ListN.{length, take, get_or, set, replicate, length-map, length-append}
use lib.Seq.{length-take-le, take-suc, set_at}
use Rattle.state.specs.Lists.{any, place_of, filled}

-- ---- where a search ends tells whether any passes

-- a place within the list is that of an element that passes
any_by : {A : Type 0} (p : A → Bool) (x : A) (xs : List A) (b : Bool) → p x ≡ b
    → (place_of p xs < length xs → any p xs ≡ true) → place_of p (x ∷ xs) < length (x ∷ xs) → any p (x ∷ xs) ≡ true
any_by p x xs true e k h = rw e
any_by p x xs false e k h =
    let z : place_of p (x ∷ xs) ≡ suc (place_of p xs) = rw e in
    rw e (k (omega arith))

pub any_found : {A : Type 0} (p : A → Bool) (xs : List A) → place_of p xs < length xs → any p xs ≡ true
any_found p [] h = absurd (omega arith)
any_found p (x ∷ xs) h = any_by p x xs (p x) refl (any_found p xs) h

none_by : {A : Type 0} (p : A → Bool) (x : A) (xs : List A) (b : Bool) → p x ≡ b
    → (length xs ≤ place_of p xs → any p xs ≡ false) → length (x ∷ xs) ≤ place_of p (x ∷ xs) → any p (x ∷ xs) ≡ false
none_by p x xs true e k h =
    let z : place_of p (x ∷ xs) ≡ 0 = rw e in
    absurd (omega arith)
none_by p x xs false e k h =
    let z : place_of p (x ∷ xs) ≡ suc (place_of p xs) = rw e in
    rw e (k (omega arith))

pub any_none : {A : Type 0} (p : A → Bool) (xs : List A) → length xs ≤ place_of p xs → any p xs ≡ false
any_none p [] h = refl
any_none p (x ∷ xs) h = none_by p x xs (p x) refl (any_none p xs) h

-- ---- an array of blanks filled from the front: xs stand in it so far

pub fill_more : {A : Type 0} (m : ℕ) (z : A) (xs : List A) (k : ℕ) (v : A) → length xs ≡ k → k < m
    → set (filled m z xs) k v ≡ filled m z (xs ++ v ∷ [])
fill_more m z xs k v e h =
    let a : m - length xs ≡ suc (m - suc (length xs)) = omega arith in
    let q : length (xs ++ v ∷ []) ≡ suc (length xs) = simp (length-append, add-one) in
    rw (a, q, set_at xs z (replicate (m - suc (length xs)) z) v k e, append_assoc)

-- an array of blanks filled with the first elements of another, each changed
pub list_first : {A B : Type 0} (m : ℕ) (z : B) (f : A → B) (d : A) (l : List A) (i : ℕ) → i < length l → i < m
    → set (filled m z (map f (take i l))) i (f (get_or l i d)) ≡ filled m z (map f (take (i + 1) l))
list_first m z f d l i h k =
    let e : length (map f (take i l)) ≡ i = length-map (take i l) f ∙ length-take-le i l (omega arith) in
    rw (add-one i, take-suc l i d h, map-append) (fill_more m z (map f (take i l)) i (f (get_or l i d)) e k)
