-- Laws of covering: writes laid in order show, at each place, the newest write's byte.
use Rattle.std.specs.Prelude.{Option, None, Some}
use Prim.Native.Nat.{ℕ, suc, ◌+◌, ◌-◌, ◌≤◌, ◌<◌}
use mathlib.Core.Path.{◌≡◌, refl, sym, ap, ◌∙◌}
use mathlib.Core.Bool.{Bool, true, false}
use mathlib.Core.Logic.{◌⊎◌, inl, inr}
use mathlib.Core.List.{List, [], ◌∷◌, ◌++◌}
use native.Mathlib.Omega.{arith}
use borrow.Author.Tests.{eqb-true, eqb-false, ne_eqb, leb-true, ltb-true, le-leb, lt-leb, lt-ltb, le-ltb}
use lib.ListN.{length, get_or}
use lib.Dec.{eqb, leb}
use Rattle.layout.specs.Bytes.{both}
use Rattle.layout.proofs.Tests.{never, both_left, both_right, lt_or_le}
use Rattle.walk.specs.Walk.{Write}
use Rattle.state.specs.Lists.{pick, any}
use Rattle.state.proofs.Pairs.{any_append}
use Rattle.shore.specs.File.{puts, puts_of, puts_all}
use Rattle.shore.specs.Cover.{spans, covers, or_else, last_that, newest, byte_in, byte_over}
use Rattle.shore.proofs.Files.{look, touches, look_append}

-- ---- what bytes from an offset on reach over

pub spans_in : (o l p : ℕ) → o ≤ p → p < o + l → spans o l p ≡ true
unfolding spans both
spans_in o l p h k = rw (le-leb o p h, lt-ltb p (o + l) k)

pub spans_before : (o l p : ℕ) → p < o → spans o l p ≡ false
unfolding spans both
spans_before o l p h = rw (lt-leb o p h)

pub spans_after : (o l p : ℕ) → o + l ≤ p → spans o l p ≡ false
unfolding spans both
spans_after o l p h = let k : o ≤ p = omega arith in rw (le-leb o p k, le-ltb p (o + l) h)

pub spans_out : (o l p : ℕ) → spans o l p ≡ true → (o ≤ p) × (p < o + l)
unfolding spans
spans_out o l p e = (leb-true o p (both_left _ _ e), ltb-true p (o + l) (both_right (leb o p) _ e))

-- ---- the last that passes

pub last_snoc : {A : Type 0} (q : A → Bool) (xs : List A) (x : A) → last_that q (xs ++ x ∷ []) ≡ pick (q x) (Some x) (last_that q xs)
last_snoc q [] x = refl
last_snoc q (y ∷ ys) x = ap (λ o. or_else o (pick (q y) (Some y) None)) (last_snoc q ys x) ∙ at (q x)
  where
    at : (b : Bool) → or_else (pick b (Some x) (last_that q ys)) (pick (q y) (Some y) None) ≡ pick b (Some x) (or_else (last_that q ys) (pick (q y) (Some y) None))
    at true = refl
    at false = refl

-- there is one exactly where some element passes
abbrev pub is_some : {A : Type 0} → Option A → Bool
is_some None = false
is_some (Some x) = true

pub last_some : {A : Type 0} (q : A → Bool) (xs : List A) → is_some (last_that q xs) ≡ any q xs
last_some q [] = refl
last_some q (x ∷ xs) = at (last_that q xs) (any q xs) (q x) (last_some q xs)
  where
    at : (o : Option _) (a b : Bool) → is_some o ≡ a → is_some (or_else o (pick b (Some x) None)) ≡ pick b true a
    at None a true e = refl
    at None a false e = e
    at (Some y) a true e = refl
    at (Some y) a false e = e

pub last_passes : {A : Type 0} (q : A → Bool) (xs : List A) (x : A) → last_that q xs ≡ Some x → q x ≡ true
last_passes q [] x e = never (cc)
last_passes q (y ∷ ys) x e = at (last_that q ys) refl (q y) refl (last_passes q ys x) e
  where
    at : (o : Option _) → last_that q ys ≡ o → (b : Bool) → q y ≡ b → (last_that q ys ≡ Some x → q x ≡ true) → or_else o (pick b (Some y) None) ≡ Some x → q x ≡ true
    at None u true v k z = let w : y ≡ x = cc in ap q (sym w) ∙ v
    at None u false v k z = never (cc)
    at (Some w) u b v k z = k (u ∙ z)

-- ---- puts of bytes, at a place

pub look_puts : (bs : List ℕ) (o i d : ℕ) → look (puts o bs) i d ≡ pick (spans o (length bs) i) (get_or bs (i - o) 0) d
unfolding look puts
look_puts [] o i d = at (lt_or_le i o)
  where
    at : (i < o) ⊎ (o ≤ i) → d ≡ pick (spans o 0 i) (get_or [] (i - o) 0) d
    at (inl h) = rw (spans_before o 0 i h)
    at (inr h) = rw (spans_after o 0 i (omega arith))
look_puts (b ∷ bs) o i d = look_puts bs (suc o) i (pick (eqb o i) b d) ∙ at (lt_or_le i o) (lt_or_le i (o + length (b ∷ bs)))
  where
    at : (i < o) ⊎ (o ≤ i) → (i < o + length (b ∷ bs)) ⊎ (o + length (b ∷ bs) ≤ i)
        → pick (spans (suc o) (length bs) i) (get_or bs (i - suc o) 0) (pick (eqb o i) b d) ≡ pick (spans o (length (b ∷ bs)) i) (get_or (b ∷ bs) (i - o) 0) d
    at (inl h) k = rw (spans_before (suc o) (length bs) i (omega arith), spans_before o (length (b ∷ bs)) i h, ne_eqb o i (λ z. omega arith))
    at (inr h) (inr k) = rw (spans_after (suc o) (length bs) i (omega arith), spans_after o (length (b ∷ bs)) i k, ne_eqb o i (λ z. let n : length (b ∷ bs) ≡ suc (length bs) = refl in omega arith))
    at (inr h) (inl k) = here (eqb o i) refl
      where
        here : (t : Bool) → eqb o i ≡ t → pick (spans (suc o) (length bs) i) (get_or bs (i - suc o) 0) (pick t b d) ≡ pick (spans o (length (b ∷ bs)) i) (get_or (b ∷ bs) (i - o) 0) d
        here true e =
            let z : i - o ≡ 0 = omega (arith, eqb-true o i e) in
            rw (spans_before (suc o) (length bs) i (omega (arith, eqb-true o i e)), spans_in o (length (b ∷ bs)) i h k, z)
        here false e =
            let n = eqb-false o i e in
            let l : o < i = omega (arith, n) in
            let z : i - o ≡ suc (i - suc o) = omega arith in
            rw (spans_in (suc o) (length bs) i l (omega arith), spans_in o (length (b ∷ bs)) i h k, z)

pub touch_puts : (bs : List ℕ) (o i : ℕ) → touches i (puts o bs) ≡ spans o (length bs) i
unfolding puts
touch_puts [] o i = at (lt_or_le i o)
  where
    at : (i < o) ⊎ (o ≤ i) → false ≡ spans o 0 i
    at (inl h) = rw (spans_before o 0 i h)
    at (inr h) = rw (spans_after o 0 i (omega arith))
touch_puts (b ∷ bs) o i = ap (pick (eqb o i) true) (touch_puts bs (suc o) i) ∙ at (lt_or_le i o) (eqb o i) refl (lt_or_le i (suc o + length bs))
  where
    at : (i < o) ⊎ (o ≤ i) → (t : Bool) → eqb o i ≡ t → (i < suc o + length bs) ⊎ (suc o + length bs ≤ i) → pick t true (spans (suc o) (length bs) i) ≡ spans o (length (b ∷ bs)) i
    at (inl h) true e k = absurd (omega (arith, eqb-true o i e))
    at (inl h) false e k = rw (spans_before (suc o) (length bs) i (omega arith), spans_before o (length (b ∷ bs)) i h)
    at (inr h) true e k = rw (spans_in o (length (b ∷ bs)) i h (omega (arith, eqb-true o i e)))
    at (inr h) false e (inl k) =
        let n = eqb-false o i e in
        let l : o < i = omega (arith, n) in
        rw (spans_in (suc o) (length bs) i l k, spans_in o (length (b ∷ bs)) i h (omega arith))
    at (inr h) false e (inr k) = rw (spans_after (suc o) (length bs) i k, spans_after o (length (b ∷ bs)) i (omega arith))

-- ---- writes laid in order

pub look_all : (ws : List Write) (i d : ℕ) → look (puts_all ws) i d ≡ byte_over i d ws
unfolding puts_all byte_over look
look_all [] i d = refl
look_all (w ∷ ws) i d =
    look_append (puts_of w) (puts_all ws) i d ∙ ap (look (puts_all ws) i) (look_puts w.bytes w.offset i d) ∙ look_all ws i _
    ∙ at (newest i ws) (covers i w)
  where
    at : (o : Option Write) (b : Bool) → byte_in i (pick b (get_or w.bytes (i - w.offset) 0) d) o ≡ byte_in i d (or_else o (pick b (Some w) None))
    at None true = refl
    at None false = refl
    at (Some x) b = refl

pub touch_all : (ws : List Write) (i : ℕ) → touches i (puts_all ws) ≡ any (covers i) ws
unfolding puts_all
touch_all [] i = refl
touch_all (w ∷ ws) i =
    any_append (λ q. eqb q.place i) (puts_of w) (puts_all ws)
    ∙ ap (λ b. pick b true (touches i (puts_all ws))) (touch_puts w.bytes w.offset i) ∙ ap (pick (covers i w) true) (touch_all ws i)
