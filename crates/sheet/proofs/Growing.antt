-- How pieces grow from place to place: past bare places, through a piece, and on to the next.
use Prim.Native.Nat.{ℕ, zero, suc, ◌+◌, ◌-◌, ◌≤◌, ◌<◌}
use native.Mathlib.Nat.{add-suc, add-zero, le_refl, eq-or-lt_of_le}
use native.Mathlib.Numerals.{add-one}
use native.Mathlib.Omega.{arith}
use mathlib.Core.Path.{◌≡◌, refl, sym, ap, ◌∙◌}
use mathlib.Core.Bool.{Bool, false}
use mathlib.Core.Logic.{⊎_elim}
use mathlib.Core.List.{◌∷◌}
use borrow.Author.Tests.{eq-eqb, ne_eqb, lt-ltb, le-ltb}
use lib.Dec.{eqb, ltb}
use Rattle.layout.specs.Bytes.{both}
use Rattle.state.specs.Lists.{pick}
use Rattle.state.proofs.Bools.{both_no, no_both}
use Rattle.sheet.specs.Sheet.{piece_size, piece, goes_on, join, gather}
use Rattle.sheet.specs.Places.{is_short, grow, First, Ends}

-- two keys that agree at every place below give the same pieces
pub gather_same : (may : ℕ → Bool) (c d : ℕ → ℕ) (p : ℕ) → ((q : ℕ) → q < p → c q ≡ d q) → gather may c p ≡ gather may d p
unfolding gather
gather_same may c d zero h = refl
gather_same may c d (suc p) h =
    ap (λ k. join may k p (gather may c p)) (h p (omega arith)) ∙ ap (join may (d p) p) (gather_same may c d p (λ q x. h q (omega arith)))

module _ (c : ℕ → ℕ) where
  grow_suc : (p k : ℕ) → c p ≡ k → grow c (suc p) ≡ join is_short k p (grow c p)
  unfolding gather
  grow_suc p k e = ap (λ t. join is_short t p (grow c p)) e

  -- ---- past bare places

  skip : (a k : ℕ) → ((q : ℕ) → a ≤ q → q < a + k → c q ≡ 0) → grow c (a + k) ≡ grow c a
  skip a zero h = ap (grow c) (add-zero a)
  skip a (suc k) h =
      ap (grow c) (add-suc a k) ∙ grow_suc (a + k) 0 (h (a + k) (omega arith) (omega (arith, add-suc a k)))
      ∙ skip a k (λ q x y. h q x (omega (arith, add-suc a k)))

  pub skip_to : (a b : ℕ) → a ≤ b → ((q : ℕ) → a ≤ q → q < b → c q ≡ 0) → grow c b ≡ grow c a
  skip_to a b l h =
      let e : a + (b - a) ≡ b = omega arith in
      ap (grow c) (sym e) ∙ skip a (b - a) (λ q x y. h q x (omega arith))

  -- ---- through a piece

  -- from s on up to e, a covered byte begins a piece
  pub Shut : ℕ → ℕ → Type 0
  Shut s e = (p k : ℕ) → s ≤ p → p < e → c p ≡ suc k → join is_short (suc k) p (grow c s) ≡ piece p 1 (suc k) ∷ grow c s

  more : (s e h k : ℕ) → suc k ≤ piece_size → s + suc k ≤ e → ((q : ℕ) → s ≤ q → q < s + suc k → c q ≡ suc h) → Shut s e
      → grow c (s + suc k) ≡ piece s (suc k) (suc h) ∷ grow c s
  unfolding Shut goes_on both
  more s e h zero f m g z =
      let t : c s ≡ suc h = g s (omega arith) (omega arith) in
      ap (grow c) (add-one s) ∙ grow_suc s (suc h) t ∙ z s h (le_refl s) (omega arith) t
  more s e h (suc k) f m g z =
      let a : s + suc (suc k) ≡ suc (s + suc k) = add-suc s (suc k) in
      let i : grow c (s + suc k) ≡ piece s (suc k) (suc h) ∷ grow c s = more s e h k (omega arith) (omega arith) (λ q x y. g q x (omega arith)) z in
      ap (grow c) a ∙ grow_suc (s + suc k) (suc h) (g (s + suc k) (omega arith) (omega arith))
      ∙ ap (join is_short (suc h) (s + suc k)) i
      ∙ simp (eq-eqb (s + suc k) (s + suc k) refl, lt-ltb (suc k) piece_size (omega arith), eq-eqb (suc h) (suc h) refl, add-one)

  keyed : (k : ℕ) → 0 < k → k ≡ suc (k - 1)
  keyed k h = omega arith

  -- up to r, the piece from s is the last
  pub grown : (s e r : ℕ) → 0 < c s → Shut s e → Ends c s e r → grow c r ≡ piece s (r - s) (c s) ∷ grow c s
  grown s e r y z n =
      let a : s + suc (r - s - 1) ≡ r = omega (arith, n.after) in
      let b : suc (r - s - 1) ≡ r - s = omega (arith, n.after) in
      ap (grow c) (sym a)
      ∙ more s e (c s - 1) (r - s - 1) (omega (arith, n.fits)) (omega (arith, n.most)) (λ q x w. n.held q x (omega arith) ∙ keyed (c s) y) z
      ∙ ap (λ l. piece s l (suc (c s - 1)) ∷ grow c s) b ∙ ap (λ k. piece s (r - s) k ∷ grow c s) (sym (keyed (c s) y))

  -- ---- a turn of the pass: from behind a piece past bare places to the next, and through it

  pub skip_shut : (a e t : ℕ) → Shut a e → First c a e t → Shut t e
  unfolding Shut
  skip_shut a e t z f p k h m x = rw (skip_to a t f.from f.bare) (z p k (omega (arith, f.from)) m x)

  pub grown_shut : (s e r : ℕ) → 0 < c s → Shut s e → Ends c s e r → Shut r e
  unfolding Shut goes_on
  grown_shut s e r y z n p h rp pe cp =
      let g : grow c r ≡ piece s (r - s) (c s) ∷ grow c s = grown s e r y z n in
      let full : r ≡ s + piece_size → both (eqb (s + (r - s)) p) (both (ltb (r - s) piece_size) (eqb (c s) (suc h))) ≡ false =
      λ x. ap (λ b. both (eqb (s + (r - s)) p) (both b (eqb (c s) (suc h)))) (le-ltb (r - s) piece_size (omega arith))
      ∙ ap (both (eqb (s + (r - s)) p)) (no_both (eqb (c s) (suc h))) ∙ both_no (eqb (s + (r - s)) p) in
      let away : r < p → both (eqb (s + (r - s)) p) (both (ltb (r - s) piece_size) (eqb (c s) (suc h))) ≡ false =
      λ x. ap (λ b. both b (both (ltb (r - s) piece_size) (eqb (c s) (suc h)))) (ne_eqb (s + (r - s)) p (λ w. let u : r ≡ p = omega (arith, n.after) in omega arith)) ∙ no_both _ in
      let other : r < s + piece_size → r ≡ p → both (eqb (s + (r - s)) p) (both (ltb (r - s) piece_size) (eqb (c s) (suc h))) ≡ false =
      λ x u. ap (λ b. both (eqb (s + (r - s)) p) (both (ltb (r - s) piece_size) b))
      (ne_eqb (c s) (suc h) (λ w. n.bare x (omega arith) (ap c u ∙ cp ∙ sym w)))
      ∙ ap (both (eqb (s + (r - s)) p)) (both_no (ltb (r - s) piece_size)) ∙ both_no (eqb (s + (r - s)) p) in
      rw g (ap (λ b. pick b (piece s (r - s + 1) (c s) ∷ grow c s) (piece p 1 (suc h) ∷ piece s (r - s) (c s) ∷ grow c s))
      (⊎_elim full (λ x. ⊎_elim (other x) away (eq-or-lt_of_le rp)) (eq-or-lt_of_le n.fits)))

  -- ---- where the pass begins

  pub start_shut : (e : ℕ) → Shut 0 e
  unfolding Shut gather
  start_shut e p k x y z = refl
