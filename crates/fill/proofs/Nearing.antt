-- The writes that touch a part of a node's file: the pass that chooses them, and that no other write decides a byte of the part.
use Prim.Native.Nat.{ℕ, ◌+◌, ◌≤◌, ◌<◌}
use mathlib.Core.Path.{◌≡◌, refl, sym, ap, ◌∙◌}
use mathlib.Core.Bool.{Bool, true, false}
use mathlib.Core.List.{List, [], ◌∷◌, ◌++◌, append-nil}
use native.Mathlib.Omega.{arith}
use native.Mathlib.Numerals.{add-one}
use borrow.Author.Tests.{lt-ltb}
use lib.ListN.{length, take, get_or, length-append}
use lib.Seq.{take-length, take-suc}
use Rattle.layout.proofs.Tests.{both_left}
use Rattle.state.specs.declared.Held.{Held}
use Rattle.state.specs.Lists.{pick, no_held, those}
use Rattle.state.specs.Asks.{end_of}
use Rattle.state.proofs.Bools.{both_intro}
use Rattle.state.proofs.Those.{those_append}
use Rattle.rules.specs.Fill.{is_of, writes_by}
use Rattle.fill.specs.Overlay.{is_over, is_near, overlaid}
use Rattle.fill.proofs.Seeking.{over_inside, byte_those}
use Rattle.fill.proofs.Overlaying.{over_same}

-- ---- the pass: those of the first i that pass the test are chosen

pub record Choosing (q : Held → Bool) (l : List Held) (out : List Held) (i : ℕ) : Type 0 where
  pub upto : i ≤ length l
  pub few : length out ≤ i
  pub chosen : out ≡ those q (take i l)

module _ (q : Held → Bool) (l : List Held) where
  pub choose_start : (out : List Held) → out ≡ [] → Choosing q l out 0
  choose_start out e = record { upto = omega arith; few = rw e (omega arith); chosen = e }

  module _ (out : List Held) (i : ℕ) (k : Choosing q l out i) where
    module _ (h : i < length l) where
      abbrev x : Held
      x = get_or l i no_held

      -- one more is looked at
      more : (b : Bool) → q x ≡ b → those q (take (i + 1) l) ≡ those q (take i l) ++ pick b (x ∷ []) []
      more b e =
          ap (those q) (ap (λ j. take j l) (add-one i) ∙ take-suc l i no_held h) ∙ those_append q (take i l) (x ∷ [])
          ∙ ap (λ t. those q (take i l) ++ pick t (x ∷ []) []) e

      pub choose_yes : (out' : List Held) → q x ≡ true → out' ≡ out ++ x ∷ [] → Choosing q l out' (i + 1)
      choose_yes out' e a =
          let f = k.few in
          let n : length out' ≡ length out + 1 = ap length a ∙ length-append out (x ∷ []) in
          record { upto = omega arith; few = omega arith; chosen = a ∙ ap (λ ys. ys ++ x ∷ []) k.chosen ∙ sym (more true e) }

      pub choose_no : (out' : List Held) → q x ≡ false → out' ≡ out → Choosing q l out' (i + 1)
      choose_no out' e a =
          let f = k.few in
          let n : length out' ≡ length out = ap length a in
          record { upto = omega arith; few = omega arith; chosen = a ∙ k.chosen ∙ sym (more false e ∙ append-nil (those q (take i l))) }

    pub choose_end : length l ≤ i → out ≡ those q l
    choose_end h =
        let u = k.upto in
        let z : i ≡ length l = omega arith in
        k.chosen ∙ ap (those q) (ap (λ j. take j l) z ∙ take-length l)

pub no_length : (out : List Held) → length out ≡ 0 → out ≡ []
no_length [] e = refl
no_length (x ∷ xs) e = absurd (omega arith)

-- ---- a write that is over a place of the part is among those chosen, so no other decides a byte of it

module _ (node from end : ℕ) where
  over_near : (p : ℕ) → from ≤ p → p < end → (h : Held) → is_over node p h ≡ true → is_near node from end h ≡ true
  over_near p a b h e =
      let k = over_inside node p h e in
      let l = k.0 in
      let m = k.1 in
      both_intro _ _ (both_left (is_of node h) _ e) (both_intro _ _ (lt-ltb h.entry.offset end (omega arith)) (lt-ltb from (end_of h) (omega arith)))

  pub near_same : (held near : List Held) → near ≡ those (is_near node from end) held → (f : ℕ → ℕ) (bs : List ℕ)
      → from + length bs ≤ end → overlaid (writes_by node f near) from bs ≡ overlaid (writes_by node f held) from bs
  near_same held near e f bs h =
      ap (λ ks. overlaid (writes_by node f ks) from bs) e
      ∙ over_same _ _ from bs (λ p b u v. byte_those node f p (is_near node from end) (over_near p u (omega arith)) b held)
