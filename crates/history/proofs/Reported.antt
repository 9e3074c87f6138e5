-- A batch reported good: it stands on shore whole, and what waits is the rest.
use Rattle.std.specs.Prelude.{Some}
use Prim.Native.Nat.{ℕ, suc, ◌<◌}
use mathlib.Core.Path.{◌≡◌, refl, sym, ap, ◌∙◌, subst}
use mathlib.Core.Bool.{Bool, true, false, not}
use mathlib.Core.List.{List, [], ◌∷◌, ◌++◌, append-nil}
use native.Mathlib.Omega.{arith}
use borrow.Author.Tests.{eqb-true, eq-eqb}
use lib.ListN.{length, get_or}
use lib.Seq.{ext_get_or}
use lib.Dec.{eqb}
use Rattle.layout.specs.Bytes.{both}
use Rattle.walk.specs.Walk.{Write}
use Rattle.state.specs.Lists.{pick, those}
use Rattle.state.proofs.Bools.{no_both, both_yes}
use Rattle.state.proofs.Pairs.{any_append}
use Rattle.state.proofs.Finding.{Each}
use Rattle.shore.specs.File.{Put, put, lay, puts_all}
use Rattle.shore.proofs.Files.{put_length, put_get}
use Rattle.sheet.specs.Sheet.{sheet_of, puts_in}
use Rattle.sheet.proofs.Laying.{sheet_lays}
use Rattle.history.specs.World.{nth}
use Rattle.history.specs.Tale.{Tale, among, numbers_of, is_of}
use Rattle.state.proofs.Those.{those_append, those_none, those_same, those_all, those_both}
use Rattle.history.proofs.Shores.{waits, waiting}
use Rattle.history.proofs.Agreeing.{Stood, SheetOut}

-- ---- puts that stand change nothing

put_stood : (f : List ℕ) (q : Put) → Stood f q → put f q.place q.byte ≡ f
put_stood f q o =
    let h = o.inside in
    ext_get_or 0 _ f (put_length f q.place q.byte ∙ omega arith) (λ j _. put_get f q.place q.byte j ∙ at j (eqb q.place j) refl)
  where
    at : (j : ℕ) (b : Bool) → eqb q.place j ≡ b → pick b q.byte (get_or f j 0) ≡ get_or f j 0
    at j true e = sym o.byte ∙ ap (λ i. get_or f i 0) (eqb-true q.place j e)
    at j false e = refl

lay_stood : (f : List ℕ) (qs : List Put) → Each (Stood f) qs → lay f qs ≡ f
unfolding lay
lay_stood f [] o = refl
lay_stood f (q ∷ qs) o = ap (λ g. lay g qs) (put_stood f q o.0) ∙ lay_stood f qs o.1

-- each put is the one at some place of the list
each_nth : (P : Put → Type 0) (qs : List Put) → ((k : ℕ) → k < length qs → (q : Put) → nth k qs ≡ Some q → P q) → Each P qs
each_nth P [] h = tt
each_nth P (q ∷ qs) h = (h 0 (omega arith) q refl, each_nth P qs (λ k l x e. h (suc k) (omega arith) x e))

module _ (sheet : List ℕ) (shore : ℕ → List ℕ) (t : Tale) (o : SheetOut sheet shore t) where
  pub batch_stands : ((k : ℕ) → k < length (puts_in sheet) → among k t.landed ≡ true) → lay (shore o.node) (puts_all t.batch) ≡ shore o.node
  batch_stands h =
      let e : sheet ≡ sheet_of o.node t.batch ++ [] = o.is ∙ sym (append-nil (sheet_of o.node t.batch)) in
      sym (sheet_lays t.batch o.ends o.node [] (shore o.node)) ∙ ap (λ x. lay (shore o.node) (puts_in x)) (sym e)
      ∙ lay_stood (shore o.node) (puts_in sheet) (each_nth (Stood (shore o.node)) (puts_in sheet) (λ k l q z. o.stood k (h k l) q z))

  -- ---- what waits after it

  abbrev b : List ℕ
  b = numbers_of t.batch

  both_of : (n : ℕ) (w : Write) → waits (t.good ++ b) n w ≡ both (waits t.good n w) (not (among w.number b))
  unfolding both
  both_of n w = ap (λ x. both (is_of n w) (not x)) (any_append (λ k. eqb k w.number) t.good b) ∙ at (is_of n w) (among w.number t.good)
    where
      at : (x y : Bool) → both x (not (pick y true (among w.number b))) ≡ both (both x (not y)) (not (among w.number b))
      at true true = refl
      at true false = refl
      at false y = refl

  each_of : (n : ℕ) (ws : List Write) → Each (λ w. waits (t.good ++ b) n w ≡ both (waits t.good n w) (not (among w.number b))) ws
  each_of n [] = tt
  each_of n (w ∷ ws) = (both_of n w, each_of n ws)

  in_batch : (ws vs : List Write) → Each (λ w. not (among w.number (numbers_of (ws ++ vs))) ≡ false) vs
  in_batch ws [] = tt
  in_batch ws (v ∷ vs) = (here ws, subst (λ xs. Each (λ w. not (among w.number (numbers_of xs)) ≡ false) vs) (shift ws) (in_batch (ws ++ v ∷ []) vs))
    where
      here : (us : List Write) → not (among v.number (numbers_of (us ++ v ∷ vs))) ≡ false
      here [] = rw (eq-eqb v.number v.number refl)
      here (u ∷ us) = at (eqb u.number v.number) (here us)
        where
          at : (x : Bool) → not (among v.number (numbers_of (us ++ v ∷ vs))) ≡ false → not (pick x true (among v.number (numbers_of (us ++ v ∷ vs)))) ≡ false
          at true e = refl
          at false e = e

      shift : (us : List Write) → (us ++ v ∷ []) ++ vs ≡ us ++ v ∷ vs
      shift [] = refl
      shift (u ∷ us) = ap (◌∷◌ u) (shift us)

  not_each : (ws : List Write) → Each (λ w. among w.number b ≡ false) ws → Each (λ w. not (among w.number b) ≡ true) ws
  not_each [] u = tt
  not_each (w ∷ ws) u = (rw u.0, not_each ws u.1)

  pub rest_waits : waiting (t.good ++ b) o.node t.held ≡ o.rest
  rest_waits =
      those_same (waits (t.good ++ b) o.node) _ t.held (each_of o.node t.held)
      ∙ those_both (waits t.good o.node) (λ w. not (among w.number b)) t.held
      ∙ ap (those (λ w. not (among w.number b))) o.front ∙ those_append (λ w. not (among w.number b)) t.batch o.rest
      ∙ ap (◌++ those (λ w. not (among w.number b)) o.rest) (those_none (λ w. not (among w.number b)) t.batch (in_batch [] t.batch))
      ∙ those_all (λ w. not (among w.number b)) o.rest (not_each o.rest o.apart)

  other_by : (n : ℕ) → (n ≡ o.node → ⊥) → (ws : List Write) → Each (λ w. among w.number b ≡ true → is_of o.node w ≡ true) ws → Each (λ w. waits (t.good ++ b) n w ≡ waits t.good n w) ws
  other_by n d [] u = tt
  other_by n d (w ∷ ws) u = (both_of n w ∙ at (among w.number b) refl (is_of n w) refl, other_by n d ws u.1)
    where
      at : (x : Bool) → among w.number b ≡ x → (y : Bool) → is_of n w ≡ y → both (both y (not (among w.number t.good))) (not x) ≡ both y (not (among w.number t.good))
      at false e y z = both_yes _
      at true e true z = absurd (d (sym (eqb-true w.node n z) ∙ eqb-true w.node o.node (u.0 e)))
      at true e false z = rw (no_both (not (among w.number t.good))) (no_both false)

  pub others_wait : (n : ℕ) → (n ≡ o.node → ⊥) → waiting (t.good ++ b) n t.held ≡ waiting t.good n t.held
  others_wait n d = those_same (waits (t.good ++ b) n) (waits t.good n) t.held (other_by n d t.held o.own)
