-- The pin table and the live pins of the tale: a test passes for some live record of the table exactly if it passes for some live pin.
-- Document 01, "Moves", paragraph "Pins".
use Prim.Native.Nat.{ℕ, zero, suc, ◌<◌}
use mathlib.Core.Path.{◌≡◌, refl, sym, ◌∙◌, ap}
use mathlib.Core.Bool.{Bool, true, false, not}
use mathlib.Core.List.{List, [], ◌∷◌, ◌++◌}
use native.Mathlib.Omega.{arith}
use borrow.Author.Tests.{eqb-true, eqb-false, eq-eqb, ne_eqb, not-true}
use lib.ListN.{length, take, drop, get_or, set, replicate}
use lib.Seq.{set_split, split_at}
use lib.Dec.{eqb, leb}
use Rattle.layout.specs.Bytes.{both}
use Rattle.layout.proofs.Tests.{both_left, both_ext}
use Rattle.walk.specs.Walk.{Write}
use Rattle.state.specs.declared.Pin.{Pin}
use Rattle.state.specs.declared.Held.{Held}
use Rattle.state.specs.Lists.{pick, any, pairs, most_pins, no_pin, those}
use Rattle.state.specs.Pins.{is_live, keeps, pin_place, has_pin, has_pin_for}
use Rattle.state.proofs.Bools.{yes_both, no_both, both_yes, both_no, both_known}
use Rattle.state.proofs.Loops.{any_found}
use Rattle.state.proofs.Pairs.{any_append, pairs_before, pairs_right}
use Rattle.state.proofs.Finding.{Each, each_by, each_true, place_there}
use Rattle.judge.specs.Fits.{pins_differ}
use Rattle.history.specs.Tale.{in_reach, is_pinned}

pub record PinsAre (ps live : List Pin) : Type 0 where
  pub each : (q : Pin → Bool) → any (λ p. both (is_live p) (q p)) ps ≡ any q live

-- ---- tests over lists

module _ {A : Type 0} (p q : A → Bool) where
  any_same : (xs : List A) → Each (λ x. p x ≡ q x) xs → any p xs ≡ any q xs
  any_same [] o = refl
  any_same (x ∷ xs) o = rw (o.0, any_same xs o.1)

  -- of those that are kept
  any_kept : (xs : List A) → any q (those p xs) ≡ any (λ x. both (p x) (q x)) xs
  any_kept [] = refl
  any_kept (x ∷ xs) = at (p x) (any_kept xs)
    where
      at : (b : Bool) → any q (those p xs) ≡ any (λ x. both (p x) (q x)) xs → any q (pick b (x ∷ those p xs) (those p xs)) ≡ pick (both b (q x)) true (any (λ x. both (p x) (q x)) xs)
      at true k = rw (yes_both (q x), k)
      at false k = rw (no_both (q x)) k

-- ---- no pins

free_none : (m : ℕ) (q : Pin → Bool) → any (λ p. both (is_live p) (q p)) (replicate m no_pin) ≡ false
unfolding both
free_none zero q = refl
free_none (suc m) q = free_none m q

pub pins_none : PinsAre (replicate most_pins no_pin) []
pins_none = record { each = free_none most_pins }

-- ---- one more, in a free record

swapped : (a b c : Bool) → pick a true (pick b true c) ≡ pick (pick a true c) true (pick b true false)
swapped true b c = refl
swapped false true true = refl
swapped false true false = refl
swapped false false true = refl
swapped false false false = refl

module _ (ps live : List Pin) (i : ℕ) (l : i < length ps) where
  pub pins_added : (get_or ps i no_pin).number ≡ 0 → (p : Pin) → is_live p ≡ true → PinsAre ps live → PinsAre (set ps i p) (live ++ p ∷ [])
  unfolding both
  pins_added z p k a =
      record {
        each = λ q.
            let r : Pin → Bool = λ p. both (is_live p) (q p) in
            let xs = take i ps in
            let ys = drop (suc i) ps in
            let old : any r ps ≡ pick (any r xs) true (any r ys) = ap (any r) (split_at ps i no_pin l) ∙ any_append r xs (get_or ps i no_pin ∷ ys) ∙ rw z in
            ap (any r) (set_split ps i p l) ∙ any_append r xs (p ∷ ys) ∙ rw k (swapped (any r xs) (q p) (any r ys))
            ∙ ap (λ b. pick b true (pick (q p) true false)) (sym old ∙ a.each q)
            ∙ sym (any_append q live (p ∷ []));
      }

-- ---- one fewer: its record is free again

differ_by : (a b : ℕ) → 0 < b → pick (eqb b 0) true (not (eqb a b)) ≡ true → eqb a b ≡ false
differ_by a b z e = not-true _ (rw (ne_eqb b 0 (λ w. let x : ⊥ = omega arith in x)) at e)

module _ (ps live : List Pin) (number : ℕ) (z : 0 < number) (i : ℕ) (e : i ≡ pin_place number ps) (l : i < length ps) (d : pairs pins_differ ps ≡ true) where
  -- the record with that number
  abbrev here : Pin
  here = get_or ps i no_pin

  here_is : here.number ≡ number
  here_is =
      let is : Pin → Bool = λ p. eqb p.number number in
      eqb-true _ _ (ap (λ j. is (get_or ps j no_pin)) e ∙ (place_there is no_pin ps (any_found is ps (omega arith))).1)

  differing : pairs pins_differ (take i ps ++ here ∷ drop (suc i) ps) ≡ true
  differing = ap (pairs pins_differ) (sym (split_at ps i no_pin l)) ∙ d

  -- no other has it
  others_before : Each (λ x. eqb x.number number ≡ false) (take i ps)
  unfolding pins_differ
  others_before =
      let n = here_is in
      each_by (λ x. pins_differ x here ≡ true) (λ x. eqb x.number number ≡ false) (take i ps)
      (λ x k. ap (eqb x.number) (sym n) ∙ differ_by x.number here.number (omega arith) k)
      (each_true (λ x. pins_differ x here) (take i ps) (pairs_before pins_differ (take i ps) (drop (suc i) ps) here differing))

  others_behind : Each (λ x. is_live x ≡ true → eqb x.number number ≡ false) (drop (suc i) ps)
  unfolding pins_differ
  others_behind =
      let n = here_is in
      each_by (λ x. pins_differ here x ≡ true) (λ x. is_live x ≡ true → eqb x.number number ≡ false) (drop (suc i) ps)
      (λ x k v. ne_eqb x.number number (λ w. eqb-false here.number x.number (differ_by here.number x.number (omega arith) k) (n ∙ sym w)))
      (each_true (pins_differ here) (drop (suc i) ps) (both_left _ _ (pairs_right pins_differ (take i ps) (here ∷ drop (suc i) ps) differing)))

  abbrev stays : Pin → Bool
  stays p = not (eqb p.number number)

  module _ (q : Pin → Bool) where
    abbrev r : Pin → Bool
    r p = both (is_live p) (q p)

    abbrev s : Pin → Bool
    s p = both (is_live p) (both (stays p) (q p))

    other_same : (x : Pin) → (is_live x ≡ true → eqb x.number number ≡ false) → r x ≡ s x
    other_same x k = both_ext (is_live x) (q x) (both (stays x) (q x)) (λ v. sym (both_known (stays x) (q x) (ap not (k v))))

    here_fails : s here ≡ false
    here_fails = rw (eq-eqb here.number number here_is, no_both (q here)) (both_no (is_live here))

    removed_any : any r (set ps i no_pin) ≡ any s ps
    unfolding both
    removed_any =
        let xs = take i ps in
        let ys = drop (suc i) ps in
        ap (any r) (set_split ps i no_pin l) ∙ any_append r xs (no_pin ∷ ys)
        ∙ ap (λ b. pick b true (any r ys)) (any_same r s xs (each_by _ _ xs (λ x k. other_same x (λ _. k)) others_before))
        ∙ ap (pick (any s xs) true) (any_same r s ys (each_by _ _ ys other_same others_behind))
        ∙ ap (λ b. pick (any s xs) true (pick b true (any s ys))) (sym here_fails)
        ∙ sym (any_append s xs (here ∷ ys)) ∙ ap (any s) (sym (split_at ps i no_pin l))

  pub pins_removed : PinsAre ps live → PinsAre (set ps i no_pin) (those (λ p. not (eqb p.number number)) live)
  pins_removed a = record { each = λ q. removed_any q ∙ a.each (λ p. both (stays p) (q p)) ∙ sym (any_kept stays q live) }

-- ---- what is asked of pins

every : {A : Type 0} (P : A → Type 0) → ((x : A) → P x) → (xs : List A) → Each P xs
every P k [] = tt
every P k (x ∷ xs) = (k x, every P k xs)

module _ (ps live : List Pin) (a : PinsAre ps live) where
  -- a question that only a live record can pass
  asked : (p q : Pin → Bool) → ((x : Pin) → p x ≡ both (is_live x) (q x)) → any p ps ≡ any q live
  asked p q k = any_same p (λ x. both (is_live x) (q x)) ps (every _ k ps) ∙ a.each q

  pub pins_keep : (h : Held) (w : Write) → w.number ≡ h.entry.number → w.node ≡ h.entry.node → any (keeps h) ps ≡ is_pinned live w
  unfolding keeps
  pins_keep h w n m = asked (keeps h) (λ p. both (in_reach p.node w) (leb p.mark w.number)) (λ p. rw (n, m))

  module _ (number : ℕ) (z : 0 < number) where
    -- a record with that number is live
    named : (p : Pin) (b : Bool) → both (eqb p.number number) b ≡ both (is_live p) (both (eqb p.number number) b)
    named p b = at (eqb p.number number) refl
      where
        at : (t : Bool) → eqb p.number number ≡ t → both t b ≡ both (is_live p) (both t b)
        at true e =
            let n = eqb-true p.number number e in
            sym (both_known (is_live p) (both true b) (ap not (ne_eqb p.number 0 (λ w. let x : ⊥ = omega arith in x))))
        at false e = rw (no_both b) (sym (both_no (is_live p)))

    pub pins_has_for : (node : ℕ) → has_pin_for number node ps ≡ any (λ p. both (eqb p.number number) (eqb p.node node)) live
    pins_has_for node =
        let q : Pin → Bool = λ p. both (eqb p.number number) (eqb p.node node) in
        asked q q (λ p. named p (eqb p.node node))

    pub pins_has : has_pin number ps ≡ any (λ p. eqb p.number number) live
    pins_has =
        let q : Pin → Bool = λ p. eqb p.number number in
        asked q q (λ p. sym (both_yes (q p)) ∙ named p true ∙ ap (both (is_live p)) (both_yes (q p)))
