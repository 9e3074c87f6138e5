-- What each return of write, unpin and report comes to: the calls that change the ring.
use Rattle.std.specs.Prelude.{None, Result, Ok, Err}
use Prim.Native.Nat.{ℕ, ◌+◌, ◌≤◌, ◌<◌}
use mathlib.Core.Path.{◌≡◌, refl, sym, ◌∙◌, ap}
use mathlib.Core.Bool.{Bool, true, false}
use mathlib.Core.List.{List, [], ◌∷◌, ◌++◌, map}
use native.Mathlib.Omega.{arith}
use borrow.Author.Tests.{eq-eqb, ne_eqb, lt-ltb, le-ltb}
use lib.ListN.{length, set, length-map}
use lib.Dec.{eqb, ltb}
use Rattle.reason.specs.declared.Reason.{Reason}
use Rattle.reason.specs.declared.Reason.TheVariants.{NotTheFlush, NoSuchPin}
use Rattle.layout.specs.Sizes.{most_entries}
use Rattle.layout.specs.Bytes.{both}
use Rattle.layout.specs.Rack.{items}
use Rattle.walk.specs.declared.Entry.{Entry}
use Rattle.walk.specs.Walk.{readable, slots_used}
use Rattle.store.specs.Store.{stored, head_moved}
use Rattle.ring.specs.Ring.{slot_after}
use Rattle.state.specs.declared.State.{State}
use Rattle.state.specs.declared.Held.{Held}
use Rattle.state.specs.Lists.{all, no_pin, unflushed, phase_fits, entry_of, with_next, with_flush, with_pins, with_held}
use Rattle.state.specs.Moves.{good, bad, reported}
use Rattle.state.specs.Pins.{staying, slots_left, pin_place, has_pin}
use Rattle.state.proofs.Bools.{both_intro, no_both, both_no}
use Rattle.state.proofs.Reports.{Event, report_entries, report_fits}
use Rattle.state.proofs.PinTable.{place_none, place_some}
use Rattle.judge.specs.declared.Judged.{Judged}
use Rattle.rules.specs.Call.{write, unpin, report}
use Rattle.rules.specs.Refusals.{own}
use Rattle.rules.specs.Outcome.{outcome_by, says, refuses, new_entry, may_of, outcome}
use Rattle.rules.specs.Known.{Known}
use Rattle.rules.proofs.Judging.{Judges, judge_passes}
use Rattle.rules.proofs.Owning.{own_write, own_unpin, own_report, sure, Writable, writes_when}
use Rattle.rules.proofs.Saying.{may_none, may_some}

pub judges_write : (node handle offset : ℕ) (bs : List ℕ) → Judges (write node handle offset bs)
judges_write node handle offset bs = record { reads = refl; fits = refl }

pub judges_unpin : (number : ℕ) → Judges (unpin number)
judges_unpin number = record { reads = refl; fits = refl }

pub judges_report : (number : ℕ) (went : Bool) → Judges (report number went)
judges_report number went = record { reads = refl; fits = refl }

module _ (r : List ℕ) (s : State) (j : Judged) (k : Known r s j) where
  -- ---- unpin

  module _ (number : ℕ) where
    no_pin_law : both (ltb 0 number) (has_pin number s.pins) ≡ false → outcome_by (refuses NoSuchPin) s r ≡ outcome (unpin number) r s
    no_pin_law e = sym (judge_passes (unpin number) (judges_unpin number) r s j k ∙ rw (own_unpin r (readable j.ring k.entries) s number, e))

    pub unpin_zero : number ≡ 0 → outcome_by (refuses NoSuchPin) s r ≡ outcome (unpin number) r s
    unpin_zero z = no_pin_law (rw z (no_both (has_pin 0 s.pins)))

    pub unpin_none : pin_place number s.pins ≡ length s.pins → outcome_by (refuses NoSuchPin) s r ≡ outcome (unpin number) r s
    unpin_none z = no_pin_law (ap (both (ltb 0 number)) (place_none s.pins number z) ∙ both_no (ltb 0 number))

    module _ (place : ℕ) (e : (place ≡ pin_place number s.pins) × (place < length s.pins)) where
      pub unpin_done : (number ≡ 0 → ⊥) → (t : State) (r' : List ℕ)
          → t ≡ with_held (with_pins s (set s.pins place no_pin)) (staying (set s.pins place no_pin) (items j.held))
          → r' ≡ head_moved r (slot_after j.ring (slots_left (set s.pins place no_pin) (items j.held)))
          → outcome_by (says []) t r' ≡ outcome (unpin number) r s
      unpin_done n t r' et er =
          let o : both (ltb 0 number) (has_pin number s.pins) ≡ true = both_intro _ _ (lt-ltb 0 number (omega (arith, n))) (place_some s.pins number place e.0 e.1) in
          sym (judge_passes (unpin number) (judges_unpin number) r s j k ∙ rw (own_unpin r (readable j.ring k.entries) s number, o, et, er, ← e.0))

  -- ---- report

  module _ (number : ℕ) (went : Bool) where
    not_flush : both (ltb 0 s.flush) (eqb number s.flush) ≡ false → outcome_by (refuses NotTheFlush) s r ≡ outcome (report number went) r s
    not_flush e = sym (judge_passes (report number went) (judges_report number went) r s j k ∙ rw (own_report r (readable j.ring k.entries) s number went, e))

    pub report_none : s.flush ≡ 0 → outcome_by (refuses NotTheFlush) s r ≡ outcome (report number went) r s
    report_none z = not_flush (ap (λ b. both b (eqb number s.flush)) (le-ltb 0 s.flush (omega arith)) ∙ no_both (eqb number s.flush))

    pub report_other : (number ≡ s.flush → ⊥) → outcome_by (refuses NotTheFlush) s r ≡ outcome (report number went) r s
    report_other z = not_flush (ap (both (ltb 0 s.flush)) (ne_eqb number s.flush z) ∙ both_no (ltb 0 s.flush))

    is_flush : (s.flush ≡ 0 → ⊥) → number ≡ s.flush → both (ltb 0 s.flush) (eqb number s.flush) ≡ true
    is_flush z e = both_intro _ _ (lt-ltb 0 s.flush (omega (arith, z))) (eq-eqb number s.flush e)

  -- the held writes after a report
  module _ (event : ℕ) (v : Event event) (moved : List Held) (e : moved ≡ map (reported event) (items j.held)) where
    pub moved_few : length moved ≤ most_entries
    moved_few =
        let o = sure r s j k in
        let f = o.few in
        let n : length moved ≡ length (items j.held) = ap length e ∙ length-map (items j.held) (reported event) in
        omega arith

    pub moved_fits : all phase_fits moved ≡ true
    moved_fits = ap (all phase_fits) e ∙ report_fits event v (items j.held) (sure r s j k).phases

    pub moved_slots : slots_used (map entry_of moved) ≤ most_entries
    moved_slots =
        let a : slots_used (map entry_of moved) ≡ slots_used (map entry_of (items j.held)) =
        ap (λ hs. slots_used (map entry_of hs)) e ∙ ap slots_used (report_entries event (items j.held)) in
        let o = sure r s j k in
        let u = o.slots in
        let f = o.free in
        let h = o.sized.high in
        omega arith

  module _ (number : ℕ) (z : s.flush ≡ 0 → ⊥) (q : number ≡ s.flush) (moved : List Held) (t : State) (r' : List ℕ) where
    pub report_good : moved ≡ map (reported good) (items j.held)
        → t ≡ with_held (with_flush s 0) (staying s.pins moved)
        → r' ≡ head_moved r (slot_after j.ring (slots_left s.pins moved))
        → outcome_by (says []) t r' ≡ outcome (report number true) r s
    report_good e et er =
        sym (judge_passes (report number true) (judges_report number true) r s j k ∙ rw (own_report r (readable j.ring k.entries) s number true, is_flush number true z q, et, er, e))

    pub report_bad : moved ≡ map (reported bad) (items j.held)
        → t ≡ with_held (with_flush s 0) moved → outcome_by (says []) t r ≡ outcome (report number false) r s
    report_bad e et =
        sym (judge_passes (report number false) (judges_report number false) r s j k ∙ rw (own_report r (readable j.ring k.entries) s number false, is_flush number false z q, et, e))

  -- ---- write

  module _ (node handle offset : ℕ) (bs : List ℕ) where
    abbrev verdict : Result (Unit {0}) Reason
    verdict = may_of (own (write node 0 offset bs) [] (readable j.ring []) s)

    same : own (write node handle offset bs) r (readable j.ring k.entries) s ≡ own (write node 0 offset bs) [] (readable j.ring []) s
    same = own_write r (readable j.ring k.entries) s node handle offset bs ∙ sym (own_write [] (readable j.ring []) s node 0 offset bs)

    pub write_refused : (why : Reason) → Err why ≡ verdict → outcome_by (refuses why) s r ≡ outcome (write node handle offset bs) r s
    write_refused why e =
        sym (judge_passes (write node handle offset bs) (judges_write node handle offset bs) r s j k ∙ rw (same ∙ may_some _ why e))

    module _ (t : Unit {0}) (e : Ok t ≡ verdict) where
      goes : own (write node 0 offset bs) [] (readable j.ring []) s ≡ None
      goes = may_none _ t e

      pub writable : Writable j.ring s node offset (length bs)
      writable = writes_when j.ring s node offset bs goes

      pub write_done_law : (x : Entry) (s' : State) (r' : List ℕ) → x ≡ new_entry j.ring s.next (write node handle offset bs)
          → s' ≡ with_next (with_held s (items j.held ++ record { entry = x; phase = unflushed } ∷ [])) (s.next + 1)
          → r' ≡ stored r j.ring.n x bs → outcome_by (says (s.next ∷ [])) s' r' ≡ outcome (write node handle offset bs) r s
      write_done_law x s' r' ex et er =
          sym (judge_passes (write node handle offset bs) (judges_write node handle offset bs) r s j k ∙ rw (same ∙ goes, et, er, ex))
