-- Every call's ring is what its steps leave; and a call that is cut off leaves the ring as it was, but for free slots, or as the whole call leaves it, by whether the
-- deciding byte was stored. For every call but making, every ring and state, every count of steps and any bytes in the slot that was cut short. Document 02, Q-8.
use Rattle.std.specs.Prelude.{Option, None, Some}
use Prim.Native.Nat.{ℕ, zero, suc, ◌+◌, ◌-◌, ◌≤◌, ◌<◌}
use mathlib.Core.Path.{◌≡◌, refl, sym, ap, ◌∙◌}
use mathlib.Core.Bool.{Bool, true, false}
use mathlib.Core.List.{List, [], ◌∷◌, map}
use native.Mathlib.Omega.{arith}
use borrow.Author.Tests.{leb-true, leb-false, ltb-false}
use lib.ListN.{length, get_or}
use Rattle.reason.specs.declared.Reason.{Reason}
use Rattle.reason.specs.declared.Reason.TheVariants.{Unreadable}
use Rattle.layout.specs.Sizes.{slots_of}
use Rattle.layout.specs.Bytes.{both}
use Rattle.layout.specs.declared.Ring.{Ring}
use Rattle.layout.proofs.Tests.{never}
use Rattle.layout.proofs.Sizes.{slots_some}
use Rattle.walk.specs.declared.Entry.{Entry}
use Rattle.walk.specs.Walk.{Reading, readable, unreadable, reading_of, writes_of}
use Rattle.walk.proofs.Readings.{reading_sound, reading_header}
use Rattle.store.specs.Steps.{run, cut}
use Rattle.store.specs.Storing.{store_steps, head_steps}
use Rattle.store.proofs.Steps.{cut_all_law, stored_run, store_count, moved_run, moved_cut, head_count_law}
use Rattle.ring.specs.Ring.{Alike, slot_after}
use Rattle.ring.proofs.Cutting.{alike_same, store_hidden}
use Rattle.ring.proofs.Laws.{readable_facts, alike_reads, alike_holds}
use Rattle.state.specs.declared.State.{State}
use Rattle.state.specs.declared.Held.{Held}
use Rattle.state.specs.Moves.{good, reported}
use Rattle.state.specs.Pins.{slots_left}
use Rattle.state.proofs.Bools.{both_fails}
use Rattle.rules.specs.Call.{Call, Kind, makes, reopens, writes, pins, unpins, asks_end, reports, starts, fills, takes_ticket, asks_ticket, asks_turn, is_one, ring_of, held_of}
use Rattle.rules.specs.Flush.{has_batch}
use Rattle.rules.specs.Refusals.{applies, order, refusal_of}
use Rattle.rules.specs.Outcome.{new_entry, report_done, start_done, done_by, outcome}
use Rattle.rules.specs.Steps.{report_steps, steps_by, steps_of, ring_cut, decided_by, is_made}
use Rattle.rules.proofs.Staying.{first_none}

module _ (c : Call) (r : List ℕ) (s : State) (not_made : is_one c (makes ∷ []) ≡ false) where
  -- ---- run to the end, the steps leave the outcome's ring

  report_runs : (b : Bool) (g : Ring) (hs : List Held) → (report_done b g hs r s).ring ≡ run r (report_steps b g hs r s)
  unfolding run
  report_runs true g hs = moved_run r (slot_after g (slots_left s.pins (map (reported good) hs)))
  report_runs false g hs = refl

  start_runs : (b : Bool) (g : Ring) (hs : List Held) → (start_done b c.node g hs r s c.buffer).ring ≡ r
  start_runs true g hs = refl
  start_runs false g hs = refl

  done_runs : (kind : Kind) → c.kind ≡ kind → (g : Ring) (es : List Entry) (hs : List Held) → (done_by kind c g es hs r s).ring ≡ run r (steps_by kind c g hs r s)
  unfolding run
  done_runs makes e g es hs = never (let w : true ≡ false = (rw e at not_made) in cc)
  done_runs reopens e g es hs = refl
  done_runs writes e g es hs = stored_run r g.n (new_entry g s.next c) c.bytes refl
  done_runs pins e g es hs = refl
  done_runs unpins e g es hs = moved_run r _
  done_runs asks_end e g es hs = refl
  done_runs reports e g es hs = report_runs c.good g hs
  done_runs starts e g es hs = start_runs (has_batch c.node hs) g hs
  done_runs fills e g es hs = refl
  done_runs takes_ticket e g es hs = refl
  done_runs asks_ticket e g es hs = refl
  done_runs asks_turn e g es hs = refl

  runs_by : (x : Option Reason) → refusal_of c r s ≡ x → (outcome c r s).ring ≡ run r (steps_of c r s)
  unfolding outcome steps_of run
  runs_by None o = rw o (done_runs c.kind refl _ _ _)
  runs_by (Some why) o = rw o refl

  pub outcome_runs : (outcome c r s).ring ≡ run r (steps_of c r s)
  outcome_runs = runs_by (refusal_of c r s) refl

  -- ---- there are no steps behind the deciding one

  report_count : (b : Bool) (g : Ring) (hs : List Held) → length (report_steps b g hs r s) ≤ 1
  report_count true g hs = head_count_law r _
  report_count false g hs = omega arith

  count_by : (kind : Kind) (g : Ring) (hs : List Held) → length (steps_by kind c g hs r s) ≤ decided_by kind c
  count_by makes g hs = omega arith
  count_by reopens g hs = omega arith
  count_by writes g hs = let e = store_count g.n (new_entry g s.next c) c.bytes in omega arith
  count_by pins g hs = omega arith
  count_by unpins g hs = head_count_law r _
  count_by asks_end g hs = omega arith
  count_by reports g hs = report_count c.good g hs
  count_by starts g hs = omega arith
  count_by fills g hs = omega arith
  count_by takes_ticket g hs = omega arith
  count_by asks_ticket g hs = omega arith
  count_by asks_turn g hs = omega arith

  steps_count : (x : Option Reason) → refusal_of c r s ≡ x → length (steps_of c r s) ≤ decided_by c.kind c
  unfolding steps_of
  steps_count None o = rw o (count_by c.kind _ _)
  steps_count (Some why) o = rw o (omega arith)

  -- cut off when the deciding byte was stored: the ring is that of the whole call
  pub cut_made : (k : ℕ) (junk : List ℕ) → is_made c k ≡ true → ring_cut c r s k junk ≡ (outcome c r s).ring
  cut_made k junk m =
      let a = leb-true (decided_by c.kind c) k m in
      let b = steps_count (refusal_of c r s) refl in
      cut_all_law (steps_of c r s) r k junk (omega arith) ∙ sym outcome_runs

  -- ---- cut off before

  module _ (o : refusal_of c r s ≡ None) where
    unreadable_refused : reading_of r ≡ unreadable → refusal_of c r s ≡ Some Unreadable
    unfolding refusal_of both
    unreadable_refused q = rw (q, not_made)

    free : (i : ℕ) → i < 12 → applies c r s (get_or order i Unreadable) ≡ false
    unfolding refusal_of
    free i h = first_none (applies c r s) Unreadable order i o h

    write_cut : (x : Reading) → reading_of r ≡ x → c.kind ≡ writes → (k : ℕ) → k < slots_of (length c.bytes) + 1 → (junk : List ℕ)
        → Alike r (cut r (store_steps (ring_of x).n (new_entry (ring_of x) s.next c) c.bytes) k junk)
    write_cut unreadable q e k h junk = never (let w : None ≡ Some Unreadable = sym o ∙ unreadable_refused q in cc)
    write_cut (readable g es) q e k h junk =
        let f = readable_facts r g es q in
        let u = f.free in
        let m = slots_some (length c.bytes) in
        let z = ap ring_of q in
        let room : slots_of (length c.bytes) ≤ g.n - 1 - g.used = rw z at (ltb-false ((ring_of (reading_of r)).n - 1 - (ring_of (reading_of r)).used) (slots_of (length c.bytes)) (both_fails _ _ (free 10 (omega arith)) (rw e))) in
        let d = store_count g.n (new_entry g s.next c) c.bytes in
        (store_hidden r g (new_entry g s.next c) c.bytes (reading_header (reading_sound r g es q)) refl refl (omega arith)).at k (omega arith) junk

    none_done : (k : ℕ) (slot : ℕ) (junk : List ℕ) → k < 1 → Alike r (cut r (head_steps r slot) k junk)
    none_done zero slot junk h = alike_same r _ (sym (moved_cut r slot junk))
    none_done (suc k) slot junk h = absurd (let w : ⊥ = omega arith in w)

    report_cut : (b : Bool) (g : Ring) (hs : List Held) (k : ℕ) (junk : List ℕ) → k < 1 → Alike r (cut r (report_steps b g hs r s) k junk)
    unfolding cut
    report_cut true g hs k junk h = none_done k (slot_after g (slots_left s.pins (map (reported good) hs))) junk h
    report_cut false g hs k junk h = alike_same r r refl

    cut_by : (kind : Kind) → c.kind ≡ kind → (k : ℕ) (junk : List ℕ) → k < decided_by kind c → Alike r (cut r (steps_by kind c (ring_of (reading_of r)) (held_of (reading_of r) s) r s) k junk)
    cut_by makes e k junk h = absurd (let w : ⊥ = omega arith in w)
    cut_by reopens e k junk h = absurd (let w : ⊥ = omega arith in w)
    cut_by writes e k junk h = write_cut (reading_of r) refl e k h junk
    cut_by pins e k junk h = absurd (let w : ⊥ = omega arith in w)
    cut_by unpins e k junk h = none_done k _ junk h
    cut_by asks_end e k junk h = absurd (let w : ⊥ = omega arith in w)
    cut_by reports e k junk h = report_cut c.good _ _ k junk h
    cut_by starts e k junk h = absurd (let w : ⊥ = omega arith in w)
    cut_by fills e k junk h = absurd (let w : ⊥ = omega arith in w)
    cut_by takes_ticket e k junk h = absurd (let w : ⊥ = omega arith in w)
    cut_by asks_ticket e k junk h = absurd (let w : ⊥ = omega arith in w)
    cut_by asks_turn e k junk h = absurd (let w : ⊥ = omega arith in w)

  unmade_by : (x : Option Reason) → refusal_of c r s ≡ x → (k : ℕ) (junk : List ℕ) → is_made c k ≡ false → Alike r (ring_cut c r s k junk)
  unfolding steps_of cut
  unmade_by None o k junk m = rw o (cut_by o c.kind refl k junk (leb-false (decided_by c.kind c) k m))
  unmade_by (Some why) o k junk m = rw o (alike_same r r refl)

  pub cut_unmade : (k : ℕ) (junk : List ℕ) → is_made c k ≡ false → Alike r (ring_cut c r s k junk)
  cut_unmade k junk m = unmade_by (refusal_of c r s) refl k junk m

  -- ---- what a cut reopens to: the entries and the writes of the ring before, or of the whole call's ring

  abbrev ring_by : Bool → List ℕ
  ring_by true = (outcome c r s).ring
  ring_by false = r

  module _ (k : ℕ) (junk : List ℕ) where
    reads_by : (b : Bool) → is_made c k ≡ b → reading_of (ring_cut c r s k junk) ≡ reading_of (ring_by b)
    reads_by true m = ap reading_of (cut_made k junk m)
    reads_by false m = sym (alike_reads r (ring_cut c r s k junk) (cut_unmade k junk m))

    holds_by : (b : Bool) → is_made c k ≡ b → writes_of (ring_cut c r s k junk) ≡ writes_of (ring_by b)
    holds_by true m = ap writes_of (cut_made k junk m)
    holds_by false m = sym (alike_holds r (ring_cut c r s k junk) (cut_unmade k junk m))

    pub cut_reads : reading_of (ring_cut c r s k junk) ≡ reading_of (ring_by (is_made c k))
    cut_reads = reads_by (is_made c k) refl

    pub cut_holds : writes_of (ring_cut c r s k junk) ≡ writes_of (ring_by (is_made c k))
    cut_holds = holds_by (is_made c k) refl
