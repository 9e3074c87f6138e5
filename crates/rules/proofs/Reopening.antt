-- What a call that is cut off reopens to, in the request's words: the writes held before, with the new one exactly if its tail byte was stored, and less those passed by
-- the head. For every call that isn't refused, every count of steps, and any bytes in the slot that was cut short. Document 02, Q-8.
use Rattle.std.specs.Prelude.{Option, None, Some}
use Prim.Native.Nat.{ℕ}
use mathlib.Core.Path.{◌≡◌, refl, sym, ap, ◌∙◌}
use mathlib.Core.Bool.{Bool, true, false}
use mathlib.Core.List.{List, [], ◌∷◌, ◌++◌, map, map-append, append-nil}
use lib.ListN.{length, drop, length-map}
use lib.Seq.{drop-append_seam}
use Rattle.reason.specs.declared.Reason.{Reason}
use Rattle.layout.specs.Bytes.{round}
use Rattle.layout.specs.declared.Ring.{Ring}
use Rattle.layout.proofs.Tests.{never}
use Rattle.walk.specs.Walk.{Write, readable, reading_of, write_of, writes_of}
use Rattle.store.specs.Steps.{cut}
use Rattle.store.specs.Store.{head_moved, stored}
use Rattle.ring.specs.Ring.{slot_after}
use Rattle.ring.proofs.Laws.{readable_facts, alike_holds, stored_holds, moved_holds}
use Rattle.state.specs.declared.State.{State}
use Rattle.state.specs.declared.Pin.{Pin}
use Rattle.state.specs.declared.Held.{Held}
use Rattle.state.specs.Lists.{pick, entry_of}
use Rattle.state.specs.Moves.{good, reported}
use Rattle.state.specs.Pins.{leaving, staying, slots_left}
use Rattle.state.proofs.Reports.{report_entries}
use Rattle.state.proofs.LettingGo.{leave_split}
use Rattle.rules.specs.Call.{Call, Kind, makes, reopens, writes, pins, unpins, asks_end, reports, starts, fills, takes_ticket, asks_ticket, asks_turn, is_one, ring_of, entries_of, held_of}
use Rattle.rules.specs.Refusals.{refusal_of}
use Rattle.rules.specs.Outcome.{new_entry, report_done, start_done, done_by, outcome}
use Rattle.rules.specs.Steps.{steps_of, ring_cut, is_made, added_by, passed_by, reopens_to}
use Rattle.rules.proofs.Standing.{Real, Stands, hs_entries, storable}
use Rattle.rules.proofs.Staying.{may_write}
use Rattle.rules.proofs.Cuts.{cut_made, cut_unmade}
use Rattle.rules.proofs.Planning.{passed_stands}

same_some : (xs ys : List Write) → ◌≡◌ {A = Option (List Write)} (Some xs) (Some ys) → xs ≡ ys
same_some xs ys e = cc

module _ (c : Call) (r : List ℕ) (s : State) (not_made : is_one c (makes ∷ []) ≡ false) (real : Real c) (free : refusal_of c r s ≡ None) (ws : List Write) (held : writes_of r ≡ Some ws) where
  -- nothing is stored
  stays : (r' : List ℕ) → r' ≡ r → writes_of r' ≡ Some (ws ++ [])
  stays r' e = ap writes_of e ∙ held ∙ ap Some (sym (append-nil ws))

  module _ (k : Stands r s) where
    abbrev g : Ring
    g = k.ring

    of_entries : map (write_of (round r g.n)) k.entries ≡ ws
    of_entries = same_some _ ws (sym (readable_facts r g k.entries k.reading).writes ∙ held)

    -- the head moves on past those of hs that are due
    passes : (ps : List Pin) (hs : List Held) → map entry_of hs ≡ k.entries → writes_of (head_moved r (slot_after g (slots_left ps hs))) ≡ Some (drop (length (leaving ps hs)) ws ++ [])
    passes ps hs e =
        let xs = map entry_of (leaving ps hs) in
        let ys = map entry_of (staying ps hs) in
        let f = write_of (round r g.n) in
        let w : xs ++ ys ≡ k.entries = sym (map-append entry_of (leaving ps hs) (staying ps hs)) ∙ ap (map entry_of) (leave_split ps hs) ∙ e in
        let n : length (map f xs) ≡ length (leaving ps hs) = length-map xs f ∙ length-map (leaving ps hs) entry_of in
        let d : drop (length (leaving ps hs)) ws ≡ map f ys =
        ap (drop (length (leaving ps hs))) (sym of_entries ∙ ap (map f) (sym w) ∙ map-append f xs ys) ∙ ap (λ m. drop m (map f xs ++ map f ys)) (sym n) ∙ drop-append_seam (map f xs) (map f ys) in
        moved_holds r g xs ys (k.reading ∙ ap (readable g) (sym w)) ∙ ap Some (sym (append-nil _ ∙ d))

    report_passes : (b : Bool) → writes_of (report_done b g (held_of (readable g k.entries) s) r s).ring ≡ Some (drop (pick b (length (leaving s.pins (map (reported good) (held_of (readable g k.entries) s)))) 0) ws ++ [])
    report_passes true = passes s.pins (map (reported good) (held_of (readable g k.entries) s)) (report_entries good (held_of (readable g k.entries) s) ∙ hs_entries r s k)
    report_passes false = stays r refl

    adds : c.kind ≡ writes → writes_of (stored r g.n (new_entry g s.next c) c.bytes) ≡ Some (ws ++ added_by writes c s.next)
    adds e = stored_holds r g k.entries (new_entry g s.next c) c.bytes k.reading (storable r s k c (may_write c r s k free e) real) ∙ ap (λ xs. Some (xs ++ added_by writes c s.next)) of_entries

  start_stays : (b : Bool) (g : Ring) (hs : List Held) → (start_done b c.node g hs r s c.buffer).ring ≡ r
  start_stays true g hs = refl
  start_stays false g hs = refl

  stands : is_one c (makes ∷ reopens ∷ []) ≡ false → Stands r s
  stands a = passed_stands c (record { reads = not_made; fits = a }) r s free

  -- the whole call
  made_by : (kind : Kind) → c.kind ≡ kind → writes_of (done_by kind c (ring_of (reading_of r)) (entries_of (reading_of r)) (held_of (reading_of r) s) r s).ring
      ≡ Some (drop (passed_by kind c (held_of (reading_of r) s) s) ws ++ added_by kind c s.next)
  made_by makes e = never (let w : true ≡ false = (rw e at not_made) in cc)
  made_by reopens e = stays r refl
  made_by writes e = let k = stands (rw e) in rw k.reading (adds k e)
  made_by pins e = stays r refl
  made_by unpins e = let k = stands (rw e) in rw k.reading (passes k _ (held_of (readable k.ring k.entries) s) (hs_entries r s k))
  made_by asks_end e = stays r refl
  made_by reports e = let k = stands (rw e) in rw k.reading (report_passes k c.good)
  made_by starts e = stays _ (start_stays _ _ _)
  made_by fills e = stays r refl
  made_by takes_ticket e = stays r refl
  made_by asks_ticket e = stays r refl
  made_by asks_turn e = stays r refl

  made_holds : writes_of (outcome c r s).ring ≡ Some (drop (passed_by c.kind c (held_of (reading_of r) s) s) ws ++ added_by c.kind c s.next)
  unfolding outcome
  made_holds = rw free (made_by c.kind refl)

  module _ (k : ℕ) (junk : List ℕ) where
    reopens_by : (b : Bool) → is_made c k ≡ b → writes_of (ring_cut c r s k junk) ≡ Some (pick b (drop (passed_by c.kind c (held_of (reading_of r) s) s) ws ++ added_by c.kind c s.next) ws)
    reopens_by true m = ap writes_of (cut_made c r s not_made k junk m) ∙ made_holds
    reopens_by false m = sym (alike_holds r (ring_cut c r s k junk) (cut_unmade c r s not_made k junk m)) ∙ held

    pub cut_reopens : writes_of (ring_cut c r s k junk) ≡ Some (reopens_to c r s k ws)
    cut_reopens = reopens_by (is_made c k) refl

-- a refused call has no step
pub cut_refused : (c : Call) (r : List ℕ) (s : State) (why : Reason) → refusal_of c r s ≡ Some why → (k : ℕ) (junk : List ℕ) → ring_cut c r s k junk ≡ r
unfolding steps_of cut
cut_refused c r s why e k junk = rw e refl
