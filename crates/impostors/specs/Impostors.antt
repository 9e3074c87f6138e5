-- The impostors, and for each a short history at which it breaks a promise or a demand.
-- Document 01, "How firmly each answer is tied down" and "Ways the low gets turned round", in their order.
use Rattle.std.specs.Prelude.{ℕ, ◌≡◌, Bool, true, false, not, List, [], ◌∷◌, map, length, replicate, eqb, ltb, leb}
use Rattle.reason.specs.declared.Reason.TheVariants.{NoRoom}
use Rattle.layout.specs.Bytes.{both, round, bytes4}
use Rattle.walk.specs.Walk.{Write, write_of, reading_of, slots_used, writes_of}
use Rattle.store.specs.Store.{head_moved}
use Rattle.ring.specs.Ring.{slot_after}
use Rattle.state.specs.declared.State.{State}
use Rattle.state.specs.declared.Pin.{Pin}
use Rattle.state.specs.declared.Listed.{Listed}
use Rattle.state.specs.Lists.{pick, those, unflushed, in_flight, flushed, with_flush, with_pins, with_held, reopened}
use Rattle.state.specs.Pins.{is_due}
use Rattle.state.specs.Batch.{batch_of}
use Rattle.sheet.specs.Sheet.{sheet_of, laid_at}
use Rattle.rules.specs.Call.{Call, Kind, reopens, writes, pins, reports, starts, fills, is_one, ring_of, entries_of, held_of, reopen_ring, write, pin, unpin, report, start_flush, fill_read, ask_turn}
use Rattle.rules.specs.Outcome.{Outcome, says, refuses, lent_by, outcome}
use Rattle.history.specs.World.{Move, call, land, is_done}
use Rattle.history.specs.Tale.{numbers_of}
use Rattle.impostors.specs.Boxes.{Box, bare, world_by, tale_by, all_fair, held_in, seen_file, accepted_file, said_after}

-- ---- what is shown of an impostor

pub record Shown : Type 0 where
  -- the history is one that the premises allow
  pub fair : Bool
  -- what a promise or a demand asks there
  pub asked : List ℕ
  -- what the impostor gives
  pub given : List ℕ

-- the claim: the premises hold, and what is given isn't what is asked
abbrev pub ShutOut : Shown → Type 0
ShutOut i = (i.fair ≡ true) × (i.asked ≡ i.given → ⊥)

-- a promise: what our box says on that ring and state
abbrev promise : Box → List Move → Call → Shown
promise box ms c = record { fair = all_fair box bare ms; asked = said_after outcome ms c; given = said_after box ms c }

-- demand 3: the shore file with the ring over it
abbrev whole : Box → List Move → ℕ → Shown
whole box ms n = record { fair = all_fair box bare ms; asked = accepted_file box ms n; given = seen_file box ms n }

-- demand 3: the ring holds exactly the writes that must be held
abbrev holds : Box → List Move → Shown
holds box ms =
    record {
      fair = all_fair box bare ms;
      asked = numbers_of (tale_by box bare ms).held;
      given = numbers_of (held_in (writes_of (world_by box bare ms).ring));
    }

-- ---- boxes that are ours but for one call, where it isn't refused

abbrev but : Kind → (Call → List ℕ → State → Outcome → Outcome) → Box
but kind f c r s =
    let o = outcome c r s in
    pick (both (is_one c (kind ∷ [])) (is_done o.said)) (f c r s o) o

abbrev idle : Call → List ℕ → State → Outcome
idle c r s = lent_by (says []) s r c.buffer

abbrev in_phases : (ℕ → ℕ) → State → State
in_phases f s =
    record {
      next = s.next;
      flush = s.flush;
      count = s.count;
      writes = map (λ (w : Listed). record { number = w.number; phase = f w.phase }) s.writes;
      pins = s.pins;
    }

-- ---- the histories' calls; node 7's byte 0 is a chart's hemisphere, 4E for north and 53 for south

abbrev north : Move
north = call (write 7 3 0 (0x4E ∷ []))

abbrev south : Move
south = call (write 7 3 0 (0x53 ∷ []))

abbrev other : Move
other = call (write 9 3 0 (0x41 ∷ []))

abbrev start : ℕ → Move
start node = call (start_flush node (replicate 40 0xAA))

abbrev is_good : ℕ → Move
is_good number = call (report number true)

abbrev is_bad : ℕ → Move
is_bad number = call (report number false)

-- ---- "refuses every write"

abbrev refuses_writes : Box
refuses_writes = but writes (λ c r s o. lent_by (refuses NoRoom) s r c.buffer)

abbrev pub refuses_every_write : Shown
refuses_every_write = promise refuses_writes [] (write 7 3 0 (0x4E ∷ []))

-- ---- "says "nothing" to every flush"

abbrev says_nothing : Box
says_nothing = but starts (λ c r s o. idle c r s)

abbrev pub nothing_to_every_flush : Shown
nothing_to_every_flush = promise says_nothing (north ∷ []) (start_flush 7 (replicate 40 0xAA))

-- ---- "giving the same sheet or count each time": what it must give here, it gives there

abbrev sheet_after : List Move → List ℕ
sheet_after ms = said_after outcome ms (start_flush 7 (replicate 40 0xAA))

abbrev pub same_sheet : Shown
same_sheet = record { fair = true; asked = sheet_after (south ∷ []); given = sheet_after (north ∷ []) }

abbrev count_at : ℕ → List ℕ
count_at offset = said_after outcome (call (pin 7) ∷ north ∷ []) (fill_read 2 7 offset 0 (0xAA ∷ []))

abbrev pub same_count : Shown
same_count = record { fair = true; asked = count_at 1; given = count_at 0 }

-- ---- "does nothing on "good", so never frees a slot"

abbrev idles_on_good : Box
idles_on_good = but reports (λ c r s o. pick c.good (idle c r s) o)

abbrev pub nothing_on_good : Shown
nothing_on_good = holds idles_on_good (is_good 2 ∷ land 0 ∷ start 7 ∷ north ∷ [])

-- ---- "calls a batch Flushed at its start, then idles at the report": after "bad" and an unpin the write is nowhere

abbrev flushes : ℕ → ℕ
flushes phase = pick (eqb phase in_flight) flushed phase

abbrev flushed_at_start : Box
flushed_at_start c r s =
    pick (is_one c (reports ∷ [])) (idle c r s)
    (but starts (λ c r s o. lent_by o.said (with_flush (in_phases flushes o.state) 0) o.ring o.buffer) c r s)

abbrev pub batch_flushed_at_start : Shown
batch_flushed_at_start = whole flushed_at_start (call (unpin 2) ∷ is_bad 3 ∷ start 7 ∷ call (pin 7) ∷ north ∷ []) 7

-- ---- "invents r or the piece count"

abbrev invents_count : Box
invents_count = but fills (λ c r s o. lent_by (says (length c.buffer ∷ [])) o.state o.ring o.buffer)

abbrev pub invented_count : Shown
invented_count = promise invents_count (call (pin 7) ∷ north ∷ []) (fill_read 2 7 0 0 (replicate 8 0xAA))

-- a piece for each write, though touching ones join
abbrev invents_pieces : Box
invents_pieces =
    but starts (λ c r s o. lent_by o.said o.state o.ring (laid_at o.buffer 0 (bytes4 (length (batch_of c.node (held_of (reading_of r) s))))))

abbrev pub invented_pieces : Shown
invented_pieces = promise invents_pieces (south ∷ north ∷ []) (start_flush 7 (replicate 40 0xAA))

-- ---- "Marking newer writes Flushed that came while the sheet was out": north stays on shore, south is gone

abbrev flies : ℕ → ℕ
flies phase = pick (eqb phase unflushed) in_flight phase

abbrev marks_newer : Box
marks_newer c r s = pick (both (is_one c (reports ∷ [])) c.good) (outcome c r (in_phases flies s)) (outcome c r s)

abbrev pub newer_marked_flushed : Shown
newer_marked_flushed = whole marks_newer (is_good 2 ∷ land 0 ∷ south ∷ start 7 ∷ north ∷ []) 7

-- ---- "Taking a pin's own number as mark while older writes wait: they vanish before the fill"
-- After the pin the host fetches from a shore without a byte; the fill must show north all the same.

abbrev marked_own : ℕ → Pin → Pin
marked_own number p = pick (eqb p.number number) (record { number = number; mark = number; node = p.node }) p

abbrev own_mark : Box
own_mark = but pins (λ c r s o. lent_by o.said (with_pins o.state (map (marked_own s.next) o.state.pins)) o.ring o.buffer)

abbrev pinned_then_sent : List Move
pinned_then_sent = is_good 3 ∷ land 0 ∷ start 7 ∷ call (pin 7) ∷ north ∷ []

-- the fill claim: r is what the history's file has from the offset, and the bytes are that file's
abbrev pub own_number_as_mark : Shown
own_number_as_mark =
    record {
      fair = all_fair own_mark bare pinned_then_sent;
      asked = 0 ∷ length (accepted_file own_mark pinned_then_sent 7) ∷ accepted_file own_mark pinned_then_sent 7;
      given = said_after own_mark pinned_then_sent (fill_read 2 7 0 0 (0xAA ∷ []));
    }

-- it is the mark alone that is wrong: the same history loses nothing
abbrev pub own_mark_keeps_files : Shown
own_mark_keeps_files = whole own_mark pinned_then_sent 7

-- ---- "Letting a Flushed write leave from the middle and forgetting that reopening finds it again": the next call finds a state that
-- doesn't fit the ring, and says 12

abbrev from_the_middle : Box
from_the_middle =
    but reports
    (λ c r s o. lent_by o.said (with_held o.state (those (λ h. not (is_due o.state.pins h)) (held_of (reading_of o.ring) o.state))) o.ring o.buffer)

abbrev pub left_from_the_middle : Shown
left_from_the_middle =
    let ms = is_good 3 ∷ land 0 ∷ start 7 ∷ north ∷ other ∷ [] in
    record { fair = all_fair from_the_middle bare ms; asked = 0 ∷ 9 ∷ []; given = said_after from_the_middle ms ask_turn }

-- ---- "Reopening only entries newer than the last good flush: the flush record isn't in the ring": node 9's write, never sent, is gone

abbrev reopens_newer : ℕ → Box
reopens_newer last =
    but reopens
    (λ c r s o.
    let x = reading_of r in
    let old = those (λ e. leb e.number last) (entries_of x) in
    let new = those (λ e. ltb last e.number) (entries_of x) in
    lent_by o.said (reopened new) (head_moved r (slot_after (ring_of x) (slots_used old))) o.buffer)

abbrev pub newer_reopened : Shown
newer_reopened = whole (reopens_newer 3) (call reopen_ring ∷ is_good 3 ∷ land 0 ∷ start 7 ∷ north ∷ other ∷ []) 9

-- ---- "Treating "bad" as "nothing landed" where demand 3 is shown": after "bad" the shore isn't what it was

abbrev pub bad_landed : Shown
bad_landed =
    let ms = is_bad 2 ∷ land 0 ∷ start 7 ∷ north ∷ [] in
    record { fair = all_fair outcome bare ms; asked = (world_by outcome bare ms).shore 7; given = bare.shore 7 }

-- ---- "Laying the sheet in offset order where writes overlap"

abbrev in_offset : Write → List Write → List Write
in_offset w [] = w ∷ []
in_offset w (v ∷ vs) = pick (leb w.offset v.offset) (w ∷ v ∷ vs) (v ∷ in_offset w vs)

abbrev by_offset : List Write → List Write
by_offset [] = []
by_offset (w ∷ ws) = in_offset w (by_offset ws)

abbrev lays_by_offset : Box
lays_by_offset =
    but starts
    (λ c r s o.
    let x = reading_of r in
    let batch = map (λ h. write_of (round r (ring_of x).n) h.entry) (batch_of c.node (held_of x s)) in
    lent_by o.said o.state o.ring (laid_at c.buffer 0 (sheet_of c.node (by_offset batch))))

abbrev pub sheet_in_offset_order : Shown
sheet_in_offset_order =
    whole lays_by_offset
    (is_good 3 ∷ land 2 ∷ land 1 ∷ land 0 ∷ start 7 ∷ call (write 7 3 0 (0x41 ∷ 0x41 ∷ [])) ∷ call (write 7 3 1 (0x42 ∷ 0x42 ∷ [])) ∷ []) 7

abbrev pub impostors : List Shown
impostors =
    refuses_every_write
    ∷ nothing_to_every_flush
    ∷ same_sheet
    ∷ same_count
    ∷ nothing_on_good
    ∷ batch_flushed_at_start
    ∷ invented_count
    ∷ invented_pieces
    ∷ newer_marked_flushed
    ∷ own_number_as_mark
    ∷ left_from_the_middle
    ∷ newer_reopened
    ∷ bad_landed
    ∷ sheet_in_offset_order
    ∷ []
