-- The steps of every call, and from which of them on it is made. Document 02, Q-8.
use Rattle.std.specs.Prelude.{ℕ, ◌+◌, Bool, true, false, List, [], ◌∷◌, ◌++◌, map, length, drop, leb, Option, None, Some}
use Rattle.reason.specs.declared.Reason.{Reason}
use Rattle.layout.specs.Sizes.{slots_of}
use Rattle.layout.specs.declared.Ring.{Ring}
use Rattle.walk.specs.Walk.{Write, reading_of}
use Rattle.store.specs.Steps.{Step, cut}
use Rattle.store.specs.Storing.{store_steps, head_steps}
use Rattle.ring.specs.Ring.{slot_after}
use Rattle.state.specs.declared.State.{State}
use Rattle.state.specs.declared.Held.{Held}
use Rattle.state.specs.Lists.{pick}
use Rattle.state.specs.Moves.{good, reported}
use Rattle.state.specs.Pins.{leaving, slots_left}
use Rattle.rules.specs.Call.{Call, Kind, makes, reopens, writes, pins, unpins, asks_end, reports, starts, fills, takes_ticket, asks_ticket, asks_turn, ring_of, held_of}
use Rattle.rules.specs.Refusals.{refusal_of}
use Rattle.rules.specs.Outcome.{new_entry, unpinned}

-- letting go: "one store of the head byte however many entries leave", and none where none leaves
abbrev go_steps : Ring → List Held → List ℕ → State → List Step
go_steps g hs r s = head_steps r (slot_after g (slots_left s.pins hs))

abbrev pub report_steps : Bool → Ring → List Held → List ℕ → State → List Step
report_steps true g hs r s = go_steps g (map (reported good) hs) r s
report_steps false g hs r s = []

-- of a call that isn't refused; making a ring is excepted
abbrev pub steps_by : Kind → Call → Ring → List Held → List ℕ → State → List Step
steps_by makes c g hs r s = []
steps_by reopens c g hs r s = []
steps_by writes c g hs r s = store_steps g.n (new_entry g s.next c) c.bytes
steps_by pins c g hs r s = []
steps_by unpins c g hs r s = go_steps g hs r (unpinned s c.number)
steps_by asks_end c g hs r s = []
steps_by reports c g hs r s = report_steps c.good g hs r s
steps_by starts c g hs r s = []
steps_by fills c g hs r s = []
steps_by takes_ticket c g hs r s = []
steps_by asks_ticket c g hs r s = []
steps_by asks_turn c g hs r s = []

abbrev pub unless_refused : Option Reason → List Step → List Step
unless_refused None xs = xs
unless_refused (Some why) xs = []

unfoldable pub steps_of : Call → List ℕ → State → List Step
steps_of c r s = unless_refused (refusal_of c r s) (steps_by c.kind c (ring_of (reading_of r)) (held_of (reading_of r) s) r s)

-- the ring after k steps of a call, the next one cut short
abbrev pub ring_cut : Call → List ℕ → State → ℕ → List ℕ → List ℕ
ring_cut c r s k junk = cut r (steps_of c r s) k junk

-- the step that decides: the tail byte of a write, the head byte of a report or an unpin; told from the call alone
abbrev pub decided_by : Kind → Call → ℕ
decided_by makes c = 0
decided_by reopens c = 0
decided_by writes c = slots_of (length c.bytes) + 1
decided_by pins c = 0
decided_by unpins c = 1
decided_by asks_end c = 0
decided_by reports c = 1
decided_by starts c = 0
decided_by fills c = 0
decided_by takes_ticket c = 0
decided_by asks_ticket c = 0
decided_by asks_turn c = 0

-- whether a call that was cut off after k steps counts as made
abbrev pub is_made : Call → ℕ → Bool
is_made c k = leb (decided_by c.kind c) k

-- ---- what a cut reopens to: "the writes held before, with each new one added exactly if its tail byte was stored, and less those .. passed by the head"

-- the write that a call adds
abbrev pub added_by : Kind → Call → ℕ → List Write
added_by makes c number = []
added_by reopens c number = []
added_by writes c number = record { number = number; node = c.node; handle = c.handle; offset = c.offset; bytes = c.bytes } ∷ []
added_by pins c number = []
added_by unpins c number = []
added_by asks_end c number = []
added_by reports c number = []
added_by starts c number = []
added_by fills c number = []
added_by takes_ticket c number = []
added_by asks_ticket c number = []
added_by asks_turn c number = []

-- how many entries the head passes
abbrev pub passed_by : Kind → Call → List Held → State → ℕ
passed_by makes c hs s = 0
passed_by reopens c hs s = 0
passed_by writes c hs s = 0
passed_by pins c hs s = 0
passed_by unpins c hs s = length (leaving (unpinned s c.number).pins hs)
passed_by asks_end c hs s = 0
passed_by reports c hs s = pick c.good (length (leaving s.pins (map (reported good) hs))) 0
passed_by starts c hs s = 0
passed_by fills c hs s = 0
passed_by takes_ticket c hs s = 0
passed_by asks_ticket c hs s = 0
passed_by asks_turn c hs s = 0

-- of a call that isn't refused, on a ring that held ws
abbrev pub reopens_to : Call → List ℕ → State → ℕ → List Write → List Write
reopens_to c r s k ws = pick (is_made c k) (drop (passed_by c.kind c (held_of (reading_of r) s) s) ws ++ added_by c.kind c s.next) ws
