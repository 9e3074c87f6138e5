-- What every call does: what it says, the state and every byte of the ring, for all input. Document 01, "The ring in battery memory" and "Moves".
use Rattle.std.specs.Prelude.{ℕ, ◌+◌, Bool, true, false, List, [], ◌∷◌, ◌++◌, map, length, set, Option, None, Some, Result, Ok, Err}
use Rattle.reason.specs.declared.Reason.{Reason}
use Rattle.reason.specs.Reason.{number_of}
use Rattle.layout.specs.declared.Ring.{Ring}
use Rattle.walk.specs.declared.Entry.{Entry}
use Rattle.walk.specs.Walk.{Reading, reading_of}
use Rattle.store.specs.Store.{made, stored, head_moved}
use Rattle.ring.specs.Ring.{tail_of, slot_after}
use Rattle.state.specs.declared.State.{State}
use Rattle.state.specs.declared.Pin.{Pin}
use Rattle.state.specs.declared.Held.{Held}
use Rattle.state.specs.Lists.{unflushed, no_pin, with_next, with_flush, with_pins, with_held, reopened}
use Rattle.state.specs.Moves.{good, bad, reported}
use Rattle.state.specs.Pins.{mark_of, staying, slots_left, pin_place}
use Rattle.state.specs.Batch.{taken_of}
use Rattle.state.specs.Asks.{cached_end, turn_of, ticket_done}
use Rattle.rules.specs.Call.{Call, Kind, makes, reopens, writes, pins, unpins, asks_end, reports, starts, fills, takes_ticket, asks_ticket, asks_turn, ring_of, entries_of, held_of}
use Rattle.rules.specs.Flush.{has_batch, sheet_for}
use Rattle.rules.specs.Fill.{writes_for, fill_count, filled}
use Rattle.rules.specs.Refusals.{refusal_of}
use Rattle.sheet.specs.Sheet.{laid_at}

-- an answer on paper: the refusal's number, 0 for none, and the values
pub record Said : Type 0 where
  pub refusal : ℕ
  pub values : List ℕ

pub record Outcome : Type 0 where
  pub said : Said
  pub state : State
  pub ring : List ℕ
  -- lent by the host
  pub buffer : List ℕ

abbrev pub lent_by : Said → State → List ℕ → List ℕ → Outcome
lent_by said s r b = record { said = said; state = s; ring = r; buffer = b }

-- of a call that is lent no buffer
abbrev pub outcome_by : Said → State → List ℕ → Outcome
outcome_by said s r = lent_by said s r []

abbrev pub says : List ℕ → Said
says values = record { refusal = 0; values = values }

abbrev pub refuses : Reason → Said
refuses why = record { refusal = number_of why; values = [] }

-- an answer in code, whose values are those that f gives
abbrev pub said_by : {T : Type 0} → (T → List ℕ) → Result T Reason → Said
said_by f (Ok x) = says (f x)
said_by f (Err why) = refuses why

-- in code, of a call that gives nothing but leave: none, or the refusal
abbrev pub may_of : Option Reason → Result (Unit {0}) Reason
may_of None = Ok tt
may_of (Some why) = Err why

-- ---- each call that isn't refused, on the ring g with its held writes hs

-- write: stored at the tail under the next number, Unflushed
abbrev pub new_entry : Ring → ℕ → Call → Entry
new_entry g number c =
    record { number = number; node = c.node; handle = c.handle; offset = c.offset; length = length c.bytes; zero = 0; slot = tail_of g }

abbrev pub write_done : Ring → List Held → List ℕ → State → Entry → List ℕ → Outcome
write_done g hs r s e bs =
    outcome_by (says (s.next ∷ [])) (with_next (with_held s (hs ++ record { entry = e; phase = unflushed } ∷ [])) (s.next + 1)) (stored r g.n e bs)

-- pin: in the lowest free record
abbrev pub new_pin : ℕ → State → List Held → Pin
new_pin node s hs = record { number = s.next; mark = mark_of node s.next hs; node = node }

abbrev pub pin_done : List Held → List ℕ → State → ℕ → Outcome
pin_done hs r s node =
    outcome_by (says (s.next ∷ [])) (with_next (with_pins s (set s.pins (pin_place 0 s.pins) (new_pin node s hs))) (s.next + 1)) r

-- letting go: those that are due leave from the head, and the head moves on past their slots
abbrev pub let_go_done : Ring → List Held → List ℕ → State → Outcome
let_go_done g hs r s = outcome_by (says []) (with_held s (staying s.pins hs)) (head_moved r (slot_after g (slots_left s.pins hs)))

-- unpin: the record is free again, then letting go
abbrev pub unpinned : State → ℕ → State
unpinned s number = with_pins s (set s.pins (pin_place number s.pins) no_pin)

-- report: the batch moves by the table, no flush is under way; after a good one, letting go
abbrev pub report_done : Bool → Ring → List Held → List ℕ → State → Outcome
report_done true g hs r s = let_go_done g (map (reported good) hs) r (with_flush s 0)
report_done false g hs r s = outcome_by (says []) (with_held (with_flush s 0) (map (reported bad) hs)) r

-- start a flush: "None: the answer is "nothing", and nothing changes. Otherwise the sheet is written and the batch is In flight under a
-- flush number." "Bytes of the lent buffer after the sheet are unchanged; the answer gives flush number and sheet length."
abbrev pub start_done : Bool → ℕ → Ring → List Held → List ℕ → State → List ℕ → Outcome
start_done false node g hs r s b = lent_by (says []) s r b
start_done true node g hs r s b =
    let sheet = sheet_for node r g hs in
    lent_by (says (s.next ∷ length sheet ∷ [])) (with_next (with_flush (with_held s (taken_of node hs)) s.next) (s.next + 1)) r (laid_at b 0 sheet)

-- fill a read
abbrev pub fill_done : Call → Ring → List Held → List ℕ → State → Outcome
fill_done c g hs r s =
    let count = fill_count (length c.buffer) c.fetched c.offset (cached_end c.node hs) in
    lent_by (says (count ∷ [])) s r (filled (writes_for c.node r g hs) c.offset c.fetched count c.buffer)

-- a call that is lent no buffer
abbrev keeping : List ℕ → Outcome → Outcome
keeping b o = lent_by o.said o.state o.ring b

abbrev pub bit : Bool → ℕ
bit true = 1
bit false = 0

abbrev pub done_by : Kind → Call → Ring → List Entry → List Held → List ℕ → State → Outcome
done_by makes c g es hs r s = keeping c.buffer (outcome_by (says []) (reopened []) (made r))
done_by reopens c g es hs r s = keeping c.buffer (outcome_by (says ((reopened es).next ∷ [])) (reopened es) r)
done_by writes c g es hs r s = keeping c.buffer (write_done g hs r s (new_entry g s.next c) c.bytes)
done_by pins c g es hs r s = keeping c.buffer (pin_done hs r s c.node)
done_by unpins c g es hs r s = keeping c.buffer (let_go_done g hs r (unpinned s c.number))
done_by asks_end c g es hs r s = keeping c.buffer (outcome_by (says (cached_end c.node hs ∷ [])) s r)
done_by reports c g es hs r s = keeping c.buffer (report_done c.good g hs r s)
done_by starts c g es hs r s = start_done (has_batch c.node hs) c.node g hs r s c.buffer
done_by fills c g es hs r s = fill_done c g hs r s
done_by takes_ticket c g es hs r s = keeping c.buffer (outcome_by (says (s.next ∷ [])) (with_next s (s.next + 1)) r)
done_by asks_ticket c g es hs r s = keeping c.buffer (outcome_by (says (bit (ticket_done c.number c.node hs) ∷ [])) s r)
done_by asks_turn c g es hs r s = keeping c.buffer (outcome_by (says (turn_of hs ∷ [])) s r)

abbrev pub done : Call → Reading → List ℕ → State → Outcome
done c x r s = done_by c.kind c (ring_of x) (entries_of x) (held_of x s) r s

-- ---- "A refusal changes no state and no byte."

abbrev pub unless : Option Reason → List ℕ → State → List ℕ → Outcome → Outcome
unless None r s b o = o
unless (Some why) r s b o = lent_by (refuses why) s r b

unfoldable pub outcome : Call → List ℕ → State → Outcome
outcome c r s = unless (refusal_of c r s) r s c.buffer (done c (reading_of r) r s)
