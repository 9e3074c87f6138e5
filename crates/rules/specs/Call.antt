-- The calls with their arguments, and what a ring and a state show to all of them. Document 01, "What the box's cache does".
use Rattle.std.specs.Prelude.{ℕ, Bool, false, eqb, List, []}
use Rattle.layout.specs.declared.Ring.{Ring}
use Rattle.walk.specs.declared.Entry.{Entry}
use Rattle.walk.specs.Walk.{Reading, readable, unreadable}
use Rattle.state.specs.declared.State.{State}
use Rattle.state.specs.declared.Held.{Held}
use Rattle.state.specs.Lists.{any, holding, listed}

pub data Kind : Type 0 where
  makes : Kind
  reopens : Kind
  writes : Kind
  pins : Kind
  unpins : Kind
  asks_end : Kind
  reports : Kind
  starts : Kind
  fills : Kind
  takes_ticket : Kind
  asks_ticket : Kind
  asks_turn : Kind

-- a call: its kind, and its arguments, of which each kind has its own
pub record Call : Type 0 where
  pub kind : Kind
  pub node : ℕ
  pub handle : ℕ
  pub offset : ℕ
  -- of a pin, a flush or a ticket
  pub number : ℕ
  pub bytes : List ℕ
  pub good : Bool
  -- lent by the host, with the count that it fetched from shore
  pub buffer : List ℕ
  pub fetched : ℕ

abbrev plain : Kind → ℕ → ℕ → Call
plain kind node number =
    record { kind = kind; node = node; handle = 0; offset = 0; number = number; bytes = []; good = false; buffer = []; fetched = 0 }

abbrev pub make_ring : Call
make_ring = plain makes 0 0

abbrev pub reopen_ring : Call
reopen_ring = plain reopens 0 0

abbrev pub write : (node handle offset : ℕ) → (bytes : List ℕ) → Call
write node handle offset bytes =
    record { kind = writes; node = node; handle = handle; offset = offset; number = 0; bytes = bytes; good = false; buffer = []; fetched = 0 }

abbrev pub pin : (node : ℕ) → Call
pin node = plain pins node 0

abbrev pub unpin : (number : ℕ) → Call
unpin number = plain unpins 0 number

abbrev pub ask_end : (node : ℕ) → Call
ask_end node = plain asks_end node 0

abbrev pub report : (number : ℕ) → (good : Bool) → Call
report number good =
    record { kind = reports; node = 0; handle = 0; offset = 0; number = number; bytes = []; good = good; buffer = []; fetched = 0 }

abbrev pub start_flush : (node : ℕ) → (buffer : List ℕ) → Call
start_flush node buffer =
    record { kind = starts; node = node; handle = 0; offset = 0; number = 0; bytes = []; good = false; buffer = buffer; fetched = 0 }

abbrev pub fill_read : (pin node offset fetched : ℕ) → (buffer : List ℕ) → Call
fill_read pin node offset fetched buffer =
    record { kind = fills; node = node; handle = 0; offset = offset; number = pin; bytes = []; good = false; buffer = buffer; fetched = fetched }

abbrev pub take_ticket : Call
take_ticket = plain takes_ticket 0 0

abbrev pub ask_ticket : (ticket node : ℕ) → Call
ask_ticket ticket node = plain asks_ticket node ticket

abbrev pub ask_turn : Call
ask_turn = plain asks_turn 0 0

-- kinds told apart by a number of their own
abbrev tag : Kind → ℕ
tag makes = 0
tag reopens = 1
tag writes = 2
tag pins = 3
tag unpins = 4
tag asks_end = 5
tag reports = 6
tag starts = 7
tag fills = 8
tag takes_ticket = 9
tag asks_ticket = 10
tag asks_turn = 11

-- whether a call is of one of the kinds
abbrev pub is_one : Call → List Kind → Bool
is_one c kinds = any (λ k. eqb (tag c.kind) (tag k)) kinds

-- ---- what a ring shows; one that isn't readable shows none of it, and no call that asks gets so far

abbrev pub ring_of : Reading → Ring
ring_of unreadable = record { n = 0; head = 0; used = 0 }
ring_of (readable g es) = g

abbrev pub entries_of : Reading → List Entry
entries_of unreadable = []
entries_of (readable g es) = es

-- the writes that are held, each in its state of the four
abbrev pub held_of : Reading → State → List Held
held_of x s = holding (entries_of x) (listed s)
