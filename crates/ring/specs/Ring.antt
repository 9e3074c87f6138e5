-- The words of the ring's laws: a ring that grows, shrinks or differs in free slots only, and what may be stored.
-- Document 01, "The ring in battery memory".
use Rattle.std.specs.Prelude.{ℕ, ◌+◌, ◌-◌, ◌*◌, ◌%◌, ◌^◌, ◌<◌, ◌≡◌, List, true, length, Some}
use Rattle.layout.specs.Sizes.{header_size, slot_size, slots_of}
use Rattle.layout.specs.Bytes.{flat, round, Same}
use Rattle.layout.specs.declared.Ring.{Ring}
use Rattle.walk.specs.declared.Entry.{Entry}
use Rattle.walk.specs.Header.{header_of}
use Rattle.walk.specs.Entry.{valid_fields}
use Rattle.walk.specs.Walk.{last_of}

-- head and tail 0
abbrev pub empty_ring : ℕ → Ring
empty_ring n = record { n = n; head = 0; used = 0 }

-- the slot that is u slots after the head: "its slots follow modulo N"
abbrev pub slot_after : Ring → ℕ → ℕ
slot_after g u = (g.head + u) % g.n

abbrev pub tail_of : Ring → ℕ
tail_of g = slot_after g g.used

-- with an entry's slots used too
abbrev pub grown : Ring → Entry → Ring
grown g e = record { n = g.n; head = g.head; used = g.used + slots_of e.length }

-- with the head moved on past u slots
abbrev pub shrunk : Ring → ℕ → Ring
shrunk g u = record { n = g.n; head = slot_after g u; used = g.used - u }

-- what a writer sees to before it stores: the slot at the tail, valid fields that fit their bytes, room
pub record Storable (g : Ring) (es : List Entry) (e : Entry) (bs : List ℕ) : Type 0 where
  pub slot : e.slot ≡ tail_of g
  pub valid : valid_fields e ≡ true
  pub rising : last_of 0 es < e.number
  pub bytes : e.length ≡ length bs
  pub node : e.node < 2 ^ 32
  pub handle : e.handle < 2 ^ 32
  pub room : g.used + slots_of e.length < g.n

-- rings that differ only in free slots: the same length, the same header, the same bytes from head to tail
pub record Alike (r r' : List ℕ) : Type 0 where
  pub len : length r ≡ length r'
  pub header : Same (flat r) 0 (flat r') 0 header_size
  pub slots : (g : Ring) → header_of r ≡ Some g
      → Same (round r g.n) (g.head * slot_size) (round r' g.n) (g.head * slot_size) (g.used * slot_size)
