-- The walk from head to tail, and what a ring that can be read holds.
-- Document 01, "The ring in battery memory", from "It walks from head".
use Rattle.std.specs.Prelude.{ℕ, zero, suc, ◌+◌, ◌-◌, ◌<◌, ◌≡◌, List, [], ◌∷◌, map, Bool, true, false, ltb, leb, Option, None, Some, Result, Ok, Err}
use Rattle.reason.specs.declared.Reason.{Reason}
use Rattle.reason.specs.declared.Reason.TheVariants.{Unreadable}
use Rattle.layout.specs.Sizes.{slots_of}
use Rattle.layout.specs.Bytes.{round, both}
use Rattle.layout.specs.Rack.{rack_of}
use Rattle.layout.specs.declared.Ring.{Ring}
use Rattle.walk.specs.declared.Entry.{Entry}
use Rattle.walk.specs.declared.Cursor.{Cursor}
use Rattle.walk.specs.declared.Walked.{Walked}
use Rattle.walk.specs.Header.{header_of}
use Rattle.walk.specs.Entry.{entry_at, valid_fields, filler, data_of}

-- ---- one step

-- valid fields; a number above the last one; no slot past the tail; zero filler
unfoldable pub is_entry : (ℕ → ℕ) → Cursor → Entry → Bool
is_entry f c e =
    both (valid_fields e)
    (both (ltb c.last e.number)
    (both (leb (slots_of e.length) c.left)
    (filler f c.place e.length)))

unfoldable pub pick_step : Bool → Entry → Option Entry
pick_step true e = Some e
pick_step false e = None

abbrev pub step_of : (ℕ → ℕ) → Cursor → Entry → Option Entry
step_of f c e = pick_step (is_entry f c e) e

abbrev pub step_at : (ℕ → ℕ) → ℕ → Cursor → Option Entry
step_at f n c = step_of f c (entry_at f n c.place)

-- the place after an entry
abbrev pub pass : Cursor → Entry → Cursor
pass c e =
    record {
      place = c.place + slots_of e.length;
      left = c.left - slots_of e.length;
      last = e.number;
    }

-- ---- the walk: steps until no slot is left; none as soon as a step yields no entry

abbrev pub more : Entry → Option (List Entry) → Option (List Entry)
more e None = None
more e (Some es) = Some (e ∷ es)

abbrev pub on_found : Option Entry → (Entry → Option (List Entry)) → Option (List Entry)
on_found None k = None
on_found (Some e) k = more e (k e)

abbrev pub unless_done : ℕ → Option (List Entry) → Option (List Entry)
unless_done zero w = Some []
unless_done (suc left) w = w

-- in at most m steps
unfoldable pub walk_in : ℕ → (ℕ → ℕ) → ℕ → Cursor → Option (List Entry)
walk_in zero f n c = Some []
walk_in (suc m) f n c = unless_done c.left (on_found (step_at f n c) (λ e. walk_in m f n (pass c e)))

-- an entry takes a slot at least, so the slots left are steps enough (`walk_end` and `walk_step` are the equations to go by)
unfoldable pub walk : (ℕ → ℕ) → ℕ → Cursor → Option (List Entry)
walk f n c = walk_in c.left f n c

-- ---- a ring is readable as its header and its entries, or not at all

pub data Reading : Type 0 where
  readable : Ring → List Entry → Reading
  unreadable : Reading

abbrev pub reads : Ring → Option (List Entry) → Reading
reads g None = unreadable
reads g (Some es) = readable g es

abbrev pub start : Ring → Cursor
start g = record { place = g.head; left = g.used; last = 0 }

abbrev pub reading_by : List ℕ → Option Ring → Reading
reading_by r None = unreadable
reading_by r (Some g) = reads g (walk (round r g.n) g.n (start g))

unfoldable pub reading_of : List ℕ → Reading
reading_of r = reading_by r (header_of r)

-- the slots that entries take
abbrev pub slots_used : List Entry → ℕ
slots_used [] = 0
slots_used (e ∷ es) = slots_of e.length + slots_used es

-- the number of the last entry, or of the one before them
abbrev pub last_of : ℕ → List Entry → ℕ
last_of last [] = last
last_of last (e ∷ es) = last_of e.number es

-- "rising numbers, valid fields": each entry is valid, and its number is above the one before
abbrev pub Rising : ℕ → List Entry → Type 0
Rising last [] = Unit {0}
Rising last (e ∷ es) = (last < e.number) × (valid_fields e ≡ true) × Rising e.number es

-- ---- the code's answer

abbrev pub no_entry : Entry
no_entry = record { number = 0; node = 0; handle = 0; offset = 0; length = 0; zero = 0; slot = 0 }

-- the entries in order
abbrev pub answer_of : Reading → Result Walked Reason
answer_of unreadable = Err Unreadable
answer_of (readable g es) = Ok (record { ring = g; entries = rack_of no_entry es })

-- ---- the writes that a ring holds

pub record Write : Type 0 where
  pub number : ℕ
  pub node : ℕ
  pub handle : ℕ
  pub offset : ℕ
  pub bytes : List ℕ

-- the write of an entry with those bytes
abbrev pub written : Entry → List ℕ → Write
written e bs = record { number = e.number; node = e.node; handle = e.handle; offset = e.offset; bytes = bs }

abbrev pub write_of : (ℕ → ℕ) → Entry → Write
write_of f e = written e (data_of f e)

abbrev pub writes_by : List ℕ → Reading → Option (List Write)
writes_by r unreadable = None
writes_by r (readable g es) = Some (map (write_of (round r g.n)) es)

-- none where the ring isn't readable
abbrev pub writes_of : List ℕ → Option (List Write)
writes_of r = writes_by r (reading_of r)
