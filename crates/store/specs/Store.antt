-- What is stored in a ring: an empty header, an entry, a head byte. Document 01, "The ring in battery memory".
use Rattle.std.specs.Prelude.{ℕ, ◌+◌, ◌-◌, ◌*◌, ◌/◌, ◌%◌, Bool, true, false, List, ◌∷◌, ◌++◌, length, set, replicate, drop, Result, Ok, Err}
use Rattle.reason.specs.declared.Reason.{Reason}
use Rattle.reason.specs.declared.Reason.TheVariants.{BadBuffer}
use Rattle.layout.specs.Sizes.{edition, header_size, slot_size, slots_of}
use Rattle.layout.specs.Bytes.{is_ring_length, put}
use Rattle.walk.specs.declared.Entry.{Entry}
-- an entry's bytes stand in image's specs
unfoldable pub use Rattle.image.specs.Image.{name_bytes, range_bytes, head_bytes, entry_bytes}

-- ---- making an empty ring

-- the slots that a buffer of that length has
abbrev pub slots_for : ℕ → ℕ
slots_for len = (len - header_size) / slot_size

abbrev pub is_makeable : ℕ → Bool
is_makeable len = is_ring_length (slots_for len) len

-- edition and N; head and tail 0; zeros
abbrev pub empty_header : ℕ → List ℕ
empty_header n = edition ∷ n ∷ 0 ∷ 0 ∷ replicate 12 0

abbrev pub pick_bytes : Bool → List ℕ → List ℕ → List ℕ
pick_bytes true a b = a
pick_bytes false a b = b

-- the 16 header bytes and nothing else; a buffer of no valid length stays as it was
unfoldable pub made : List ℕ → List ℕ
made r = pick_bytes (is_makeable (length r)) (empty_header (slots_for (length r)) ++ drop header_size r) r

abbrev pub pick_made : Bool → Result Unit Reason
pick_made true = Ok tt
pick_made false = Err BadBuffer

unfoldable pub made_answer : List ℕ → Result Unit Reason
made_answer r = pick_made (is_makeable (length r))

-- ---- storing an entry

-- the tail slot after an entry
abbrev pub tail_after : ℕ → Entry → ℕ
tail_after n e = (e.slot + slots_of e.length) % n

-- the entry first and the tail byte last
unfoldable pub stored : List ℕ → ℕ → Entry → List ℕ → List ℕ
stored r n e bs = set (put r n (e.slot * slot_size) (entry_bytes e bs)) 3 (tail_after n e)

-- ---- moving the head on

unfoldable pub head_moved : List ℕ → ℕ → List ℕ
head_moved r slot = set r 2 slot
