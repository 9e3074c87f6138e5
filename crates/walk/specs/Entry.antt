-- An entry of a ring. Document 01, "The ring in battery memory", second table, and what makes its fields valid.
use Rattle.std.specs.Prelude.{ℕ, ◌+◌, ◌*◌, ◌%◌, List, Bool, eqb, ltb, leb}
use Rattle.layout.specs.Sizes.{slot_size, head_size, largest, number_limit, file_end, filler_of}
use Rattle.layout.specs.Bytes.{number2, number4, number8, bytes_at, zeros_at, both}
use Rattle.walk.specs.declared.Entry.{Entry}

-- the table's fields, of the entry that starts in a slot and whose head stands at place p of a view
abbrev pub head_at : (ℕ → ℕ) → ℕ → ℕ → Entry
head_at f p slot =
    record {
      number = number8 f p;
      node = number4 f (p + 8);
      handle = number4 f (p + 12);
      offset = number4 f (p + 16);
      length = number2 f (p + 20);
      zero = number2 f (p + 22);
      slot = slot;
    }

-- the entry at slot s of n, the slots counted on and not turned round
abbrev pub entry_at : (ℕ → ℕ) → ℕ → ℕ → Entry
entry_at f n s = head_at f (s * slot_size) (s % n)

-- number 1 to 2^62 - 1; node not 0; length 1 to 4,096; zero; offset + length at most 16,777,216
unfoldable pub valid_fields : Entry → Bool
valid_fields e =
    both (ltb 0 e.number)
    (both (ltb e.number number_limit)
    (both (ltb 0 e.node)
    (both (ltb 0 e.length)
    (both (leb e.length largest)
    (both (eqb e.zero 0)
    (leb (e.offset + e.length) file_end))))))

-- "then zeros to the slot's end", of an entry of that many bytes at slot s
abbrev pub filler : (ℕ → ℕ) → ℕ → ℕ → Bool
filler f s length = zeros_at f (s * slot_size + (head_size + length)) (filler_of length)

-- "24 on: the bytes"
abbrev pub data_of : (ℕ → ℕ) → Entry → List ℕ
data_of f e = bytes_at f (e.slot * slot_size + head_size) e.length
