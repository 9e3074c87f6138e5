-- An entry's bytes, and what each of its slots holds. Document 01, "The ring in battery memory", second table.
use Rattle.std.specs.Prelude.{ℕ, ◌*◌, List, ◌++◌, replicate, take, drop}
use Rattle.layout.specs.Sizes.{slot_size, filler_of}
use Rattle.layout.specs.Bytes.{bytes2, bytes4, bytes8}
use Rattle.walk.specs.declared.Entry.{Entry}

-- the table of an entry's head: bytes 0 to 15, and 16 to 23
unfoldable pub name_bytes : Entry → List ℕ
name_bytes e = bytes8 e.number ++ (bytes4 e.node ++ bytes4 e.handle)

unfoldable pub range_bytes : Entry → List ℕ
range_bytes e = bytes4 e.offset ++ (bytes2 e.length ++ bytes2 e.zero)

unfoldable pub head_bytes : Entry → List ℕ
head_bytes e = name_bytes e ++ range_bytes e

-- "the bytes, then zeros to the slot's end"
unfoldable pub entry_bytes : Entry → List ℕ → List ℕ
entry_bytes e bs = head_bytes e ++ (bs ++ replicate (filler_of e.length) 0)

-- slot i of an entry's slots
unfoldable pub slot_bytes : Entry → List ℕ → ℕ → List ℕ
slot_bytes e bs i = take slot_size (drop (i * slot_size) (entry_bytes e bs))
