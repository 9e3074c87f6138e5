-- The bytes of an entry, counted.
use Prim.Native.Nat.{ℕ, ◌*◌}
use mathlib.Core.Path.{◌≡◌, refl}
use mathlib.Core.List.{List, ◌++◌}
use native.Mathlib.Omega.{arith}
use lib.ListN.{length, replicate, length-append, length-replicate}
use Rattle.layout.specs.Sizes.{slot_size, head_size, slots_of, filler_of}
use Rattle.layout.specs.Bytes.{bytes2, bytes4, bytes8}
use Rattle.walk.specs.declared.Entry.{Entry}
use Rattle.image.specs.Image.{name_bytes, range_bytes, head_bytes, entry_bytes}

pub head_length : (e : Entry) → length (head_bytes e) ≡ head_size
unfolding head_bytes name_bytes range_bytes bytes2 bytes4 bytes8
head_length e = refl

-- an entry's bytes fill its slots
pub entry_length : (e : Entry) (bs : List ℕ) → e.length ≡ length bs → length (entry_bytes e bs) ≡ slots_of e.length * slot_size
unfolding entry_bytes
entry_length e bs l =
    let fill = filler_of e.length in
    let a = length-append (head_bytes e) (bs ++ replicate fill 0) in
    let b = length-append bs (replicate fill 0) in
    let d = length-replicate {A = ℕ} fill 0 in
    omega (arith, a, b, d, head_length e)
