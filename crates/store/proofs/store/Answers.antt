-- `store::store` meets its contract. Head, bytes and filler are one run of bytes, cut in three (Stored, `stored_by`); the tail byte comes last.
use Prim.Native.Nat.{◌*◌}
use mathlib.Core.Path.{ap, ◌∙◌}
use Rattle.layout.specs.Sizes.{slot_size}
use Rattle.layout.specs.Bytes.{put}
use Rattle.store.proofs.Stored.{stored_by}
use Rattle.store.proofs.store.Goals as goal

pub returns : goal.returns
returns c = let a = c.args in
    rw c.tail_after.ensures
    (stored_by a.bytes.now a.n a.entry a.src.now _ _ _ c.slots-slots.result c.slots-slots.ensures c.requires.slot_lt_n.1 (c.put_bytes.ensures ∙ ap (put a.bytes.now a.n (a.entry.slot * slot_size)) c.head_bytes.ensures) c.put_bytes-2.ensures c.put_zeros.ensures)
