-- `image::head_bytes` meets its contract: each field's bytes as the table has them (layout's Numbers), one behind the other.
use mathlib.Core.Path.{refl, ◌∙◌}
use Rattle.layout.specs.Bytes.{bytes2, bytes4, bytes8}
use Rattle.layout.proofs.Numbers.{le_bytes4, le_bytes8}
use Rattle.image.specs.Image.{name_bytes, range_bytes, head_bytes}
use Rattle.image.proofs.head_bytes.Goals as goal

pub returns : goal.returns
unfolding head_bytes name_bytes range_bytes bytes8 bytes4 bytes2
returns c =
    let e = c.args.entry in
    let number = c.copy_from_slice.ensures.after ∙ c.to_le_bytes.ensures ∙ le_bytes8 e.number in
    let node = c.copy_from_slice-2.ensures.after ∙ c.to_le_bytes-2.ensures ∙ le_bytes4 e.node in
    let handle = c.copy_from_slice-3.ensures.after ∙ c.to_le_bytes-3.ensures ∙ le_bytes4 e.handle in
    let offset = c.copy_from_slice-4.ensures.after ∙ c.to_le_bytes-4.ensures ∙ le_bytes4 e.offset in
    let length = c.copy_from_slice-5.ensures.after in
    let l = c.to_le_bytes-5.ensures in
    let zero = c.copy_from_slice-6.ensures.after in
    let z = c.to_le_bytes-6.ensures in
    rw (number, node, handle, offset, length, zero, l, z) refl
