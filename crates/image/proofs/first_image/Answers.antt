-- `image::first_image` meets its contract: head, bytes and zeros (Images, `first_made`).
use Prim.Native.Nat.{◌+◌, ◌-◌, min}
use mathlib.Core.Path.{◌≡◌, ◌∙◌}
use lib.ListN.{length}
use native.Mathlib.Omega.{arith}
use Rattle.std.proofs.Common.{rules}
use Rattle.image.proofs.Images.{first_made}
use Rattle.image.proofs.first_image.Goals as goal

pub returns : goal.returns
returns c =
    let count = c.min-count.result in
    let least : count ≡ min (length c.args.src.now) 232 = search rules in
    first_made c.args.entry c.args.src.now c.requires count (24 + count - 24) c.copy_from_slice.new.self c.copy_from_slice-2.new.self least (omega arith) (c.copy_from_slice.ensures.after ∙ c.head_bytes.ensures) c.copy_from_slice-2.ensures.after
