-- `image::later_image` meets its contract: bytes and zeros (Images, `later_made`).
use Prim.Native.Nat.{◌+◌, ◌-◌, ◌*◌, min}
use mathlib.Core.Path.{◌≡◌}
use lib.ListN.{length}
use native.Mathlib.Omega.{arith}
use Rattle.std.proofs.Common.{rules}
use Rattle.image.proofs.Images.{later_made}
use Rattle.image.proofs.later_image.Goals as goal

pub returns : goal.returns
returns c =
    let i = c.args.i in
    let count = c.min-count.result in
    let least : count ≡ min (length c.args.src.now - (i * 256 - 24)) 256 = search rules in
    later_made c.args.entry c.args.src.now c.requires.0 i count (i * 256 - 24 + count - (i * 256 - 24)) c.copy_from_slice.new.self c.requires.1 c.requires.2 least (omega arith) c.copy_from_slice.ensures.after
