-- `sheet::put_number` meets its contract: the lowest four of the number's bytes are laid in the buffer (`four_low`).
use Prim.Native.Nat.{◌+◌}
use mathlib.Core.Path.{ap, ◌∙◌}
use lib.ListN.{take}
use native.Mathlib.Omega.{arith}
use Rattle.sheet.proofs.Storing.{four_low, four_long, part_laid}
use Rattle.sheet.proofs.put_number.Goals as goal

pub returns : goal.returns
returns c = let a = c.args in
    part_laid a.at (a.at + 4) a.buffer.now _ _ (omega arith) (let l = four_long a.x in omega arith) (c.copy_from_slice.ensures.after ∙ ap (take 4) c.to_le_bytes.ensures ∙ four_low a.x)
