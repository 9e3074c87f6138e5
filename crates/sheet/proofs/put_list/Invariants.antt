-- `sheet::put_list` meets its contract: the invariant: the offsets and lengths of the first k pieces stand behind the first 8 bytes, and the rest of the buffer is as it was.
use mathlib.Core.Path.{◌≡◌}
use lib.ListN.{take}
use Rattle.sheet.specs.Sheet.{list_of, laid_at}
use Rattle.sheet.proofs.put_list.Given as goal

abbrev pub invariant-loop-k : goal.invariant-loop-k
invariant-loop-k l = l.buffer ≡ laid_at l.initial.buffer 8 (list_of (take l.k l.list))
