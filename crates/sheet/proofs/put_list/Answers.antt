-- `sheet::put_list` meets its contract: the invariant: the offsets and lengths of the first k pieces stand behind the first 8 bytes, and the rest of the buffer is as it was.
use Prim.Native.Nat.{◌+◌, ◌*◌}
use mathlib.Core.Path.{ap, ◌∙◌}
use lib.ListN.{get_or}
use native.Mathlib.Omega.{arith}
use Rattle.layout.specs.Bytes.{bytes4}
use Rattle.sheet.specs.Sheet.{list_of, laid_at}
use Rattle.sheet.specs.Places.{no_piece}
use Rattle.sheet.proofs.Storing.{laid_none, list_more}
use Rattle.sheet.proofs.put_list.Goals as goal

pub loop-k-init : goal.loop-k-init
unfolding list_of
loop-k-init c = laid_none _ _

pub loop-k-preserved : goal.loop-k-preserved
loop-k-preserved c = let l = c.loop-k in
    let a = c.args in
    list_more a.buffer.now a.list.now l.k (omega arith) _ _ (omega arith)
    (c.put_number.ensures ∙ ap (λ d. laid_at d (8 + 8 * l.k) (bytes4 (get_or a.list.now l.k no_piece).start)) l.invariant) c.put_number-in-loop-k.ensures
