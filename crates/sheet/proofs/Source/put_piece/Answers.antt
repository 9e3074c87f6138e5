-- `sheet::Source::put_piece` meets its contract: `Painting`: of the writes so far, each byte that they cover is that of the newest.
use native.Mathlib.Omega.{arith}
use Rattle.sheet.proofs.Painting.{paint_start, paint_on, paint_done}
use Rattle.sheet.proofs.Source.put_piece.Goals as goal

pub loop-i-init : goal.loop-i-init
loop-i-init c = paint_start _ _ _ _

pub loop-i-preserved : goal.loop-i-preserved
loop-i-preserved c = paint_on _ _ _ _ _ _ c.loop-i.invariant _ c.put_overlap.ensures

pub returns : goal.returns
returns c = paint_done _ _ _ _ _ _ c.loop-i.invariant c.requires.1 (omega arith)
