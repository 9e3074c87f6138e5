-- `sheet::Source::put_overlap` meets its contract: the overlap gets the write's bytes (`paint_span`); without one all stays (`paint_none`).
use native.Mathlib.Omega.{arith}
use Rattle.layout.specs.Bytes.{round}
use Rattle.sheet.proofs.Painting.{paint_none, paint_span}
use Rattle.sheet.proofs.Source.put_overlap.Goals as goal

pub returns-then-from-until : goal.returns-then-from-until
returns-then-from-until c = let a = c.args in
    paint_span (round a.self.now.slots.bytes.now a.self.now.slots.n) a.entry a.start a.out.now _ _ c.max-from.ensures c.min-until.ensures c.if-from-until.true _ c.entry_bytes.ensures

pub returns-else-from-until : goal.returns-else-from-until
returns-else-from-until c = let x = c.max-from.ensures in
    let y = c.min-until.ensures in
    let h = c.if-from-until.false in
    paint_none _ _ _ _ (omega arith)
