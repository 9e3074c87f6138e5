-- `sheet::Source::put_piece` meets its contract: `Painting`: of the writes so far, each byte that they cover is that of the newest.
use Rattle.layout.specs.Bytes.{round}
use Rattle.sheet.proofs.Painting.{Painting}
use Rattle.sheet.proofs.Source.put_piece.Given as goal

abbrev pub invariant-loop-i : goal.invariant-loop-i
invariant-loop-i l = Painting (round l.self.slots.bytes.now l.self.slots.n) l.self.entries.now l.start l.initial.out l.out l.i
