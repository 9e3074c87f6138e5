-- `fill::Layer::overlay_blocks` meets its contract: `Laying`, as in `overlay`, a part at a time.
use Rattle.fill.proofs.Overlaying.{Laying}
use Rattle.fill.proofs.Layer.overlay_blocks.Given as goal

abbrev pub invariant-loop-k : goal.invariant-loop-k
invariant-loop-k l = Laying l.self l.from l.initial.out l.out l.k
