-- `fill::Layer::overlay` meets its contract: `Laying`: the front of the part is laid over.
use Rattle.fill.proofs.Overlaying.{Laying}
use Rattle.fill.proofs.Layer.overlay.Given as goal

abbrev pub invariant-loop-k : goal.invariant-loop-k
invariant-loop-k l = Laying l.self l.from l.initial.out l.out l.k
