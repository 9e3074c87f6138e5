-- `fill::Layer::overlay_near` meets its contract: `Choosing`: the near writes so far are chosen. They show what all do (`near_same`).
use Rattle.fill.specs.Overlay.{is_near}
use Rattle.fill.proofs.Nearing.{Choosing}
use Rattle.fill.proofs.Layer.overlay_near.Given as goal

abbrev pub invariant-loop-one : goal.invariant-loop-one
invariant-loop-one l = let s = l.self-inside in
    Choosing (is_near s.node l.from l.end) s.held.now l.near.items l.one-index
