-- `judge::hold` meets its contract: what is held so far, and behind it what the rest of both would still give (`Holding`).
-- The rack is tidy, so that it is told whole.
use Rattle.layout.specs.Rack.{items, IsTidy}
use Rattle.state.specs.Lists.{no_held}
use Rattle.judge.proofs.Fitting.{Holding}
use Rattle.judge.proofs.hold.Given as goal

abbrev pub invariant-loop-entry : goal.invariant-loop-entry
invariant-loop-entry l = Holding l.entries l.writes (items l.held) l.entry-iterator.a.rest.now l.entry-iterator.b.rest.now × IsTidy no_held l.held
