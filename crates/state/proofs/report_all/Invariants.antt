-- `state::report_all` meets its contract: those before the place have moved.
use mathlib.Core.Path.{◌≡◌}
use mathlib.Core.List.{map, ◌++◌}
use lib.ListN.{take, drop}
use Rattle.state.specs.Moves.{column, reported}
use Rattle.state.proofs.report_all.Given as goal

abbrev pub invariant-loop-one : goal.invariant-loop-one
invariant-loop-one l = l.held ≡ map (reported (column l.event)) (take l.one-index l.initial.held) ++ drop l.one-index l.initial.held
