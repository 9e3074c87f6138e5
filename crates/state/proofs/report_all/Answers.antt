-- `state::report_all` meets its contract: those before the place have moved.
use native.Mathlib.Omega.{arith}
use Rattle.std.proofs.lemmas.List.Edits.{map_over_more}
use Rattle.std.proofs.lemmas.List.{get_or_default}
use Rattle.state.specs.Lists.{no_held}
use Rattle.state.specs.Moves.{column, reported}
use Rattle.state.proofs.report_all.Goals as goal

pub loop-one-preserved : goal.loop-one-preserved
loop-one-preserved c = let l = c.loop-one in
    rw c.reported.ensures (map_over_more (reported (column c.args.event)) c.args.held.now l.held l.one-index _ (omega arith) l.invariant (get_or_default l.held l.one-index no_held _ (omega arith)))
