-- `state::list_of` meets its contract: the invariant `filled`: the writes so far, and zeros behind them.
use native.Mathlib.Omega.{arith}
use Rattle.state.specs.Lists.{no_held, no_listed, listed_of}
use Rattle.state.proofs.Loops.{list_first}
use Rattle.state.proofs.list_of.Goals as goal

pub loop-i-preserved : goal.loop-i-preserved
loop-i-preserved c = let l = c.loop-i in
    rw l.invariant (list_first 254 no_listed listed_of no_held c.args.held.now l.i c.loop-i-test.true (omega arith))
