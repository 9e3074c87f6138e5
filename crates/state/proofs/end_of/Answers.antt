-- `state::end_of` meets its contract: the library's fold carries as the definitions do (`carry_fold`).
use Rattle.std.proofs.Common.{rules}
use Rattle.state.specs.Asks.{later_end}
use Rattle.state.proofs.Library.{carry_fold}
use Rattle.state.proofs.end_of.Goals as goal

pub returns : goal.returns
returns c = rw (← carry_fold (later_end c.args.node) 0 c.args.held.now) (search rules)
