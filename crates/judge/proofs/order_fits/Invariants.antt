-- `judge::order_fits` meets its contract: the writes so far may stand in their order.
use mathlib.Core.Path.{◌≡◌}
use mathlib.Core.Bool.{true}
use lib.ListN.{take}
use Rattle.state.specs.Lists.{pairs}
use Rattle.judge.specs.Fits.{pair_fits}
use Rattle.judge.proofs.order_fits.Given as goal

abbrev pub invariant-loop-j : goal.invariant-loop-j
invariant-loop-j l = pairs pair_fits (take l.j l.held) ≡ true
