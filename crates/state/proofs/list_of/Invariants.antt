-- `state::list_of` meets its contract: the invariant `filled`: the writes so far, and zeros behind them.
use mathlib.Core.Path.{◌≡◌}
use mathlib.Core.List.{map}
use lib.ListN.{take}
use Rattle.state.specs.Lists.{filled, no_listed, listed_of}
use Rattle.state.proofs.list_of.Given as goal

abbrev pub invariant-loop-i : goal.invariant-loop-i
invariant-loop-i l = l.writes ≡ filled 254 no_listed (map listed_of (take l.i l.held))
