-- `state::list_back` meets its contract: the invariant `filled`: the entries so far, each as it comes back, and zeros behind them.
use mathlib.Core.List.{map}
use mathlib.Core.Path.{◌≡◌}
use lib.ListN.{take}
use Rattle.state.specs.Lists.{filled, no_listed, listed_of, comes_back, unflushed}
use Rattle.state.specs.Moves.{move_of, reopen}
use Rattle.state.proofs.list_back.Given as goal

abbrev pub invariant-loop-i : goal.invariant-loop-i
invariant-loop-i l = (l.phase ≡ move_of unflushed reopen) × (l.writes ≡ filled 254 no_listed (map (λ e. listed_of (comes_back e)) (take l.i l.entries)))
