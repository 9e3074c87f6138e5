-- `judge::pins_fit` meets its contract: the pins so far fit.
use mathlib.Core.Path.{◌≡◌}
use mathlib.Core.Bool.{true}
use lib.ListN.{take}
use Rattle.judge.specs.Fits.{pins_fit}
use Rattle.judge.proofs.pins_fit.Given as goal

abbrev pub invariant-loop-i : goal.invariant-loop-i
invariant-loop-i l = pins_fit l.next (take l.i l.pins) ≡ true
