-- `plan::run_to` meets its contract. The invariant `Going`: the first i steps are made.
use Rattle.plan.proofs.Stepping.{Going}
use Rattle.plan.proofs.run_to.Given as goal

abbrev pub invariant-loop-i : goal.invariant-loop-i
invariant-loop-i l = Going l.plan l.src l.initial.bytes l.bytes l.i
