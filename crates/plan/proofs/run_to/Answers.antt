-- `plan::run_to` meets its contract. The invariant `Going`: the first i steps are made.
use mathlib.Core.Path.{◌≡◌, ◌∙◌}
use native.Mathlib.Omega.{arith}
use Rattle.plan.proofs.Stepping.{go_start, go_next, as_many}
use Rattle.plan.proofs.run_to.Goals as goal

pub loop-i-init : goal.loop-i-init
loop-i-init c = go_start _ _ _

pub loop-i-preserved : goal.loop-i-preserved
loop-i-preserved c = go_next _ _ _ _ _ c.loop-i.invariant _ c.make_step.ensures.bytes

pub returns : goal.returns
returns c = let all : c.loop-i.i ≡ c.args.steps = omega arith in c.loop-i.invariant.is ∙ as_many _ _ _ _ _ all
