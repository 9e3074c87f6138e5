-- `plan::run` meets its contract. As many steps as `count` says.
use mathlib.Core.Path.{◌∙◌}
use Rattle.plan.proofs.Stepping.{as_many}
use Rattle.plan.proofs.run.Goals as goal

pub returns : goal.returns
returns c = c.run_to.ensures ∙ as_many _ _ _ _ _ c.count.ensures
