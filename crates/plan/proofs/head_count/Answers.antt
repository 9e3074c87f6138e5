-- `plan::head_count` meets its contract. One step where the head moves, and none where it stays.
use mathlib.Core.Path.{sym, ap}
use borrow.Author.Tests.{eq-eqb, ne_eqb}
use Rattle.plan.specs.Plan.{unless_none}
use Rattle.plan.proofs.head_count.Goals as goal

pub returns-then-plan : goal.returns-then-plan
returns-then-plan c = sym (ap (λ b. unless_none b 1) (eq-eqb _ _ c.if-plan.true))

pub returns : goal.returns
returns c = sym (ap (λ b. unless_none b 1) (ne_eqb _ _ c.if-plan.false))
