-- `plan::head_waits` meets its contract. Each refusal contradicts a fact of `HeadReady` (Waiting); where none is left, all of them hold.
use mathlib.Core.Path.{sym, ◌∙◌}
use Rattle.plan.proofs.Waiting.{head_bad, head_no, head_yes}
use native.Mathlib.Omega.{arith}
use Rattle.plan.proofs.head_waits.Goals as goal

pub returns-in_default : goal.returns-in_default
returns-in_default c = head_bad c.args.plan _ (sym c.header_of.ensures ∙ c.in_default.is)

pub returns-then-ring-plan : goal.returns-then-ring-plan
returns-then-ring-plan c = head_no c.args.plan _ _ (sym c.header_of.ensures ∙ c.in-Some.is) (λ o. c.if-ring-plan.true o.slots)

pub returns-then-ring-plan-2 : goal.returns-then-ring-plan-2
returns-then-ring-plan-2 c = head_no c.args.plan _ _ (sym c.header_of.ensures ∙ c.in-Some.is) (λ o. c.if-ring-plan-2.true o.from)

pub returns-then-plan : goal.returns-then-plan
returns-then-plan c = head_no c.args.plan _ _ (sym c.header_of.ensures ∙ c.in-Some.is) (λ o. let h = o.below in let w : ⊥ = omega (arith, c.if-plan.true) in w)

pub returns : goal.returns
returns c = sym (head_yes c.args.plan _ _ (sym c.header_of.ensures ∙ c.in-Some.is) (record { slots = omega (arith, c.if-ring-plan.false); from = omega (arith, c.if-ring-plan-2.false); below = omega (arith, c.if-plan.false) }))
