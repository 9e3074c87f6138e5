-- `walk::collect` meets its contract. The invariant `Collecting`: the rest of the walk is still to come behind the entries passed.
-- The slots left fall with each entry, which takes one at least.
use mathlib.Core.Path.{refl, sym, ◌∙◌}
use native.Mathlib.Omega.{arith}
use Rattle.walk.proofs.Collecting.{collect_start, collect_end, collect_none, collect_fits, collect_room, collect_step}
use Rattle.walk.proofs.collect.Goals as goal

pub loop-left-init : goal.loop-left-init
loop-left-init c = (collect_start _ _ _ c.new-entries.ensures.items, c.new-entries.ensures.tidy)

pub returns-in_default : goal.returns-in_default
returns-in_default c = let l = c.loop-left in
    collect_none _ _ _ _ _ _ l.invariant.0 c.loop-left-test.true (sym c.step_at-step.ensures ∙ c.in_default.is)

pub overflow_sub-left : goal.overflow_sub-left
overflow_sub-left c = let l = c.loop-left in
    omega (arith, c.slots-taken.ensures, collect_fits _ _ _ _ _ _ l.invariant.0 c.loop-left-test.true c.in-Some.entry (sym c.step_at-step.ensures ∙ c.in-Some.is))

pub push-requires : goal.push-requires
push-requires c = let l = c.loop-left in
    (omega arith, collect_room _ _ _ _ _ _ l.invariant.0 c.loop-left-test.true c.in-Some.entry (sym c.step_at-step.ensures ∙ c.in-Some.is) (omega arith))

pub loop-left-preserved : goal.loop-left-preserved
loop-left-preserved c = let l = c.loop-left in (
  rw c.slots-taken.ensures (collect_step _ _ _ _ _ _ l.invariant.0 c.loop-left-test.true c.in-Some.entry (sym c.step_at-step.ensures ∙ c.in-Some.is) _ c.push.ensures.items),
  c.push.ensures.tidy l.invariant.1,
)

pub returns : goal.returns
returns c = let k = c.loop-left.invariant in collect_end _ _ _ _ _ _ k.0 (omega arith) _ refl k.1
