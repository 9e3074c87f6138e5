-- `state::leave` meets its contract: `Counting`: those before the place leave, and take so many slots.
use mathlib.Core.Path.{sym, ◌∙◌}
use native.Mathlib.Omega.{arith}
use Rattle.state.proofs.Finding.{fit_at}
use Rattle.state.proofs.LettingGo.{count_here, count_end, count_most, count_on}
use Rattle.state.proofs.leave.Goals as goal

pub is_due-requires : goal.is_due-requires
is_due-requires c = let h = fit_at c.args.held.now c.loop-i.i c.requires.fit c.loop-i-test.true in
    omega arith

pub returns-then-not-is_due : goal.returns-then-not-is_due
returns-then-not-is_due c = count_here _ _ _ _ c.loop-i.invariant c.loop-i-test.true (sym c.is_due.ensures ∙ c.if-not-is_due.true)

pub overflow_add-slots : goal.overflow_add-slots
overflow_add-slots c = let w = count_most _ _ _ _ c.loop-i.invariant c.loop-i-test.true in
    let z = c.slots-slots.ensures in
    omega arith

pub loop-i-preserved : goal.loop-i-preserved
loop-i-preserved c = rw c.slots-slots.ensures (count_on _ _ _ _ c.loop-i.invariant c.loop-i-test.true (sym c.is_due.ensures ∙ c.if-not-is_due.false))

pub returns : goal.returns
returns c = count_end _ _ _ _ c.loop-i.invariant (omega arith)
