-- `state::leave` meets its contract: `Counting`: those before the place leave, and take so many slots.
use Rattle.state.proofs.LettingGo.{Counting}
use Rattle.state.proofs.leave.Given as goal

abbrev pub invariant-loop-i : goal.invariant-loop-i
invariant-loop-i l = Counting l.pins l.held l.i l.slots
