-- `change::unpin_known` meets its contract: the laws of `Changing`.
-- Named on the function they close no goal: a tactic takes the fact `Known` apart, and doesn't see that a law wants it whole.
use mathlib.Core.Path.{◌≡◌}
use native.Mathlib.Omega.{arith}
use Rattle.state.specs.Lists.{no_pin}
use Rattle.rules.proofs.Owning.{sure}
use Rattle.change.proofs.Changing.{unpin_zero, unpin_none, unpin_done}
use Rattle.change.proofs.unpin_known.Goals as goal

pub returns-then-number-eq0 : goal.returns-then-number-eq0
returns-then-number-eq0 c = let a = c.args in
    unpin_zero a.bytes.now a.s.now _ c.requires a.number c.if-number-eq0.true

pub returns-in_default : goal.returns-in_default
returns-in_default c = let a = c.args in
    unpin_none a.bytes.now a.s.now _ c.requires a.number c.in_default.ensures

pub let_go-requires : goal.let_go-requires
let_go-requires c = let a = c.args in
    let k = sure a.bytes.now a.s.now _ c.requires in
    let u = k.slots in
    let f = k.free in
    let h = k.sized.high in
    let m = k.few in
    rw c.as_slice.ensures.value (record { sized = k.sized; head_lt_n = (k.head, omega arith, k.phases); held_bound = omega arith })

pub returns : goal.returns
returns c = let a = c.args in
    let free : c.default.result ≡ no_pin = grind arith in
    unpin_done a.bytes.now a.s.now _ c.requires a.number c.in-Some.place c.in-Some.ensures c.if-number-eq0.false _ _ (rw (← c.as_slice.ensures.value, ← free) c.let_go.ensures.state) (rw (← c.as_slice.ensures.value, ← free) c.let_go.ensures.bytes)
