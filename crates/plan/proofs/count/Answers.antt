-- `plan::count` meets its contract. The head's steps, and where there is an entry, one step a slot and one for the tail byte.
use mathlib.Core.Path.{◌≡◌, ap}
use Prim.Native.Nat.{◌+◌}
use lib.Dec.{eqb}
use borrow.Author.Tests.{eq-eqb, ne_eqb}
use Rattle.layout.specs.Sizes.{slots_of}
use Rattle.plan.specs.Plan.{unless_none}
use Rattle.plan.proofs.Stepping.{head_few}
use native.Mathlib.Omega.{arith}
use Rattle.plan.proofs.count.Goals as goal

pub returns-then-entry-eq0 : goal.returns-then-entry-eq0
returns-then-entry-eq0 c = let p = c.args.plan in
    let e = c.head_count-heads.ensures in
    let f = head_few p in
    let z : unless_none (eqb p.entry.number 0) (slots_of p.entry.length + 1) ≡ 0 = ap (λ b. unless_none b (slots_of p.entry.length + 1)) (eq-eqb _ _ c.if-entry-eq0.true) in
    omega arith

pub overflow_add-result-2 : goal.overflow_add-result-2
overflow_add-result-2 c = let e = c.head_count-heads.ensures in
    let f = head_few c.args.plan in
    let k = c.slots.ensures in
    omega arith

pub returns : goal.returns
returns c = let p = c.args.plan in
    let e = c.head_count-heads.ensures in
    let f = head_few p in
    let k = c.slots.ensures in
    let z : unless_none (eqb p.entry.number 0) (slots_of p.entry.length + 1) ≡ slots_of p.entry.length + 1 = ap (λ b. unless_none b (slots_of p.entry.length + 1)) (ne_eqb _ _ c.if-entry-eq0.false) in
    omega arith
