-- `plan::store_waits` meets its contract. Each refusal contradicts a fact of `StoreReady` (Waiting); where none is left, all of them hold.
use mathlib.Core.Path.{sym, ◌∙◌}
use Rattle.walk.proofs.Rules.{header_use}
use Rattle.plan.proofs.Waiting.{store_bad, store_no, store_yes}
use native.Mathlib.Omega.{arith}
use Rattle.plan.proofs.store_waits.Goals as goal

pub returns-in_default : goal.returns-in_default
returns-in_default c = store_bad c.args.plan _ _ (sym c.header_of.ensures ∙ c.in_default.is)

pub returns-then-ring-plan : goal.returns-then-ring-plan
returns-then-ring-plan c = store_no c.args.plan _ _ (sym c.header_of.ensures ∙ c.in-Some.is) _ (λ o. c.if-ring-plan.true o.slots)

pub returns-then-src-entry : goal.returns-then-src-entry
returns-then-src-entry c = store_no c.args.plan _ _ (sym c.header_of.ensures ∙ c.in-Some.is) _ (λ o. c.if-src-entry.true o.bytes)

pub returns-then-entry-gt-LARGEST : goal.returns-then-entry-gt-LARGEST
returns-then-entry-gt-LARGEST c = store_no c.args.plan _ _ (sym c.header_of.ensures ∙ c.in-Some.is) _ (λ o. let h = o.most in let w : ⊥ = omega (arith, c.if-entry-gt-LARGEST.true) in w)

pub overflow_add-ring : goal.overflow_add-ring
overflow_add-ring c = let k = header_use c.args.bytes.now _ (sym c.header_of.ensures ∙ c.in-Some.is) in
    let h = k.head in
    let u = k.used in
    let z = k.sized.high in
    omega arith

pub around-requires : goal.around-requires
around-requires c = let k = header_use c.args.bytes.now _ (sym c.header_of.ensures ∙ c.in-Some.is) in
    let h = k.head in
    omega arith

pub returns-then-around-entry : goal.returns-then-around-entry
returns-then-around-entry c = store_no c.args.plan _ _ (sym c.header_of.ensures ∙ c.in-Some.is) _ (λ o. c.if-around-entry.true (c.around.ensures ∙ o.tail))

pub overflow_add-ring-2 : goal.overflow_add-ring-2
overflow_add-ring-2 c = let k = header_use c.args.bytes.now _ (sym c.header_of.ensures ∙ c.in-Some.is) in
    let u = k.used in
    let z = k.sized.high in
    let s = c.slots.ensures in
    omega arith

pub returns-then-ring-slots : goal.returns-then-ring-slots
returns-then-ring-slots c = let s = c.slots.ensures in
    store_no c.args.plan _ _ (sym c.header_of.ensures ∙ c.in-Some.is) _ (λ o. let h = o.room in let w : ⊥ = omega (arith, c.if-ring-slots.true) in w)

pub returns : goal.returns
returns c = let s = c.slots.ensures in
    sym (store_yes c.args.plan _ _ (sym c.header_of.ensures ∙ c.in-Some.is) _ (record { slots = omega (arith, c.if-ring-plan.false); bytes = omega (arith, c.if-src-entry.false); most = omega (arith, c.if-entry-gt-LARGEST.false); tail = sym c.around.ensures ∙ c.if-around-entry.false; room = omega (arith, c.if-ring-slots.false) }))
