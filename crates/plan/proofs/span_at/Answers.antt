-- `plan::span_at` meets its contract. The place of a slot (Storing, `store_slot`), or the tail byte's (`store_tail`).
use Prim.Native.Nat.{◌+◌}
use mathlib.Core.Path.{sym, ap, ◌∙◌}
use native.Mathlib.Nat.{mod-lt}
use Rattle.layout.specs.Sizes.{slot_size}
use Rattle.plan.specs.Plan.{span_of}
use Rattle.store.specs.Steps.{place_of}
use Rattle.store.proofs.Storing.{store_slot, store_tail}
use native.Mathlib.Omega.{arith}
use Rattle.plan.proofs.span_at.Goals as goal

pub returns-then-j-slots : goal.returns-then-j-slots
returns-then-j-slots c = let k = c.slots.ensures in
    sym (ap span_of (store_tail c.args.n c.args.entry _ c.args.j (c.if-j-slots.true ∙ k)))

pub overflow_mul-result : goal.overflow_mul-result
overflow_mul-result c = let a = c.args in
    let m = mod-lt (a.entry.slot + a.j) c.requires.0 in
    let e = c.around-slot.ensures in
    let h = c.requires.1 in
    omega arith

pub overflow_add-result : goal.overflow_add-result
overflow_add-result c = let a = c.args in
    let m = mod-lt (a.entry.slot + a.j) c.requires.0 in
    let e = c.around-slot.ensures in
    let h = c.requires.1 in
    omega arith

pub returns : goal.returns
returns c = let a = c.args in
    let k = c.slots.ensures in
    let n = c.if-j-slots.false in
    let h = c.requires.2 in
    ap (λ k. record { place = place_of k; length = slot_size }) c.around-slot.ensures ∙ sym (ap span_of (store_slot a.n a.entry _ a.j (omega (arith, n))))
