-- `walk::filler_at` meets its contract. The filler stands in the last slot, and so in a run of the buffer (Rules, `filler_flat`).
use Prim.Native.Nat.{◌+◌, ◌-◌, ◌*◌}
use mathlib.Core.Path.{ap, ◌∙◌}
use native.Mathlib.Omega.{arith}
use Rattle.layout.specs.Sizes.{header_size, slot_size, head_size}
use Rattle.layout.specs.Bytes.{flat, zeros_at}
use Rattle.layout.proofs.Views.{slot_inside}
use Rattle.walk.proofs.Rules.{filler_flat}
use Rattle.walk.proofs.filler_at.Goals as goal

pub overflow_mul-slot : goal.overflow_mul-slot
overflow_mul-slot c = let a = c.args in
    let s = a.slots.now in
    omega (arith, c.around-slot.ensures, slot_inside s.bytes.now s.n (a.place + (c.slots-full.result - 1)) s.sized)

pub overflow_add-slot : goal.overflow_add-slot
overflow_add-slot c = let a = c.args in
    let s = a.slots.now in
    omega (arith, c.around-slot.ensures, slot_inside s.bytes.now s.n (a.place + (c.slots-full.result - 1)) s.sized)

pub overflow_add-slot-2 : goal.overflow_add-slot-2
overflow_add-slot-2 c = let a = c.args in
    let s = a.slots.now in
    omega (arith, c.around-slot.ensures, slot_inside s.bytes.now s.n (a.place + (c.slots-full.result - 1)) s.sized)

pub zeros_at-requires : goal.zeros_at-requires
zeros_at-requires c = let a = c.args in
    let s = a.slots.now in
    omega (arith, c.around-slot.ensures, slot_inside s.bytes.now s.n (a.place + (c.slots-full.result - 1)) s.sized)

pub returns : goal.returns
returns c = let a = c.args in
    let s = a.slots.now in
    let slots = c.slots-full in
    let full = slots.result - 1 in
    let start = head_size + a.length - full * slot_size in
    c.zeros_at.ensures
    ∙ ap (λ k. zeros_at (flat s.bytes.now) (header_size + k * slot_size + start) (slot_size - start)) c.around-slot.ensures
    ∙ filler_flat s.bytes.now s.n a.place a.length slots.result (omega arith) slots.ensures
