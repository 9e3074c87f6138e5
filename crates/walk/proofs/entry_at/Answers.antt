-- `walk::entry_at` meets its contract. The head of an entry stands in one slot, and so in a run of the buffer (Views, `slot_flat`).
use Prim.Native.Nat.{◌+◌, ◌*◌, ◌<◌}
use mathlib.Core.Path.{sym, ap, ◌∙◌}
use native.Mathlib.Nat.{mod-lt}
use native.Mathlib.Omega.{arith}
use Rattle.layout.specs.Sizes.{header_size, slot_size}
use Rattle.layout.specs.Bytes.{flat}
use Rattle.layout.proofs.Views.{slot_inside, slot_flat}
use Rattle.walk.specs.Entry.{head_at}
use Rattle.walk.proofs.Rules.{head_same}
use Rattle.walk.proofs.entry_at.Goals as goal

pub overflow_mul-slot : goal.overflow_mul-slot
overflow_mul-slot c = let a = c.args in
    let s = a.slots.now in
    omega (arith, c.around-slot.ensures, slot_inside s.bytes.now s.n a.place s.sized)

pub overflow_add-slot : goal.overflow_add-slot
overflow_add-slot c = let a = c.args in
    let s = a.slots.now in
    omega (arith, c.around-slot.ensures, slot_inside s.bytes.now s.n a.place s.sized)

pub overflow_cast-slot : goal.overflow_cast-slot
overflow_cast-slot c = let a = c.args in
    let s = a.slots.now in
    let z : 0 < s.n = omega arith in
    omega (arith, c.around-slot.ensures, mod-lt a.place z)

pub head_at-requires : goal.head_at-requires
head_at-requires c = let a = c.args in
    let s = a.slots.now in
    omega (arith, c.around-slot.ensures, slot_inside s.bytes.now s.n a.place s.sized)

pub returns : goal.returns
returns c = let a = c.args in
    let s = a.slots.now in
    let z : 0 < s.n = omega arith in record {
      value = c.head_at.ensures.value
          ∙ ap (λ k. head_at (flat s.bytes.now) (header_size + k * slot_size) k) c.around-slot.ensures
          ∙ sym (head_same _ (slot_flat s.bytes.now s.n a.place z) (omega arith));
      length_bound = c.head_at.ensures.length_bound;
    }
