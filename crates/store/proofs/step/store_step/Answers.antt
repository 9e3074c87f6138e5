-- `store::step::store_step` meets its contract: each branch is one step (Storing, `step_first`, `step_later`, `step_tail`).
use Rattle.store.proofs.Storing.{step_first, step_later, step_tail}
use native.Mathlib.Omega.{arith}
use Rattle.store.proofs.step.store_step.Goals as goal

pub returns-then-i-eq0 : goal.returns-then-i-eq0
returns-then-i-eq0 c = step_first c.args.n c.args.entry c.args.src.now c.args.bytes.now c.args.i _ _ c.if-i-eq0.true c.requires.slot_lt_n.0 c.first_image-image.ensures c.put_slot.ensures

pub returns-then-i-slots : goal.returns-then-i-slots
returns-then-i-slots c = step_later c.args.n c.args.entry c.args.src.now c.args.bytes.now c.args.i _ _ (let h = c.if-i-slots.true in let k = c.slots-slots.ensures in omega arith) c.later_image-image.ensures _ c.around.ensures c.put_slot-then-i-slots.ensures

pub returns : goal.returns
returns c = step_tail c.args.n c.args.entry c.args.src.now c.args.bytes.now c.args.i c.args.src.now _ c.slots-slots.result _ c.slots-slots.ensures c.requires.slot_lt_n.3 (omega (arith, c.if-i-slots.false)) c.tail_after.ensures c.put_byte.ensures
