-- `store::step::put_slot` meets its contract: a write to a part of the buffer is a write to each of its places (Puts, `mid_sets`).
use Prim.Native.Nat.{◌+◌, ◌-◌, ◌*◌}
use mathlib.Core.Path.{◌≡◌, sym, ap, ◌∙◌}
use borrow.Rule.Slice.PartMut.{put_mid}
use lib.ListN.{length}
use native.Mathlib.Omega.{arith}
use Rattle.layout.proofs.Puts.{mid_sets}
use Rattle.store.proofs.Steps.{at_sets}
use Rattle.store.proofs.step.put_slot.Goals as goal

pub returns : goal.returns
returns c = let a = c.args in
    let k : 16 + a.slot * 256 + length a.image.now - (16 + a.slot * 256) ≡ length a.image.now = omega arith in
    ap (put_mid (16 + a.slot * 256) (16 + a.slot * 256 + length a.image.now - (16 + a.slot * 256)) a.bytes.now) c.copy_from_slice.ensures.after
    ∙ mid_sets a.image.now a.bytes.now _ _ k (omega arith) ∙ sym (at_sets a.image.now a.bytes.now _)
