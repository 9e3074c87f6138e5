-- `layout::Slots::take` meets its contract: what came back in the two parts, said of the whole (Turns, `taken_two`).
use native.Mathlib.Nat.{mod-le}
use native.Mathlib.Omega.{arith}
use Rattle.layout.specs.Sizes.{span_of}
use Rattle.layout.proofs.Turns.{taken_two}
use Rattle.layout.proofs.Slots.take.Goals as goal

pub returns : goal.returns
returns c =
    let a = c.args in
    let s = a.self.now in
    let o = c.run_at-start.ensures in
    let m = mod-le a.p (span_of s.n) in
    taken_two s.bytes.now s.n a.p a.out.now _ _ s.sized (omega arith) o.start o.left _ _ _ _ (omega arith) (omega arith) c.copy.ensures c.copy-2.ensures
