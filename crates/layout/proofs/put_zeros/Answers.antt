-- `layout::put_zeros` meets its contract: one move after the other is both (Turns, `zeros_two`).
use native.Mathlib.Omega.{arith}
use Rattle.layout.proofs.Turns.{zeros_two}
use Rattle.layout.proofs.put_zeros.Goals as goal

pub returns : goal.returns
returns c =
    let a = c.args in
    let o = c.run_at-start.ensures in
    zeros_two a.bytes.now a.n a.p a.count _ _ c.requires.sized c.requires.p_bound.1 o.start o.left _ _ _ _ (omega arith) (omega arith) (c.fill.ensures.after (λ y e. e)) (c.fill-2.ensures.after (λ y e. e))
