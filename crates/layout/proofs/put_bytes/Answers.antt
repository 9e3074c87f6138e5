-- `layout::put_bytes` meets its contract: one move after the other is both (Turns, `put_two`).
use mathlib.Core.Path.{◌∙◌}
use lib.ListN.{length}
use native.Mathlib.Omega.{arith}
use Rattle.std.proofs.lemmas.Slice.{between_to_end}
use Rattle.layout.proofs.Turns.{put_two}
use Rattle.layout.proofs.put_bytes.Goals as goal

pub returns : goal.returns
returns c =
    let a = c.args in
    let o = c.run_at-start.ensures in
    put_two a.src.now a.bytes.now a.n a.p _ _ c.requires.sized c.requires.p_bound.1 o.start o.left _ _ _ _ (omega arith) (omega arith) c.copy.ensures (c.copy-2.ensures ∙ between_to_end a.src.now c.run_at-start.result.1 (length a.src.now) (omega arith))
