-- `layout::zeros_at` meets its contract. The invariant: what was found so far and the rest decide together (Loops, `zeros_next`).
use Prim.Native.Nat.{◌+◌, ◌-◌}
use mathlib.Core.Path.{sym, ap, ◌∙◌}
use native.Mathlib.Omega.{arith}
use lib.ListN.{drop, length-drop}
use lib.Seq.{length-take-le}
use Rattle.std.proofs.lemmas.List.{get_or-take, get_or-drop}
use Rattle.layout.specs.Bytes.{both, flat, zeros_at}
use Rattle.layout.proofs.Loops.{zeros_start, zeros_next, zeros_hit, zeros_done}
use Rattle.layout.proofs.zeros_at.Goals as goal
use Rattle.layout.proofs.zeros_at.Goals.{then-byte-ne0, else-byte-ne0}

pub loop-byte-init : goal.loop-byte-init
loop-byte-init c = zeros_start _ _ _

pub loop-byte-preserved : goal.loop-byte-preserved
loop-byte-preserved c =
    let a = c.args in
    let l = c.loop-byte in
    let i = l.byte-index in
    let f = flat a.bytes.now in
    let d = length-drop a.p a.bytes.now in
    let m = length-take-le (a.p + a.count - a.p) (drop a.p a.bytes.now) (omega arith) in
    let h = c.loop-byte-test.true in
    let e = get_or-take (a.p + a.count - a.p) (drop a.p a.bytes.now) i 0 (omega arith) ∙ get_or-drop a.p a.bytes.now i 0 in
    let rest = zeros_at f (a.p + (i + 1)) (a.count - (i + 1)) in
    l.invariant ∙
    elim c.if-byte-ne0.branch [
      | then-byte-ne0 w ↦ zeros_hit f a.p a.count l.clear i (omega arith) (λ z. w.if-byte-ne0.true (e ∙ z)) ∙ ap (λ b. both b rest) (sym w.clear-is)
      | else-byte-ne0 w ↦ zeros_next f a.p a.count l.clear i (omega arith) (sym e ∙ w.if-byte-ne0.false) ∙ ap (λ b. both b rest) (sym w.clear-is)
    ]

pub returns : goal.returns
returns c = let a = c.args in
    let l = c.loop-byte in
    let d = length-drop a.p a.bytes.now in
    let m = length-take-le (a.p + a.count - a.p) (drop a.p a.bytes.now) (omega arith) in
    let h = c.loop-byte-test.false in
    sym (l.invariant ∙ zeros_done (flat a.bytes.now) a.p a.count l.clear l.byte-index (omega arith))
