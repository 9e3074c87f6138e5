-- `plan::make_step` meets its contract. The step is the head byte's, the entry's, or there is none (Stepping).
use mathlib.Core.Path.{refl, ◌∙◌}
use Prim.Native.Nat.{◌≤◌, ◌<◌}
use Rattle.plan.specs.Plan.{head_count, step_count}
use Rattle.plan.proofs.Stepping.{head_step_law, head_step_waits, no_step_waits, entry_within, ring_by_law, answer_by, entry_made}
use native.Mathlib.Omega.{arith}
use Rattle.plan.proofs.make_step.Goals as goal

pub returns-then-i-heads : goal.returns-then-i-heads
returns-then-i-heads c = let a = c.args in
    let e = c.head_count-heads.ensures in
    let h = c.if-i-heads.true in
    let w = head_step_waits a.plan a.src.now a.i (omega arith) a.bytes.now in
    let s = head_step_law a.plan a.src.now a.i (omega arith) in
    record { answer = c.step_head.ensures.answer ∙ answer_by a.plan a.src.now a.i a.bytes.now _ _ w s; bytes = c.step_head.ensures.bytes ∙ ring_by_law a.plan a.src.now a.i a.bytes.now _ _ w s }

pub returns-then-count-i : goal.returns-then-count-i
returns-then-count-i c = let a = c.args in
    let e = c.head_count-heads.ensures in
    let f = c.count.ensures in
    let h = c.if-i-heads.false in
    let k = c.if-count-i.true in
    let w = no_step_waits a.plan a.src.now a.i (omega (arith, h)) (omega (arith, k)) a.bytes.now in
    record { answer = answer_by a.plan a.src.now a.i a.bytes.now _ _ w refl; bytes = ring_by_law a.plan a.src.now a.i a.bytes.now _ _ w refl }

pub step_entry-requires : goal.step_entry-requires
step_entry-requires c = let a = c.args in
    let e = c.head_count-heads.ensures in
    let f = c.count.ensures in
    let h = c.if-i-heads.false in
    let k = c.if-count-i.false in
    let w = entry_within a.plan a.src.now a.i (omega (arith, h)) (omega (arith, k)) in
    omega arith

pub returns : goal.returns
returns c = let w = (let a = c.args in
    let e = c.head_count-heads.ensures in
    let f = c.count.ensures in
    let h = c.if-i-heads.false in
    let k = c.if-count-i.false in
    let hh : head_count a.plan ≤ a.i = omega (arith, h) in
    let kk : a.i < step_count a.plan = omega (arith, k) in
    entry_made a.plan a.src.now a.i a.bytes.now hh kk _ e _ _ c.step_entry.ensures.answer c.step_entry.ensures.bytes) in record { answer = w.0; bytes = w.1 }
