-- `plan::step_head` meets its contract. A step that finds its ring may be made (Waiting, `head_safe`); one that doesn't stores nothing.
use mathlib.Core.Path.{sym, ◌∙◌}
use Rattle.plan.proofs.Waiting.{head_safe, said_yes, said_no, left_yes, left_no}
use native.Mathlib.Omega.{arith}
use Rattle.plan.proofs.step_head.Goals as goal

pub returns-then-not-head_waits : goal.returns-then-not-head_waits
returns-then-not-head_waits c = let w = sym c.head_waits.ensures ∙ c.if-not-head_waits.true in
    record { answer = said_no _ _ w; bytes = left_no _ _ _ w }

pub overflow_cast-plan : goal.overflow_cast-plan
overflow_cast-plan c = let s = (head_safe c.args.plan c.args.bytes.now (sym c.head_waits.ensures ∙ c.if-not-head_waits.false)).0 in
    omega arith

pub put_byte-requires : goal.put_byte-requires
put_byte-requires c = (head_safe c.args.plan c.args.bytes.now (sym c.head_waits.ensures ∙ c.if-not-head_waits.false)).1

pub returns : goal.returns
returns c = let w = sym c.head_waits.ensures ∙ c.if-not-head_waits.false in
    record { answer = said_yes _ _ w; bytes = c.put_byte.ensures ∙ left_yes _ _ _ w }
