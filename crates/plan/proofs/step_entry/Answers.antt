-- `plan::step_entry` meets its contract. A step that finds its ring may be made (Waiting, `store_safe`); one that doesn't stores nothing.
use Rattle.std.specs.Prelude.{Ok}
use mathlib.Core.Path.{sym, ap, ◌∙◌}
use Rattle.plan.proofs.Waiting.{store_safe, said_yes, said_no, left_yes, left_no}
use native.Mathlib.Omega.{arith}
use Rattle.plan.proofs.step_entry.Goals as goal

pub returns-then-not-store_waits : goal.returns-then-not-store_waits
returns-then-not-store_waits c = let w = sym c.store_waits.ensures ∙ c.if-not-store_waits.true in
    record { answer = said_no _ _ w; bytes = left_no _ _ _ w }

pub store_step-requires : goal.store_step-requires
store_step-requires c = let o = store_safe c.args.plan c.args.bytes.now _ (sym c.store_waits.ensures ∙ c.if-not-store_waits.false) in
    record { sized = o.sized; slot_lt_n = (o.slot, o.bytes, o.most, c.requires) }

pub span_at-requires : goal.span_at-requires
span_at-requires c = let o = store_safe c.args.plan c.args.bytes.now _ (sym c.store_waits.ensures ∙ c.if-not-store_waits.false) in
    let l = o.sized.low in
    let h = o.sized.high in
    (omega arith, omega arith, c.requires)

pub returns : goal.returns
returns c = let w = sym c.store_waits.ensures ∙ c.if-not-store_waits.false in
    record { answer = ap Ok c.span_at.ensures ∙ said_yes _ _ w; bytes = c.store_step.ensures ∙ left_yes _ _ _ w }
