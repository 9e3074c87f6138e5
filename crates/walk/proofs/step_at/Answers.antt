-- `walk::step_at` meets its contract. A test that fails contradicts `IsEntry`; where none is left, `IsEntry` holds.
use mathlib.Core.Path.{sym, ◌∙◌}
use native.Mathlib.Omega.{arith}
use Rattle.layout.specs.Bytes.{round}
use Rattle.layout.proofs.Tests.{true_not_false}
use Rattle.walk.proofs.Rules.{valid_true, valid_sound, step_nothing, step_found}
use Rattle.walk.proofs.step_at.Goals as goal

pub returns-then-not-valid_fields : goal.returns-then-not-valid_fields
returns-then-not-valid_fields c = let a = c.args in
    let e = c.entry_at-entry in
    sym (rw (← e.ensures.value) (step_nothing (round a.slots.now.bytes.now a.slots.now.n) a.at e.result (λ h. true_not_false _ (valid_true _ h.valid) (sym c.valid_fields.ensures ∙ c.if-not-valid_fields.true))))

pub returns-then-entry-at : goal.returns-then-entry-at
returns-then-entry-at c = let a = c.args in
    let e = c.entry_at-entry in
    sym (rw (← e.ensures.value) (step_nothing (round a.slots.now.bytes.now a.slots.now.n) a.at e.result (λ h. omega (arith, h.rising))))

pub returns-then-at-slots : goal.returns-then-at-slots
returns-then-at-slots c = let a = c.args in
    let e = c.entry_at-entry in
    sym (rw (← e.ensures.value) (step_nothing (round a.slots.now.bytes.now a.slots.now.n) a.at e.result (λ h. omega (arith, h.fits))))

pub returns-then-not-filler_at : goal.returns-then-not-filler_at
returns-then-not-filler_at c = let a = c.args in
    let e = c.entry_at-entry in
    sym (rw (← e.ensures.value) (step_nothing (round a.slots.now.bytes.now a.slots.now.n) a.at e.result (λ h. true_not_false _ h.filled (sym c.filler_at.ensures ∙ c.if-not-filler_at.true))))

pub returns : goal.returns
returns c = let a = c.args in
    let e = c.entry_at-entry in
    sym (rw (← e.ensures.value) (step_found (round a.slots.now.bytes.now a.slots.now.n) a.at e.result
    (record {
      valid = valid_sound _ (sym c.valid_fields.ensures ∙ c.if-not-valid_fields.false);
      rising = omega arith;
      fits = omega arith;
      filled = sym c.filler_at.ensures ∙ c.if-not-filler_at.false;
    })))
