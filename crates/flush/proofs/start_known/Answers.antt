-- `flush::start_known` meets its contract: the laws of `Starting`, one for each way out.
-- Named on the function they close no goal: a tactic takes the fact `Known` apart, and doesn't see that a law wants it whole.
use mathlib.Core.Path.{◌≡◌, ◌∙◌}
use mathlib.Core.List.{map}
use borrow.Author.Rules.{rules}
use native.Mathlib.Omega.{arith}
use lib.ListN.{length}
use Rattle.std.proofs.lemmas.Grind.{common_steps}
use Rattle.layout.specs.Rack.{items}
use Rattle.state.specs.Lists.{entry_of}
use Rattle.state.specs.Batch.{batch_of, taken_of}
use Rattle.rules.proofs.Owning.{sure}
use Rattle.flush.proofs.Starting.{batch_laid, taken_few, start_zero, start_under, start_nothing, start_number, start_short, start_done_law}
use Rattle.flush.proofs.start_known.Goals as goal

pub returns-then-node-eq0 : goal.returns-then-node-eq0
returns-then-node-eq0 c = let a = c.args in
    start_zero a.bytes.now a.s.now _ c.requires a.node a.buffer.now c.if-node-eq0.true

pub returns-then-s-gt0 : goal.returns-then-s-gt0
returns-then-s-gt0 c = let a = c.args in
    start_under a.bytes.now a.s.now _ c.requires a.node a.buffer.now c.if-node-eq0.false c.if-s-gt0.true

pub returns-then-is_empty : goal.returns-then-is_empty
returns-then-is_empty c = let a = c.args in
    let entries : c.change-batch.result.items ≡ map entry_of (batch_of a.node (items a.judged.held)) = search rules in
    let none : length c.change-batch.result.items ≡ 0 = search (rules, common_steps) in
    start_nothing a.bytes.now a.s.now _ c.requires a.node a.buffer.now c.if-node-eq0.false (omega arith) _ entries none

pub returns-then-s-eq-NUMBERS : goal.returns-then-s-eq-NUMBERS
returns-then-s-eq-NUMBERS c = let a = c.args in
    let entries : c.change-batch.result.items ≡ map entry_of (batch_of a.node (items a.judged.held)) = search rules in
    let some : length c.change-batch.result.items ≡ 0 → ⊥ = search (rules, common_steps) in
    start_number a.bytes.now a.s.now _ c.requires a.node a.buffer.now c.if-node-eq0.false (omega arith) _ entries some c.if-s-eq-NUMBERS.true

pub invariant_of-slots : goal.invariant_of-slots
invariant_of-slots c = record { sized = (sure c.args.bytes.now c.args.s.now _ c.requires).sized }

pub make_sheet-requires : goal.make_sheet-requires
make_sheet-requires c = let a = c.args in
    let entries : c.change-batch.result.items ≡ map entry_of (batch_of a.node (items a.judged.held)) = search rules in
    let same : c.deref.result.now ≡ c.change-batch.result.items = search rules in
    batch_laid a.bytes.now a.s.now _ c.requires a.node _ (same ∙ entries)

pub returns-in_default : goal.returns-in_default
returns-in_default c = let a = c.args in
    let entries : c.change-batch.result.items ≡ map entry_of (batch_of a.node (items a.judged.held)) = search rules in
    let same : c.deref.result.now ≡ c.change-batch.result.items = search rules in
    let some : length c.deref.result.now ≡ 0 → ⊥ = search (rules, common_steps) in
    start_short a.bytes.now a.s.now _ c.requires a.node a.buffer.now c.if-node-eq0.false (omega arith) _ (same ∙ entries) some c.if-s-eq-NUMBERS.false _ _
    c.make_sheet.ensures.made c.make_sheet.ensures.buffer c.in_default.is

pub begin-requires : goal.begin-requires
begin-requires c = let a = c.args in
    let n = (sure a.bytes.now a.s.now _ c.requires).next in
    let l = c.if-s-eq-NUMBERS.false in
    let taken : items c.change-batch.new.self ≡ taken_of a.node (items a.judged.held) = search rules in
    rw c.as_slice.ensures.value (taken_few a.bytes.now a.s.now _ c.requires a.node _ taken, omega (arith, l))

pub returns : goal.returns
returns c = let a = c.args in
    let entries : c.change-batch.result.items ≡ map entry_of (batch_of a.node (items a.judged.held)) = search rules in
    let taken : items c.change-batch.new.self ≡ taken_of a.node (items a.judged.held) = search rules in
    let same : c.deref.result.now ≡ c.change-batch.result.items = search rules in
    let some : length c.deref.result.now ≡ 0 → ⊥ = search (rules, common_steps) in
    rw c.begin.ensures.started
    (start_done_law a.bytes.now a.s.now _ c.requires a.node a.buffer.now c.if-node-eq0.false (omega arith) _ (same ∙ entries) some c.if-s-eq-NUMBERS.false _ _
    c.make_sheet.ensures.made c.make_sheet.ensures.buffer _ _ _ c.in-Some.is taken (rw c.as_slice.ensures.value at c.begin.ensures.state))
