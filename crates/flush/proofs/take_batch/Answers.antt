-- `flush::take_batch` meets its contract: `Taking`: what is taken so far, and what the rest would still give.
use mathlib.Core.Path.{sym, ap, ◌∙◌}
use native.Mathlib.Omega.{arith}
use Rattle.std.proofs.lemmas.List.{set-get_or}
use Rattle.state.specs.Lists.{no_held}
use Rattle.flush.proofs.Batching.{joins_by, taken_one, passed_one, taking_start, taking_read, taking_room, taking_held, taking_entries}
use Rattle.flush.proofs.take_batch.Goals as goal
use Rattle.flush.proofs.take_batch.Goals.{then-joins, else-joins}

pub loop-one-init : goal.loop-one-init
loop-one-init c = taking_start _ _ _ c.new-entries.ensures

pub push-requires : goal.push-requires
push-requires c = let k = c.loop-one.invariant in
    let h = c.loop-one-test.true in
    let j = rw c.len.ensures.value at (sym c.joins.ensures ∙ c.if-joins.true) in
    (omega arith, taking_room _ _ _ _ _ k h (ap (joins_by c.args.node _) (sym (taking_read _ _ _ _ _ k h)) ∙ j))

pub loop-one-preserved : goal.loop-one-preserved
loop-one-preserved c = let k = c.loop-one.invariant in
    let h = c.loop-one-test.true in
    let j = rw c.len.ensures.value at (sym c.joins.ensures) in
    elim c.if-joins.branch [
      | then-joins w ↦ taken_one _ _ _ _ _ k h _ _ _ (j ∙ w.if-joins.true) w.move_of-one.ensures w.held-is (ap (λ v. v.items) w.entries-is ∙ w.push.ensures.items)
      | else-joins w ↦ passed_one _ _ _ _ _ k h _ _ (j ∙ w.if-joins.false) (w.held-is ∙ set-get_or c.loop-one.held c.loop-one.one-index no_held) (ap (λ v. v.items) w.entries-is)
    ]

pub returns-clause-held : goal.returns-clause-held
returns-clause-held c = taking_held _ _ _ _ _ c.loop-one.invariant c.loop-one-test.false

pub returns-clause-entries : goal.returns-clause-entries
returns-clause-entries c = taking_entries _ _ _ _ _ c.loop-one.invariant c.loop-one-test.false
