-- `change::report_known` meets its contract: the laws of `Changing`.
-- Named on the function they close no goal: a tactic takes the fact `Known` apart, and doesn't see that a law wants it whole.
use mathlib.Core.Path.{◌≡◌}
use mathlib.Core.List.{map}
use borrow.Author.Rules.{rules}
use Rattle.layout.specs.Rack.{items}
use Rattle.state.specs.Moves.{good, bad, reported}
use mathlib.Core.Bool.{true, false}
use Rattle.state.proofs.Reports.{is_good, is_bad}
use Rattle.rules.proofs.Owning.{sure}
use Rattle.change.proofs.Changing.{report_none, report_other, moved_few, moved_fits, moved_slots, report_good, report_bad}
use Rattle.change.proofs.report_known.Goals as goal

pub returns-then-s-eq0 : goal.returns-then-s-eq0
returns-then-s-eq0 c = let a = c.args in
    report_none a.bytes.now a.s.now _ c.requires a.number a.good c.if-s-eq0.true

pub returns-then-number-s : goal.returns-then-number-s
returns-then-number-s c = let a = c.args in
    report_other a.bytes.now a.s.now _ c.requires a.number a.good c.if-number-s.true

pub let_go-requires : goal.let_go-requires
let_go-requires c = let a = c.args in
    let k = sure a.bytes.now a.s.now _ c.requires in
    let m : items c.change.new.self ≡ map (reported good) (items a.judged.held) = search rules in
    rw c.as_slice.ensures.value
    (record {
      sized = k.sized;
      head_lt_n = (k.head, moved_few a.bytes.now a.s.now _ c.requires _ is_good _ m, moved_fits a.bytes.now a.s.now _ c.requires _ is_good _ m);
      held_bound = moved_slots a.bytes.now a.s.now _ c.requires _ is_good _ m;
    })

pub relist-requires : goal.relist-requires
relist-requires c = let a = c.args in
    let m : items c.change-else-good.new.self ≡ map (reported bad) (items a.judged.held) = search rules in
    rw c.as_slice-else-good.ensures.value (moved_few a.bytes.now a.s.now _ c.requires _ is_bad _ m)

pub returns-then-good : goal.returns-then-good
returns-then-good c = let a = c.args in
    let g : a.good ≡ true = c.if-good.true in
    let m : items c.change.new.self ≡ map (reported good) (items a.judged.held) = search rules in
    let e = c.as_slice.ensures.value in
    rw g (report_good a.bytes.now a.s.now _ c.requires a.number c.if-s-eq0.false c.if-number-s.false _ _ _ m (rw e at c.let_go.ensures.state) (rw e at c.let_go.ensures.bytes))

pub returns-else-good : goal.returns-else-good
returns-else-good c = let a = c.args in
    let g : a.good ≡ false = c.if-good.false in
    let m : items c.change-else-good.new.self ≡ map (reported bad) (items a.judged.held) = search rules in
    rw g (report_bad a.bytes.now a.s.now _ c.requires a.number c.if-s-eq0.false c.if-number-s.false _ _ a.bytes.now m (rw c.as_slice-else-good.ensures.value at c.relist.ensures))
