-- `judge::follows` meets its contract: an Unflushed write may follow any.
use mathlib.Core.Path.{◌∙◌}
use borrow.Author.Tests.{eq-eqb}
use Rattle.state.proofs.Library.{all_list}
use Rattle.judge.proofs.Fitting.{all_follow}
use Rattle.judge.proofs.follows.Goals as goal

pub returns-then-later-eq-UNFLUSHED : goal.returns-then-later-eq-UNFLUSHED
returns-then-later-eq-UNFLUSHED c = rw (eq-eqb _ 0 c.if-later-eq-UNFLUSHED.true) (all_follow _ _ c.if-later-eq-UNFLUSHED.true)

pub returns-else-later-eq-UNFLUSHED : goal.returns-else-later-eq-UNFLUSHED
returns-else-later-eq-UNFLUSHED c = c.all_fit.ensures ∙ all_list _ _
