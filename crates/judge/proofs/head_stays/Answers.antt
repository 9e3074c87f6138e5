-- `judge::head_stays` meets its contract: there is a head, or none.
use borrow.Author.Rules.{rules}
use Rattle.judge.proofs.Fitting.{head_some, head_none, head_fits}
use Rattle.judge.proofs.head_stays.Goals as goal

pub is_due-requires : goal.is_due-requires
is_due-requires c = head_fits c.args.held.now c.in-Some.head.now (search rules) c.requires

pub returns-in-Some : goal.returns-in-Some
returns-in-Some c = head_some _ c.args.held.now c.in-Some.head.now (search rules) _ c.is_due.ensures

pub returns-in-None : goal.returns-in-None
returns-in-None c = head_none _ c.args.held.now (search rules)
