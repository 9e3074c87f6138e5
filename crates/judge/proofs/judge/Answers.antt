-- `judge::judge` meets its contract: the walk's answer is the reading (`read_entries`).
use Rattle.std.proofs.lemmas.Result.{err_from_is_err_and}
use mathlib.Core.Path.{sym, ◌∙◌, ap}
use Rattle.walk.specs.Walk.{reading_of}
use Rattle.judge.specs.Answers.{judged_of}
use Rattle.judge.proofs.Rules.{read_entries, read_refused}
use Rattle.judge.proofs.judge.Goals as goal

pub returns-in_err-walked : goal.returns-in_err-walked
returns-in_err-walked c =
    let p = err_from_is_err_and c.from_residual.result c.from_residual.ensures.1 in
    rw (p.1, p.2) (read_refused _ _ _ c.in_err-walked.ensures)

pub returns : goal.returns
returns c = c.judge_walked.ensures ∙ ap (λ x. judged_of x c.args.s.now) (sym (read_entries (reading_of c.args.bytes.now) c.in_ok-walked.walked c.in_ok-walked.ensures))
