-- `script::bytes::bytes_of` gives nothing only for what spells nothing: by what stands where a run's x would (Spelling).
use Rattle.std.proofs.Common.{rules, arith, tests}
use borrow.Author.Tests.{ltb-true, ltb-false}
use Rattle.script.proofs.Spelling.{no_run, unspelled, short_no_run, long_no_dash, other_no_dash}
use Rattle.script.proofs.bytes.bytes_of.Goals as goal
use Rattle.script.proofs.bytes.bytes_of.Goals.{in_default-via-then-word-lt2+in_default-1, in_default-via-else-word-lt2+then-word-lt3, in_default-via-else-word-lt2+else-word-lt3+in_default-1}

pub returns-in_err-one-in-120-clause-none : goal.returns-in_err-one-in-120-clause-none
returns-in_err-one-in-120-clause-none c =
    rw c.from_residual.ensures (no_run c.args.word.now (omega arith) (search rules) (λ pair number fits. c.in_err-one-in-120.ensures pair))

pub returns-in_err-number-in-120-clause-none : goal.returns-in_err-number-in-120-clause-none
returns-in_err-number-in-120-clause-none c =
    rw c.from_residual-in_err-number-in-120.ensures (no_run c.args.word.now (omega arith) (search rules)
    (λ pair number fits. (c.in_err-number-in-120.ensures.none number fits).1 fits))

pub returns-in_default-clause-none : goal.returns-in_default-clause-none
returns-in_default-clause-none c =
    let word = c.args.word.now in
    let told = unspelled word _ _ _ c.then_some.ensures c.are_pairs.ensures in
    elim c.in_default.branch [
      | in_default-via-then-word-lt2+in_default-1 w ↦ told (short_no_run word (omega (arith, ltb-true, ltb-false))) (other_no_dash word (search (rules, tests)))
      | in_default-via-else-word-lt2+then-word-lt3 w ↦ told (short_no_run word (omega (arith, ltb-true, ltb-false))) (long_no_dash word (omega (arith, ltb-true, ltb-false)))
      | in_default-via-else-word-lt2+else-word-lt3+in_default-1 w ↦ told (search (rules, tests)) (long_no_dash word (omega (arith, ltb-true, ltb-false)))
    ]
