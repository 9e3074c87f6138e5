-- `script::word::number_of` gives nothing only for what is no number or above the limit: more digits make it no less (Numbers, `stays_above`).
use Rattle.std.proofs.Common.{arith}
use Rattle.script.proofs.Numbers.{stays_above}
use Rattle.script.proofs.word.number_of.Goals as goal

pub returns-then-most-next-clause-value : goal.returns-then-most-next-clause-value
returns-then-most-next-clause-value c =
    let l = c.loop-byte in
    λ number. omega (arith, number.1, stays_above c.args.word.now l.byte-index l.value c.args.most (omega arith) l.invariant.1 (grind arith))

pub returns-then-most-next-2-clause-value : goal.returns-then-most-next-2-clause-value
returns-then-most-next-2-clause-value c =
    let l = c.loop-byte in
    λ number. omega (arith, number.1, stays_above c.args.word.now l.byte-index l.value c.args.most (omega arith) l.invariant.1 (grind arith))
