-- `walk::read` meets its contract. There is a header or none, and the reading goes by it.
use mathlib.Core.Path.{◌≡◌, sym, ap, ◌∙◌}
use Rattle.std.specs.Prelude.{None, Some}
use native.Mathlib.Omega.{arith}
use Rattle.std.proofs.lemmas.Result.{err_from_is_err_and}
use Rattle.reason.specs.declared.Reason.TheVariants.{Unreadable}
use Rattle.walk.specs.Walk.{answer_of, reading_by, reading_of}
use Rattle.walk.proofs.Rules.{header_use}
use Rattle.walk.proofs.read.Goals as goal

pub returns-in_err-ring : goal.returns-in_err-ring
unfolding reading_of
returns-in_err-ring c =
    let p = err_from_is_err_and c.from_residual.result c.from_residual.ensures.1 in
    let no : c.header_of.result ≡ None = grind arith in
    let why : c.in_err-ring.field-0.0 ≡ Unreadable = grind arith in
    rw (p.1, p.2, why) (sym (ap (λ h. answer_of (reading_by c.args.bytes.now h)) (sym c.header_of.ensures ∙ no)))

pub collect-requires : goal.collect-requires
collect-requires c =
    let some : c.header_of.result ≡ Some c.in_ok-ring.ring = grind arith in
    let w = header_use _ _ (sym c.header_of.ensures ∙ some) in
    record { sized = w.sized; head_lt_n = (w.head, w.used) }

pub returns : goal.returns
unfolding reading_of
returns c =
    let some : c.header_of.result ≡ Some c.in_ok-ring.ring = grind arith in
    c.collect.ensures ∙ sym (ap (λ h. answer_of (reading_by c.args.bytes.now h)) (sym c.header_of.ensures ∙ some))
