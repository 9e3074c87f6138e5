-- `walk::header_of` meets its contract. A byte that is not the header's contradicts `IsHeader`; where none is left, `IsHeader` holds.
use mathlib.Core.Path.{sym, ◌∙◌}
use native.Mathlib.Omega.{arith}
use Rattle.layout.proofs.Tests.{true_not_false}
use Rattle.walk.proofs.Rules.{IsHeader, header_bad, header_good}
use Rattle.walk.proofs.header_of.Goals as goal

pub returns-then-bytes-lt-HEADER : goal.returns-then-bytes-lt-HEADER
returns-then-bytes-lt-HEADER c = sym (header_bad _ (λ h. omega (arith, h.sized.len, h.sized.low)))

pub returns-then-n-lt-FEWEST : goal.returns-then-n-lt-FEWEST
returns-then-n-lt-FEWEST c = sym (header_bad _ (λ h. omega (arith, h.sized.low)))

pub returns-then-bytes-n : goal.returns-then-bytes-n
returns-then-bytes-n c = sym (header_bad _ (λ h. omega (arith, h.sized.len)))

pub returns-then-bytes-ne-EDITION : goal.returns-then-bytes-ne-EDITION
returns-then-bytes-ne-EDITION c = sym (header_bad _ (λ h. omega (arith, h.edition)))

pub returns-then-n-head : goal.returns-then-n-head
returns-then-n-head c = sym (header_bad _ (λ h. omega (arith, h.head)))

pub returns-then-n-tail : goal.returns-then-n-tail
returns-then-n-tail c = sym (header_bad _ (λ h. omega (arith, h.tail)))

pub returns-then-not-zeros_at : goal.returns-then-not-zeros_at
returns-then-not-zeros_at c = sym (header_bad _ (λ h. true_not_false _ h.zeros (sym c.zeros_at.ensures ∙ c.if-not-zeros_at.true)))

pub returns : goal.returns
returns c = let r = c.args.bytes.now in
    let z : IsHeader r = record {
      sized = record { low = omega arith; high = omega arith; len = omega arith };
      edition = omega arith;
      head = omega arith;
      tail = omega arith;
      zeros = sym c.zeros_at.ensures ∙ c.if-not-zeros_at.false;
    } in
    sym (header_good r z ∙ rw (c.from-n.ensures, c.from-head.ensures, c.from-tail.ensures))
