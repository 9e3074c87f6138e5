-- `walk::valid_fields` meets its contract. A field that is not valid contradicts `Valid`; where none is left, `Valid` holds.
use mathlib.Core.Path.{sym}
use native.Mathlib.Omega.{arith}
use borrow.Author.Rules.{rules}
use Rattle.walk.proofs.Rules.{valid_true, valid_false}
use Rattle.walk.proofs.valid_fields.Goals as goal

pub returns-then-entry-eq0 : goal.returns-then-entry-eq0
returns-then-entry-eq0 c = sym (valid_false _ (λ v. omega arith))

pub returns-then-entry-ge-NUMBERS : goal.returns-then-entry-ge-NUMBERS
returns-then-entry-ge-NUMBERS c = sym (valid_false _ (λ v. omega arith))

pub returns-then-entry-eq0-2 : goal.returns-then-entry-eq0-2
returns-then-entry-eq0-2 c = sym (valid_false _ (λ v. omega arith))

pub returns-then-entry-eq0-3 : goal.returns-then-entry-eq0-3
returns-then-entry-eq0-3 c = sym (valid_false _ (λ v. omega arith))

pub returns-then-entry-gt-LARGEST : goal.returns-then-entry-gt-LARGEST
returns-then-entry-gt-LARGEST c = sym (valid_false _ (λ v. omega arith))

pub returns-then-entry-ne0 : goal.returns-then-entry-ne0
returns-then-entry-ne0 c = sym (valid_false _ (λ v. omega arith))

pub returns-then-entry : goal.returns-then-entry
returns-then-entry c = sym (valid_false _ (λ v. omega arith))

pub returns : goal.returns
returns c = sym (valid_true _ (search rules))
