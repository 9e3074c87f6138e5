-- `store::make` meets its contract. A length that is not a ring's contradicts `Sized`; where none is left, the header goes to the front.
use Prim.Native.Nat.{ℕ}
use mathlib.Core.Path.{sym, ap, ◌∙◌}
use lib.Seq.{length-take-le}
use mathlib.Core.List.{List, ◌++◌}
use native.Mathlib.Omega.{arith}
use lib.ListN.{length, drop}
use Rattle.layout.specs.Bytes.{Sized}
use Rattle.store.specs.Store.{slots_for}
use Rattle.store.proofs.Fronts.{made_no, made_yes}
use Rattle.store.proofs.make.Goals as goal

pub returns-then-bytes-lt-HEADER : goal.returns-then-bytes-lt-HEADER
returns-then-bytes-lt-HEADER c = let w = (made_no _ (λ z. omega (arith, z.low, z.len))) in record { answer = w.0; bytes = w.1 }

pub returns-then-n-lt-FEWEST : goal.returns-then-n-lt-FEWEST
returns-then-n-lt-FEWEST c = let w = (made_no _ (λ z. omega (arith, z.low))) in record { answer = w.0; bytes = w.1 }

pub returns-then-n-gt-MOST : goal.returns-then-n-gt-MOST
returns-then-n-gt-MOST c = let w = (made_no _ (λ z. omega (arith, z.high))) in record { answer = w.0; bytes = w.1 }

pub returns-then-bytes-n : goal.returns-then-bytes-n
returns-then-bytes-n c = let w = (made_no _ (λ z. omega (arith, z.len))) in record { answer = w.0; bytes = w.1 }

pub copy_from_slice-requires : goal.copy_from_slice-requires
copy_from_slice-requires c = length-take-le 16 c.args.bytes.now (omega arith) ∙ sym (ap length c.empty_header.ensures)

pub returns : goal.returns
returns c = let r = c.args.bytes.now in
    let z : Sized r (slots_for (length r)) = record { low = omega arith; high = omega arith; len = omega arith } in
    let w = made_yes r z in
    record { answer = w.0; bytes = ap (λ (h : List ℕ). h ++ drop 16 r) (c.copy_from_slice.ensures.after ∙ c.empty_header.ensures) ∙ w.1 }
