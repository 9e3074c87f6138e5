-- A look at a part: where the bytes have such a part it is shown, and else the line is no command.
use Prim.Native.Nat.{ℕ, ◌≤◌, ◌<◌}
use mathlib.Core.Path.{◌≡◌, refl}
use mathlib.Core.Logic.{◌⊎◌, inl, inr}
use mathlib.Core.List.{List}
use lib.ListN.{length}
use lib.Dec.{leb}
use borrow.Author.Tests.{le-leb, lt-leb}
use Rattle.std.specs.Prelude.{Ok, Err}
use Rattle.state.proofs.Bools.{both_intro, no_both, both_no}
use Rattle.looks.specs.Looked.{part_answer}
use Rattle.looks.specs.declared.answer.Refusal.TheVariants.{NoCommand}

module _ (from to : ℕ) (bs : List ℕ) where
  pub part_found : (from ≤ to) × (to ≤ length bs) → Ok tt ≡ part_answer from to bs
  part_found e = rw (both_intro _ _ (le-leb from to e.0) (le-leb to (length bs) e.1)) refl

  pub part_missing : (to < from) ⊎ (length bs < to) → Err NoCommand ≡ part_answer from to bs
  part_missing (inl before) = rw (lt-leb from to before, no_both (leb to (length bs))) refl
  part_missing (inr past) = rw (lt-leb to (length bs) past, both_no (leb from to)) refl
