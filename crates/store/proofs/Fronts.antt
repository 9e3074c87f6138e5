-- Laws of making: when a buffer can be made a ring.
use Prim.Native.Nat.{ℕ}
use mathlib.Core.Path.{◌≡◌}
use mathlib.Core.List.{List, ◌++◌}
use lib.ListN.{length, drop}
use Rattle.reason.specs.declared.Reason.TheVariants.{BadBuffer}
use Rattle.layout.specs.Sizes.{header_size}
use Rattle.layout.specs.Bytes.{Sized}
use Rattle.layout.proofs.Tests.{not_true_false, sized_true, sized_sound}
use Rattle.std.specs.Prelude.{Ok, Err}
use Rattle.store.specs.Store.{slots_for, is_makeable, empty_header, made, made_answer}

-- ---- a buffer of a valid length is made a ring, and no other

module _ (r : List ℕ) where
  pub made_no : (Sized r (slots_for (length r)) → ⊥) → (Err BadBuffer ≡ made_answer r) × (r ≡ made r)
  unfolding made_answer made
  made_no k =
      let e = not_true_false (is_makeable (length r)) (λ t. k (sized_sound r (slots_for (length r)) t)) in
      (rw e, rw e)

  pub made_yes : Sized r (slots_for (length r))
      → (Ok tt ≡ made_answer r) × (empty_header (slots_for (length r)) ++ drop header_size r ≡ made r)
  unfolding made_answer made
  made_yes z = let e = sized_true r (slots_for (length r)) z in (rw e, rw e)
