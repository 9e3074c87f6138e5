-- The number after the last entry's, and the entries listed as they come back.
use Prim.Native.Nat.{ℕ, zero, suc, ◌+◌, ◌-◌, ◌<◌}
use mathlib.Core.Path.{◌≡◌, refl, sym, ◌∙◌, ap}
use mathlib.Core.List.{List, [], ◌∷◌, ◌++◌}
use native.Mathlib.Omega.{arith}
use lib.ListN.{length, take, get_or}
use Rattle.std.proofs.lemmas.List.{take_more, take_all}
use Rattle.layout.specs.Sizes.{number_limit}
use Rattle.walk.specs.declared.Entry.{Entry}
use Rattle.walk.specs.Walk.{Rising, last_of, no_entry}
use Rattle.walk.proofs.Rules.{valid_sound}
use Rattle.state.specs.Lists.{unflushed, listed_of, comes_back}
use Rattle.state.specs.Moves.{move_of, reopen}

last_snoc : (last : ℕ) (es : List Entry) (e : Entry) → last_of last (es ++ e ∷ []) ≡ e.number
last_snoc last [] e = refl
last_snoc last (x ∷ es) e = last_snoc x.number es e

rising_below : (last : ℕ) (es : List Entry) (i : ℕ) → Rising last es → i < length es → (get_or es i no_entry).number < number_limit
rising_below last [] i o h = absurd (omega arith)
rising_below last (e ∷ es) zero o h = (valid_sound e o.1).below
rising_below last (e ∷ es) (suc i) o h = rising_below e.number es i o.2 (omega arith)

-- the last of the entries
module _ (es : List Entry) (h : 0 < length es) where
  pub last_is : last_of 0 es ≡ (get_or es (length es - 1) no_entry).number
  last_is = sym (ap (last_of 0) front) ∙ last_snoc 0 (take (length es - 1) es) (get_or es (length es - 1) no_entry)
    where
      front : take (length es - 1) es ++ get_or es (length es - 1) no_entry ∷ [] ≡ es
      front =
          let k : length es - 1 + 1 ≡ length es = omega arith in
          sym (take_more es (length es - 1) no_entry (omega arith)) ∙ take_all (length es - 1 + 1) es (omega arith)

  pub last_below : Rising 0 es → (get_or es (length es - 1) no_entry).number < number_limit
  last_below o = rising_below 0 es (length es - 1) o (omega arith)

-- an entry as it comes back, listed
pub back_listed : (e : Entry) → listed_of (comes_back e) ≡ record { number = e.number; phase = move_of unflushed reopen }
unfolding move_of
back_listed e = refl
