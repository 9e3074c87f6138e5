-- Several entries stored one behind the other, as a call does that moves writes in from elsewhere: each is a part by itself. Document 02, Q-1 and Q-8.
use Rattle.std.specs.Prelude.{ℕ, ◌+◌, ◌-◌, Bool, true, false, List, [], ◌∷◌, ◌++◌, leb}
use Rattle.layout.specs.Sizes.{slots_of}
use Rattle.layout.specs.declared.Ring.{Ring}
use Rattle.walk.specs.declared.Entry.{Entry}
use Rattle.walk.specs.Walk.{Write, written}
use Rattle.store.specs.Steps.{Step}
use Rattle.store.specs.Storing.{store_steps}
use Rattle.ring.specs.Ring.{grown, Storable}

-- an entry with its bytes
pub record Coming : Type 0 where
  pub entry : Entry
  pub bytes : List ℕ

abbrev pub write_in : Coming → Write
write_in x = written x.entry x.bytes

-- each may be stored behind those before it
abbrev pub AllStorable : Ring → List Entry → List Coming → Type 0
AllStorable g es [] = Unit {0}
AllStorable g es (x ∷ xs) = Storable g es x.entry x.bytes × AllStorable (grown g x.entry) (es ++ x.entry ∷ []) xs

abbrev pub stores_of : ℕ → List Coming → List (List Step)
stores_of n [] = []
stores_of n (x ∷ xs) = store_steps n x.entry x.bytes ∷ stores_of n xs

abbrev pub first_in : Bool → Coming → List Coming → List Coming
first_in true x xs = x ∷ xs
first_in false x xs = []

-- those whose tail byte is stored after k steps
abbrev pub tails_done : List Coming → ℕ → List Coming
tails_done [] k = []
tails_done (x ∷ xs) k = first_in (leb (slots_of x.entry.length + 1) k) x (tails_done xs (k - (slots_of x.entry.length + 1)))
