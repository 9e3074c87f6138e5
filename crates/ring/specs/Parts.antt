-- Parts of a call's steps: each shows nothing of itself until its last step is done. Document 02, Q-8.
use Rattle.std.specs.Prelude.{ℕ, ◌-◌, ◌<◌, Bool, true, false, List, [], ◌∷◌, ◌++◌, length, leb}
use Rattle.store.specs.Steps.{Step, run, cut}
use Rattle.ring.specs.Ring.{Alike}

-- a cut before the last step is done leaves a ring that differs in free slots only
pub record Hidden (r : List ℕ) (xs : List Step) : Type 0 where
  pub at : (k : ℕ) → k < length xs → (junk : List ℕ) → Alike r (cut r xs k junk)

-- each on the ring that those before it leave
abbrev pub AllHidden : List ℕ → List (List Step) → Type 0
AllHidden r [] = Unit {0}
AllHidden r (xs ∷ ps) = Hidden r xs × AllHidden (run r xs) ps

abbrev pub joined : List (List Step) → List Step
joined [] = []
joined (xs ∷ ps) = xs ++ joined ps

abbrev pub first : Bool → List Step → List (List Step) → List (List Step)
first true xs ps = xs ∷ ps
first false xs ps = []

-- the parts that are done whole after k steps
abbrev pub whole_of : List (List Step) → ℕ → List (List Step)
whole_of [] k = []
whole_of (xs ∷ ps) k = first (leb (length xs) k) xs (whole_of ps (k - length xs))
