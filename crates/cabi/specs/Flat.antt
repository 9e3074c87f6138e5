-- An outcome as a host in C gets it: the refusal's number or 0, a value and a length, each 0 where there is none.
use Rattle.std.specs.Prelude.{ℕ, List, [], ◌∷◌}
use Rattle.rules.specs.Outcome.{Said, Outcome}
use Rattle.cabi.specs.declared.Answer.{Answer}
use Rattle.cabi.specs.declared.Changed.{Changed}

abbrev pub first_of : List ℕ → ℕ
first_of [] = 0
first_of (v ∷ vs) = v

abbrev pub second_of : List ℕ → ℕ
second_of [] = 0
second_of (v ∷ vs) = first_of vs

abbrev pub flat : Said → Answer
flat said = record { refusal = said.refusal; value = first_of said.values; length = second_of said.values }

-- with the state that the call gives back
abbrev pub changed_by : Outcome → Changed
changed_by o = record { state = o.state; answer = flat o.said }
