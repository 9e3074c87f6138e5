-- What a flush start's answer says on paper. Document 01, "Moves", paragraph "Flush".
use Rattle.std.specs.Prelude.{ℕ, List, [], ◌∷◌, Option, None, Some, Result}
use Rattle.reason.specs.declared.Reason.{Reason}
use Rattle.rules.specs.Outcome.{Said, said_by}
use Rattle.flush.specs.declared.Started.{Started}

-- flush number and sheet length; "nothing" has no value
abbrev pub values_of : Option Started → List ℕ
values_of (Some started) = started.number ∷ started.length ∷ []
values_of None = []

abbrev pub said_start : Result (Option Started) Reason → Said
said_start = said_by values_of
