-- What a fill's answer says on paper. Document 01, "Moves", paragraph "Fill", and "When the box says no".
use Rattle.std.specs.Prelude.{ℕ, [], ◌∷◌, Result}
use Rattle.reason.specs.declared.Reason.{Reason}
use Rattle.rules.specs.Outcome.{Said, said_by}

abbrev pub said_fill : Result ℕ Reason → Said
said_fill = said_by (λ r. r ∷ [])
