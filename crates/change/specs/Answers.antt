-- What an answer says on paper: the refusal's number, or the values. Document 01, "When the box says no".
use Rattle.std.specs.Prelude.{ℕ, [], ◌∷◌, Result}
use Rattle.reason.specs.declared.Reason.{Reason}
use Rattle.rules.specs.Outcome.{Said, said_by}

-- write, pin, take a ticket, reopen: a number
abbrev pub said_number : Result ℕ Reason → Said
said_number = said_by (λ n. n ∷ [])

-- make, unpin, report: nothing but done
abbrev pub said_done : Result (Unit {0}) Reason → Said
said_done = said_by (λ done. [])
