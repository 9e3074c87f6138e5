-- What an answer that leaves the state alone says on paper: the refusal's number, or the values. Document 01, "When the box says no".
use Rattle.std.specs.Prelude.{ℕ, Bool, [], ◌∷◌, Result}
use Rattle.reason.specs.declared.Reason.{Reason}
use Rattle.rules.specs.Outcome.{Said, said_by, bit}

-- cached end
abbrev pub said_end : Result ℕ Reason → Said
said_end = said_by (λ e. e ∷ [])

-- ask a ticket: 1 for done, 0 for not yet
abbrev pub said_ticket : Result Bool Reason → Said
said_ticket = said_by (λ done. bit done ∷ [])

-- whose turn: a node, or 0
abbrev pub said_turn : Result ℕ Reason → Said
said_turn = said_by (λ n. n ∷ [])
