-- The table of moves, exactly as printed; 9 means the move can't happen. Document 01, "Moves".
use Rattle.std.specs.Prelude.{ℕ, List, [], ◌∷◌, get_or, eqb}
use Rattle.state.specs.declared.Held.{Held}
use Rattle.state.specs.declared.Event.{Event}
use Rattle.state.specs.declared.Event.TheVariants.{Taken, Good, Bad, LetGo, Reopen}
use Rattle.state.specs.Lists.{pick, in_flight}

-- the table's columns
abbrev pub taken : ℕ
taken = 0

abbrev pub good : ℕ
good = 1

abbrev pub bad : ℕ
bad = 2

abbrev pub let_go : ℕ
let_go = 3

abbrev pub reopen : ℕ
reopen = 4

-- an event's column
abbrev pub column : Event → ℕ
column Taken = taken
column Good = good
column Bad = bad
column LetGo = let_go
column Reopen = reopen

abbrev pub moves : List (List ℕ)
moves =
    (1 ∷ 9 ∷ 9 ∷ 9 ∷ 0 ∷ [])
    ∷ (9 ∷ 2 ∷ 0 ∷ 9 ∷ 0 ∷ [])
    ∷ (9 ∷ 9 ∷ 9 ∷ 3 ∷ 0 ∷ [])
    ∷ (9 ∷ 9 ∷ 9 ∷ 9 ∷ 9 ∷ [])
    ∷ []

unfoldable pub move_of : ℕ → ℕ → ℕ
move_of from event = get_or (get_or moves from []) event 0

-- a write moved by an event
abbrev pub moved_by : ℕ → Held → Held
moved_by event h = record { entry = h.entry; phase = move_of h.phase event }

-- a report moves the batch, which is what is In flight, and no other write
unfoldable pub reported : ℕ → Held → Held
reported event h = pick (eqb h.phase in_flight) (moved_by event h) h
