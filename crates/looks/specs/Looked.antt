-- Whether a look shows what it is at, or why it doesn't. What it shows stands in docs/SCRIPT.md; no definition says it.
use Rattle.std.specs.Prelude.{ℕ, leb, List, length, Result, Ok, Err}
use Rattle.reason.specs.declared.Reason.{Reason}
use Rattle.layout.specs.Bytes.{both}
use Rattle.walk.specs.Walk.{reading_of}
use Rattle.state.specs.declared.State.{State}
use Rattle.state.specs.Lists.{pick}
use Rattle.judge.specs.declared.Judged.{Judged}
use Rattle.judge.specs.Answers.{judged_of}
use Rattle.command.specs.declared.Store.{Store}
use Rattle.command.specs.declared.Store.TheVariants as store
use Rattle.command.specs.declared.Look.{Look}
use Rattle.command.specs.declared.Look.TheVariants as look
use Rattle.looks.specs.declared.answer.Refusal.{Refusal}
use Rattle.looks.specs.declared.answer.Refusal.TheVariants.{Refused, NoCommand}

-- a picture: of a ring and a state that the judge lets pass
abbrev pub shown_if : Result Judged Reason → Result (Unit {0}) Refusal
shown_if (Ok judged) = Ok tt
shown_if (Err why) = Err (Refused why)

abbrev pub show_answer : List ℕ → State → Result (Unit {0}) Refusal
show_answer r s = shown_if (judged_of (reading_of r) s)

-- the bytes that a look is at
abbrev pub bytes_in : Store → List ℕ → List ℕ → List ℕ
bytes_in store.Ring r b = r
bytes_in store.Buffer r b = b

-- a part: where it begins no later than it ends, and ends within the bytes
abbrev pub part_answer : ℕ → ℕ → List ℕ → Result (Unit {0}) Refusal
part_answer from to bs = pick (both (leb from to) (leb to (length bs))) (Ok tt) (Err NoCommand)

-- of the ring r, the lent buffer b and the state s
abbrev pub look_answer : Look → List ℕ → List ℕ → State → Result (Unit {0}) Refusal
look_answer (look.Part of from to) r b s = part_answer from to (bytes_in of r b)
look_answer (look.Sum of) r b s = Ok tt
look_answer look.State r b s = Ok tt
look_answer look.Show r b s = show_answer r s
