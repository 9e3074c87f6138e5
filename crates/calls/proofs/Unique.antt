-- No two different outcomes meet a call's promise. Document 01, "How firmly each answer is tied down".
use Rattle.std.specs.Prelude.{Result}
use mathlib.Core.Bool.{Bool, true, false}
use Prim.Native.Nat.{ℕ}
use mathlib.Core.Path.{◌≡◌, refl, sym, ◌∙◌, ap}
use mathlib.Core.List.{List, [], ◌∷◌}
use native.Mathlib.Omega.{arith}
use Rattle.state.specs.declared.State.{State}
use Rattle.rules.specs.Call.{Call}
use Rattle.rules.specs.Outcome.{outcome_by, bit, outcome}
use Rattle.rules.proofs.Saying.{said_one, same_value}
use Rattle.reason.specs.declared.Reason.{Reason}
use Rattle.change.specs.Answers.{said_number, said_done}
use Rattle.calls.specs.Answers.{said_end, said_ticket, said_turn}

-- ---- what an answer says tells the answer

number_one : (a b : Result ℕ Reason) → said_number a ≡ said_number b → a ≡ b
number_one = said_one (λ n. n ∷ []) same_value

done_one : (a b : Result Unit Reason) → said_done a ≡ said_done b → a ≡ b
done_one = said_one (λ done. []) (λ x y e. refl)

bit_one : (a b : Bool) → bit a ≡ bit b → a ≡ b
bit_one true true e = refl
bit_one true false e = absurd (omega arith)
bit_one false true e = absurd (omega arith)
bit_one false false e = refl

ticket_one : (a b : Result Bool Reason) → said_ticket a ≡ said_ticket b → a ≡ b
ticket_one = said_one (λ done. bit done ∷ []) (λ a b e. bit_one a b (same_value (bit a) (bit b) e))

-- ---- the promises, each of a call c on a ring r and a state s

module _ (c : Call) (r : List ℕ) (s : State) where
  -- an answer with a number, a state and a ring
  abbrev pub MeetsNumber : Result ℕ Reason → State → List ℕ → Type 0
  MeetsNumber a t r' = outcome_by (said_number a) t r' ≡ outcome c r s

  abbrev pub MeetsDone : Result Unit Reason → State → List ℕ → Type 0
  MeetsDone a t r' = outcome_by (said_done a) t r' ≡ outcome c r s

  -- an answer alone: state and ring stay
  abbrev pub MeetsEnd : Result ℕ Reason → Type 0
  MeetsEnd a = outcome_by (said_end a) s r ≡ outcome c r s

  abbrev pub MeetsTicket : Result Bool Reason → Type 0
  MeetsTicket a = outcome_by (said_ticket a) s r ≡ outcome c r s

  abbrev pub MeetsTurn : Result ℕ Reason → Type 0
  MeetsTurn a = outcome_by (said_turn a) s r ≡ outcome c r s

  pub number_unique : (a a' : Result ℕ Reason) (t t' : State) (q q' : List ℕ) → MeetsNumber a t q → MeetsNumber a' t' q' → (a ≡ a') × (t ≡ t') × (q ≡ q')
  number_unique a a' t t' q q' e e' =
      let w = e ∙ sym e' in (number_one a a' (ap (λ x. x.said) w), ap (λ x. x.state) w, ap (λ x. x.ring) w)

  pub done_unique : (a a' : Result Unit Reason) (t t' : State) (q q' : List ℕ) → MeetsDone a t q → MeetsDone a' t' q' → (a ≡ a') × (t ≡ t') × (q ≡ q')
  done_unique a a' t t' q q' e e' =
      let w = e ∙ sym e' in (done_one a a' (ap (λ x. x.said) w), ap (λ x. x.state) w, ap (λ x. x.ring) w)

  pub end_unique : (a b : Result ℕ Reason) → MeetsEnd a → MeetsEnd b → a ≡ b
  end_unique a b e e' = number_one a b (ap (λ x. x.said) (e ∙ sym e'))

  pub ticket_unique : (a b : Result Bool Reason) → MeetsTicket a → MeetsTicket b → a ≡ b
  ticket_unique a b e e' = ticket_one a b (ap (λ x. x.said) (e ∙ sym e'))

  pub turn_unique : (a b : Result ℕ Reason) → MeetsTurn a → MeetsTurn b → a ≡ b
  turn_unique a b e e' = number_one a b (ap (λ x. x.said) (e ∙ sym e'))
