-- No two different outcomes meet the promise of a flush start. Document 01, "How firmly each answer is tied down".
use Rattle.std.specs.Prelude.{Option, None, Some, Result}
use Prim.Native.Nat.{ℕ}
use mathlib.Core.Path.{◌≡◌, refl, sym, ◌∙◌, ap}
use mathlib.Core.List.{List, [], ◌∷◌}
use Rattle.state.specs.declared.State.{State}
use Rattle.rules.specs.Call.{Call}
use Rattle.rules.specs.Outcome.{lent_by, outcome}
use Rattle.rules.proofs.Saying.{said_one, same_pair, some_none}
use Rattle.flush.specs.declared.Started.{Started}
use Rattle.reason.specs.declared.Reason.{Reason}
use Rattle.flush.specs.Answers.{values_of, said_start}

begun_one : (a b : Started) → (a.number ≡ b.number) × (a.length ≡ b.length) → a ≡ b
begun_one a b e = rw (← e.0, ← e.1) refl

values_one : (a b : Option Started) → values_of a ≡ values_of b → a ≡ b
values_one (Some a) (Some b) e = ap Some (begun_one a b (same_pair a.number b.number a.length b.length e))
values_one (Some a) None e = some_none a.number (a.length ∷ []) e
values_one None (Some b) e = some_none b.number (b.length ∷ []) (sym e)
values_one None None e = refl

-- what an answer says tells the answer
start_one : (a b : Result (Option Started) Reason) → said_start a ≡ said_start b → a ≡ b
start_one = said_one values_of values_one

-- the answer, the state and every byte of ring and buffer
module _ (c : Call) (r : List ℕ) (s : State) where
  abbrev pub MeetsStart : Result (Option Started) Reason → State → List ℕ → List ℕ → Type 0
  MeetsStart a t q b = lent_by (said_start a) t q b ≡ outcome c r s

  pub start_unique : (a a' : Result (Option Started) Reason) (t t' : State) (q q' b b' : List ℕ) → MeetsStart a t q b → MeetsStart a' t' q' b'
      → (a ≡ a') × (t ≡ t') × (q ≡ q') × (b ≡ b')
  start_unique a a' t t' q q' b b' e e' =
      let w = e ∙ sym e' in (start_one a a' (ap (λ x. x.said) w), ap (λ x. x.state) w, ap (λ x. x.ring) w, ap (λ x. x.buffer) w)
