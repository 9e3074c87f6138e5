-- No two different outcomes meet a fill's promise. Document 01, "How firmly each answer is tied down".
use Prim.Native.Nat.{ℕ}
use Rattle.std.specs.Prelude.{Result}
use mathlib.Core.Path.{◌≡◌, sym, ◌∙◌, ap}
use mathlib.Core.List.{List, [], ◌∷◌}
use Rattle.reason.specs.declared.Reason.{Reason}
use Rattle.state.specs.declared.State.{State}
use Rattle.rules.specs.Call.{fill_read}
use Rattle.rules.specs.Outcome.{lent_by, outcome}
use Rattle.rules.proofs.Saying.{said_one, same_value}
use Rattle.fill.specs.Answers.{said_fill}

-- ---- what an answer says tells the answer

fill_one : (a b : Result ℕ Reason) → said_fill a ≡ said_fill b → a ≡ b
fill_one = said_one (λ r. r ∷ []) same_value

-- ---- the promise, of a fill of a buffer b on a ring r and a state s

module _ (pin node offset fetched : ℕ) (b r : List ℕ) (s : State) where
  abbrev pub MeetsFill : Result ℕ Reason → List ℕ → Type 0
  MeetsFill a b' = lent_by (said_fill a) s r b' ≡ outcome (fill_read pin node offset fetched b) r s

  pub fill_unique : (x y : Result ℕ Reason) (u v : List ℕ) → MeetsFill x u → MeetsFill y v → (x ≡ y) × (u ≡ v)
  fill_unique x y u v e f =
      let w = e ∙ sym f in
      (fill_one x y (ap (λ o. o.said) w), ap (λ o. o.buffer) w)
