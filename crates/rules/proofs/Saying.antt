-- What is said on paper tells one answer from another: refusals by their numbers, answers by their values.
use Rattle.std.specs.Prelude.{Option, None, Some, Result, Ok, Err}
use Prim.Native.Nat.{ℕ, ◌<◌}
use mathlib.Core.Path.{◌≡◌, refl, sym, ◌∙◌, ap}
use mathlib.Core.List.{List, [], ◌∷◌}
use native.Mathlib.Omega.{arith}
use lib.Dec.{eqb}
use Rattle.reason.specs.declared.Reason.{Reason}
use Rattle.reason.specs.declared.Reason.TheVariants.{NodeZero, BadLength, PastFileEnd, NoRoom, NoNumber, FlushUnderWay, NotTheFlush, Unreadable, NoSuchPin, TooManyPins, BadBuffer, StateUnfit}
use Rattle.reason.specs.Reason.{number_of}
use Rattle.layout.proofs.Tests.{never}
use Rattle.rules.specs.Refusals.{order, first}
use Rattle.rules.specs.Outcome.{says, refuses, said_by, may_of}
use Rattle.rules.proofs.Order.{same_some}

-- ---- a refusal's number tells its reason, and is never 0

numbered_back : (w : Reason) → first (λ v. eqb (number_of v) (number_of w)) order ≡ Some w
numbered_back NodeZero = refl
numbered_back BadLength = refl
numbered_back PastFileEnd = refl
numbered_back NoRoom = refl
numbered_back NoNumber = refl
numbered_back FlushUnderWay = refl
numbered_back NotTheFlush = refl
numbered_back Unreadable = refl
numbered_back NoSuchPin = refl
numbered_back TooManyPins = refl
numbered_back BadBuffer = refl
numbered_back StateUnfit = refl

pub refuses_one : (a b : Reason) → refuses a ≡ refuses b → a ≡ b
refuses_one a b e = same_some a b (sym (numbered_back a) ∙ ap (λ x. first (λ v. eqb (number_of v) x.refusal) order) e ∙ numbered_back b)

pub number_some : (w : Reason) → 0 < number_of w
number_some NodeZero = omega arith
number_some BadLength = omega arith
number_some PastFileEnd = omega arith
number_some NoRoom = omega arith
number_some NoNumber = omega arith
number_some FlushUnderWay = omega arith
number_some NotTheFlush = omega arith
number_some Unreadable = omega arith
number_some NoSuchPin = omega arith
number_some TooManyPins = omega arith
number_some BadBuffer = omega arith
number_some StateUnfit = omega arith

-- an answer is no refusal
pub apart {ℓ} : {A : Type ℓ} (vs : List ℕ) (w : Reason) → says vs ≡ refuses w → A
apart vs w e =
    let z : 0 ≡ number_of w = ap (λ x. x.refusal) e in
    let h = number_some w in
    absurd (omega arith)

-- ---- in code: leave or a refusal tells the paper's

pub may_none : (x : Option Reason) (t : Unit {0}) → Ok t ≡ may_of x → x ≡ None
may_none None t e = refl
may_none (Some why) t e = never (cc)

same_may : (a b : Reason) → ◌≡◌ {A = Result (Unit {0}) Reason} (Err a) (Err b) → a ≡ b
same_may a b e = cc

pub may_some : (x : Option Reason) (why : Reason) → Err why ≡ may_of x → x ≡ Some why
may_some None why e = never (cc)
may_some (Some w) why e = ap Some (same_may w why (sym e))

-- ---- an answer

-- where the values tell the answer, what it says tells it
pub said_one : {T : Type 0} (f : T → List ℕ) → ((x y : T) → f x ≡ f y → x ≡ y) → (a b : Result T Reason) → said_by f a ≡ said_by f b → a ≡ b
said_one f one (Ok x) (Ok y) e = ap Ok (one x y (ap (λ s. s.values) e))
said_one f one (Ok x) (Err w) e = apart (f x) w e
said_one f one (Err v) (Ok y) e = apart (f y) v (sym e)
said_one f one (Err v) (Err w) e = ap Err (refuses_one v w e)

-- ---- values that tell apart

abbrev front : List ℕ → ℕ
front [] = 0
front (v ∷ vs) = v

abbrev rest : List ℕ → List ℕ
rest [] = []
rest (v ∷ vs) = vs

pub same_value : (m n : ℕ) → m ∷ [] ≡ n ∷ [] → m ≡ n
same_value m n e = ap front e

pub same_pair : (m n k l : ℕ) → m ∷ k ∷ [] ≡ n ∷ l ∷ [] → (m ≡ n) × (k ≡ l)
same_pair m n k l e = (ap front e, ap (λ vs. front (rest vs)) e)

-- some values are none
pub some_none {ℓ} : {A : Type ℓ} (m : ℕ) (vs : List ℕ) → m ∷ vs ≡ [] → A
some_none m vs e = never (cc)
