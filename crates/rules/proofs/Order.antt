-- A reason is given exactly when its row applies and no earlier one does. Document 01, "When the box says no".
use Rattle.std.specs.Prelude.{Option, Some}
use Prim.Native.Nat.{ℕ}
use mathlib.Core.Path.{◌≡◌, refl, ◌∙◌, ap}
use mathlib.Core.Bool.{Bool, true, false}
use mathlib.Core.List.{List, [], ◌∷◌, ◌++◌, map}
use Rattle.layout.proofs.Tests.{never}
use Rattle.reason.specs.declared.Reason.{Reason}
use Rattle.reason.specs.Reason.{number_of}
use Rattle.state.specs.declared.State.{State}
use Rattle.state.specs.Lists.{any}
use Rattle.rules.specs.Call.{Call}
use Rattle.rules.specs.Refusals.{applies, order, first, refusal_of}

-- the order, in the paper's numbers
pub order_printed : map number_of order ≡ 8 ∷ 12 ∷ 1 ∷ 2 ∷ 3 ∷ 6 ∷ 7 ∷ 9 ∷ 10 ∷ 5 ∷ 4 ∷ 11 ∷ []
order_printed = refl

-- a place in a list where a reason stands behind earlier ones, of which none applies
pub record First (p : Reason → Bool) (whys : List Reason) (why : Reason) : Type 0 where
  pub earlier : List Reason
  pub later : List Reason
  pub stands : whys ≡ earlier ++ why ∷ later
  pub applies : p why ≡ true
  pub none_before : any p earlier ≡ false

pub same_some : {A : Type 0} (a b : A) → ◌≡◌ {A = Option A} (Some a) (Some b) → a ≡ b
same_some a b e = cc

module _ (p : Reason → Bool) where
  given_by : (x : Reason) (xs : List Reason) (why : Reason) (b : Bool) → p x ≡ b → (first p xs ≡ Some why → First p xs why)
      → first p (x ∷ xs) ≡ Some why → First p (x ∷ xs) why
  given_by x xs why true e k o =
      let z : x ≡ why = same_some x why (rw e at o) in
      rw (← z) (record { earlier = []; later = xs; stands = refl; applies = e; none_before = refl })
  given_by x xs why false e k o =
      let f = k (rw e at o) in
      record { earlier = x ∷ f.earlier; later = f.later; stands = ap (◌∷◌ x) f.stands; applies = f.applies; none_before = rw e f.none_before }

  pub first_given : (whys : List Reason) (why : Reason) → first p whys ≡ Some why → First p whys why
  first_given [] why o = never (cc)
  first_given (x ∷ xs) why o = given_by x xs why (p x) refl (first_given xs why) o

  gives_by : (x : Reason) (xs later : List Reason) (why : Reason) (b : Bool) → p x ≡ b → any p (x ∷ xs) ≡ false
      → (any p xs ≡ false → first p (xs ++ why ∷ later) ≡ Some why) → first p ((x ∷ xs) ++ why ∷ later) ≡ Some why
  gives_by x xs later why true e o k = never (let w : true ≡ false = (rw e at o) in cc)
  gives_by x xs later why false e o k = rw e (k (rw e at o))

  first_gives : (earlier later : List Reason) (why : Reason) → p why ≡ true → any p earlier ≡ false → first p (earlier ++ why ∷ later) ≡ Some why
  first_gives [] later why e o = rw e
  first_gives (x ∷ xs) later why e o = gives_by x xs later why (p x) refl o (first_gives xs later why e)

module _ (c : Call) (r : List ℕ) (s : State) (why : Reason) where
  -- given only then
  pub refused_when : refusal_of c r s ≡ Some why → First (applies c r s) order why
  unfolding refusal_of
  refused_when e = first_given (applies c r s) order why e

  -- and always then
  pub refused_then : First (applies c r s) order why → refusal_of c r s ≡ Some why
  unfolding refusal_of
  refused_then f = ap (first (applies c r s)) f.stands ∙ first_gives (applies c r s) f.earlier f.later why f.applies f.none_before
