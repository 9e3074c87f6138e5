-- The larger and the lesser of two numbers are arithmetic's own.
use Prim.Native.Nat.{ℕ, max, min}
use mathlib.Core.Path.{◌≡◌, refl}
use mathlib.Core.Bool.{Bool, true, false}
use native.Mathlib.Omega.{arith}
use borrow.Author.Tests.{leb-true, leb-false}
use lib.Dec.{leb}
use Rattle.state.specs.Lists.{pick}
use Rattle.state.specs.Asks.{larger, lesser}

pub larger_max : (a b : ℕ) → larger a b ≡ max a b
larger_max a b = at (leb a b) refl
  where
    at : (t : Bool) → leb a b ≡ t → pick t b a ≡ max a b
    at true e = omega (arith, leb-true a b e)
    at false e = omega (arith, leb-false a b e)

pub lesser_min : (a b : ℕ) → lesser a b ≡ min a b
lesser_min a b = at (leb a b) refl
  where
    at : (t : Bool) → leb a b ≡ t → pick t a b ≡ min a b
    at true e = omega (arith, leb-true a b e)
    at false e = omega (arith, leb-false a b e)
