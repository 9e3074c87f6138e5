-- What the search for a pin's number tells of the whole table.
use Prim.Native.Nat.{ℕ, ◌<◌}
use mathlib.Core.Path.{◌≡◌}
use mathlib.Core.Bool.{true, false}
use mathlib.Core.List.{List}
use native.Mathlib.Omega.{arith}
use lib.ListN.{length}
use lib.Dec.{eqb}
use Rattle.state.specs.declared.Pin.{Pin}
use Rattle.state.specs.Pins.{pin_place, has_pin}
use Rattle.state.proofs.Loops.{any_found, any_none}

module _ (ps : List Pin) (number : ℕ) where
  pub place_none : pin_place number ps ≡ length ps → has_pin number ps ≡ false
  place_none e = any_none (λ p. eqb p.number number) ps (omega arith)

  pub place_some : (i : ℕ) → i ≡ pin_place number ps → i < length ps → has_pin number ps ≡ true
  place_some i e h = any_found (λ p. eqb p.number number) ps (omega arith)
