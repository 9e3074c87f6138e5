-- The loops of this crate, each as a named invariant with what begins it, carries it on and ends it.
use Prim.Native.Nat.{ℕ, suc, ◌+◌, ◌-◌, ◌≤◌, ◌<◌}
use mathlib.Core.Path.{◌≡◌, refl, ap, ◌∙◌}
use mathlib.Core.Bool.{Bool, true, false}
use native.Mathlib.Omega.{arith}
use native.Mathlib.Nat.{add-zero, sub-zero}
use lib.Dec.{eqb}
use borrow.Author.Tests.{eq-eqb, ne_eqb}
use Rattle.layout.specs.Bytes.{both, zeros_at}

-- ---- a test of zeros: what was found of the bytes passed, and what is left

module _ (f : ℕ → ℕ) (p c : ℕ) where
  pub zeros_start : zeros_at f p c ≡ both true (zeros_at f (p + 0) (c - 0))
  unfolding both
  zeros_start = rw (add-zero, sub-zero)

  pub zeros_done : (clear : Bool) (i : ℕ) → c ≤ i → both clear (zeros_at f (p + i) (c - i)) ≡ clear
  unfolding both zeros_at
  zeros_done true i h = let e : c - i ≡ 0 = omega arith in rw e
  zeros_done false i h = refl

  module _ (clear : Bool) (i : ℕ) (h : i < c) where
    zeros_step : zeros_at f (p + i) (c - i) ≡ both (eqb (f (p + i)) 0) (zeros_at f (p + (i + 1)) (c - (i + 1)))
    unfolding zeros_at
    zeros_step =
        let e : c - i ≡ suc (c - (i + 1)) = omega arith in
        let q : suc (p + i) ≡ p + (i + 1) = omega arith in
        rw (e, q)

    pub zeros_next : f (p + i) ≡ 0 → both clear (zeros_at f (p + i) (c - i)) ≡ both clear (zeros_at f (p + (i + 1)) (c - (i + 1)))
    unfolding both
    zeros_next z = ap (both clear) (zeros_step ∙ rw (eq-eqb (f (p + i)) 0 z))

    pub zeros_hit : (f (p + i) ≡ 0 → ⊥) → both clear (zeros_at f (p + i) (c - i)) ≡ both false (zeros_at f (p + (i + 1)) (c - (i + 1)))
    unfolding both
    zeros_hit z = ap (both clear) (zeros_step ∙ rw (ne_eqb (f (p + i)) 0 z)) ∙ neither clear
      where
        neither : (b : Bool) → both b false ≡ false
        neither true = refl
        neither false = refl
