-- Tests joined by `both`, taken apart and put together.
use mathlib.Core.Path.{◌≡◌, refl, ◌∙◌, ap}
use mathlib.Core.Bool.{Bool, true, false, not}
use Rattle.layout.specs.Bytes.{both}
use Rattle.layout.proofs.Tests.{never}

pub both_intro : (a b : Bool) → a ≡ true → b ≡ true → both a b ≡ true
unfolding both
both_intro a b p q = rw (p, q)

-- one test known
pub yes_both : (b : Bool) → both true b ≡ b
unfolding both
yes_both b = refl

pub no_both : (b : Bool) → both false b ≡ false
unfolding both
no_both b = refl

pub both_yes : (b : Bool) → both b true ≡ b
unfolding both
both_yes true = refl
both_yes false = refl

pub both_no : (b : Bool) → both b false ≡ false
unfolding both
both_no true = refl
both_no false = refl

pub both_known : (a b : Bool) → a ≡ true → both a b ≡ b
both_known a b e = ap (λ x. both x b) e ∙ yes_both b

-- one that fails beside one that holds
pub both_fails : (a b : Bool) → both a b ≡ false → a ≡ true → b ≡ false
unfolding both
both_fails true b e k = e
both_fails false b e k = never (cc)

-- the order doesn't matter
pub both_swap : (a b c : Bool) → both a (both b c) ≡ both b (both a c)
unfolding both
both_swap true b c = refl
both_swap false true c = refl
both_swap false false c = refl

pub both_assoc : (a b c : Bool) → both a (both b c) ≡ both (both a b) c
unfolding both
both_assoc true b c = refl
both_assoc false b c = refl

pub both_cross : (a b c d : Bool) → both (both a b) (both c d) ≡ both (both a c) (both b d)
unfolding both
both_cross true true c d = refl
both_cross true false true d = refl
both_cross true false false d = refl
both_cross false b c d = refl

pub not_fails : (b : Bool) → not b ≡ false → b ≡ true
not_fails true e = refl
not_fails false e = never (cc)
