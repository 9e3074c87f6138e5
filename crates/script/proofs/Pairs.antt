-- Digits are pairs if there is an even count of them and each is one.
use Rattle.std.proofs.Common.{ℕ, ◌+◌, ◌*◌, ◌/◌, ◌%◌, ◌<◌, List, ◌≤◌, ◌≡◌, ◌∙◌, sym, ap, refl, Bool, true, false, IsTrue, ◌↔◌, MatchBool, length, drop, slice_index, arith}
use Rattle.std.specs.Char.{digit_value}
use Rattle.std.specs.List.{HoldsAt, AllWithin}
use Rattle.std.proofs.lemmas.Bool.{false≢true}
use Rattle.std.proofs.lemmas.Grind.{common_steps}
use Rattle.std.proofs.lemmas.List.{get_or-take, get_or-drop}
use Rattle.script.specs.Digits.{pair_at, ArePairs, AreHex}

-- A pair's digits are the word's.
digit_at : (digits : List ℕ) (k i : ℕ) → i < 2 → slice_index (pair_at digits k) i ≡ slice_index digits (k * 2 + i)
digit_at digits k i small = get_or-take 2 (drop (k * 2) digits) i 0 small ∙ get_or-drop (k * 2) digits i 0

two_at : (digits : List ℕ) (k : ℕ) → k < length digits / 2 → length (pair_at digits k) ≡ 2
two_at digits k small = grind (arith, common_steps)

pub pairs_of : (digits : List ℕ) → length digits % 2 ≡ 0 → AreHex digits → ArePairs digits
pairs_of digits even hex = (
  even,
  λ k small. (
    two_at digits k small,
    λ i within.
        let two = two_at digits k small in
        rw (digit_at digits k i (omega arith)) (hex (k * 2 + i) (omega arith)),
  ),
)

pub hex_of : (digits : List ℕ) → ArePairs digits → AreHex digits
hex_of digits (even, pairs) i small =
    let k = i / 2 in
    let r = i % 2 in
    let pair = pairs k (omega arith) in
    let same : k * 2 + r ≡ i = omega arith in
    of_same _ _ (digit_at digits k r (omega arith) ∙ ap (λ (j : ℕ). slice_index digits j) same) (pair.1 r (omega (arith, pair.0)))
  where
    of_same : (x y : ℕ) → x ≡ y → digit_value x < 16 → digit_value y < 16
    of_same x y e h = rw (sym e) h

-- A test of each digit tells whether they are pairs.
pub pairs_told : (digits : List ℕ) (are : Bool) → length digits % 2 ≡ 0
    → MatchBool are (AllWithin (λ x. digit_value x < 16) digits 0 (length digits)) ((k : ℕ) × (k < length digits) × HoldsAt (λ x. 16 ≤ digit_value x) digits k)
    → IsTrue are ↔ ArePairs digits
pairs_told digits true even told = (λ _. pairs_of digits even (λ k small. told k 0 (omega arith) small), λ _. refl)
pairs_told digits false even (k, small, not) =
    (λ no. absurd (false≢true no), λ pairs. absurd (below (digit_value (slice_index digits k)) (hex_of digits pairs k small) (not 0)))
  where
    below : (x : ℕ) → x < 16 → 16 ≤ x → ⊥
    below x less more = omega arith
