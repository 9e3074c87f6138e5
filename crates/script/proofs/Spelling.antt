-- When a word spells no bytes.
use Rattle.std.proofs.Common.{ℕ, ◌^◌, ◌≤◌, ◌<◌, List, [], ◌∷◌, ◌≡◌, ◌≢◌, inl, inr, refl, ap, ◌-◌, IsTrue, ◌↔◌, IfNone, Bool, true, false, Option, length, take, drop, slice_index, arith}
use Rattle.std.specs.Bool.{then_some}
use Rattle.std.specs.Char.{digit_value}
use Rattle.std.proofs.lemmas.Bool.{false≢true}
use Rattle.std.proofs.lemmas.Grind.{common_steps}
use Rattle.script.specs.Digits.{spelled, IsNumber, IsPair, ArePairs}
use Rattle.script.specs.Laid.{Spells}
use Rattle.script.specs.declared.bytes.Bytes.{Bytes}
use Rattle.script.specs.declared.bytes.Bytes.TheVariants.{Run, Digits}
use Rattle.script.proofs.Pairs.{hex_of}

no_hex : (digit : ℕ) → digit ≡ 120 → digit_value digit < 16 → ⊥
no_hex digit e hex = let big : 33 < 16 = rw e at hex in absurd (omega arith)

longer : (word : List ℕ) → 2 < length word → word ≡ 45 ∷ [] → ⊥
longer word long e = omega (arith, ap length e)

first_two : (word : List ℕ) → 2 ≤ length word → take 2 word ≡ slice_index word 0 ∷ slice_index word 1 ∷ []
first_two (a ∷ b ∷ rest) long = refl
first_two (a ∷ []) long = absurd (omega arith)
first_two [] long = absurd (omega arith)

rest_is : (word : List ℕ) → take (length word - 3) (drop 3 word) ≡ drop 3 word
rest_is word = grind (arith, common_steps)

-- One whose third byte is the x of a run, if what stands before or behind that is none.
pub no_run : (word : List ℕ) → 2 < length word → slice_index word 2 ≡ 120
    → (IsPair (slice_index word 0 ∷ slice_index word 1 ∷ []) → IsNumber (take (length word - 3) (drop 3 word)) → spelled (take (length word - 3) (drop 3 word)) < 2 ^ 64 → ⊥)
    → (bytes : Bytes) → ¬ Spells word bytes
no_run word long x none (Run byte count) (pair, _, _, number, value, fits) =
    none (rw (first_two word (omega arith)) at pair) (rw (rest_is word) number) (rw (rest_is word) (rw value at fits))
no_run word long x none (Digits digits) (inl (dash, _)) = longer word long dash
no_run word long x none (Digits digits) (inr (_, pairs, _)) = no_hex _ x (hex_of word pairs 2 long)

-- One of other_no_dash form, if it isn't pairs of digits.
pub no_digits : (word : List ℕ) → slice_index word 2 ≢ 120 → word ≢ 45 ∷ [] → ¬ ArePairs word → (bytes : Bytes) → ¬ Spells word bytes
no_digits word other some none (Run byte count) (_, x, _, _, _, _) = other x
no_digits word other some none (Digits digits) (inl (dash, _)) = some dash
no_digits word other some none (Digits digits) (inr (_, pairs, _)) = none pairs

-- What is given where they are pairs, and else nothing.
pub unspelled : (word : List ℕ) (digits : Bytes) (are : Bool) (given : Option Bytes) → given ≡ then_some are digits → (IsTrue are ↔ ArePairs word)
    → slice_index word 2 ≢ 120 → word ≢ 45 ∷ [] → IfNone given ((bytes : Bytes) → ¬ Spells word bytes)
unspelled word digits true given e told other some = rw e tt
unspelled word digits false given e told other some = rw e (no_digits word other some (λ pairs. false≢true (told.1 pairs)))

pub short_no_run : (word : List ℕ) → length word < 3 → slice_index word 2 ≢ 120
short_no_run word small e = absurd (zero_not (slice_index word 2) (grind (arith, common_steps)) e)
  where
    zero_not : (n : ℕ) → n ≡ 0 → n ≡ 120 → ⊥
    zero_not n zero e = omega arith

pub long_no_dash : (word : List ℕ) → 1 < length word → word ≢ 45 ∷ []
long_no_dash word large e = absurd (omega (arith, ap length e))

pub other_no_dash : (word : List ℕ) → slice_index word 0 ≢ 45 → word ≢ 45 ∷ []
other_no_dash word other e = other (ap (λ (word : List ℕ). slice_index word 0) e)
