-- The number that decimal digits spell, and the byte that two hex digits do.
use Rattle.std.specs.Prelude.{ℕ, ◌≡◌, ◌+◌, ◌*◌, ◌/◌, ◌%◌, ◌<◌, List, [], ◌∷◌, take, drop, length, slice_index, EachIndex}
use Rattle.std.specs.Char.{digit_value}

-- Behind digits that spell v.
abbrev pub spelled_from : ℕ → List ℕ → ℕ
spelled_from v [] = v
spelled_from v (d ∷ ds) = spelled_from (v * 10 + digit_value d) ds

abbrev pub spelled : List ℕ → ℕ
spelled ds = spelled_from 0 ds

-- There are some, and all are decimal digits.
abbrev pub IsNumber : List ℕ → Type 0
IsNumber ds = (0 < length ds) × EachIndex ds (λ k. digit_value (slice_index ds k) < 10)

abbrev pub byte_of : List ℕ → ℕ
byte_of ds = digit_value (slice_index ds 0) * 16 + digit_value (slice_index ds 1)

-- All are hex digits.
abbrev pub AreHex : List ℕ → Type 0
AreHex ds = EachIndex ds (λ k. digit_value (slice_index ds k) < 16)

-- They spell a byte.
abbrev pub IsPair : List ℕ → Type 0
IsPair ds = (length ds ≡ 2) × AreHex ds

-- The two digits of the byte at a place.
abbrev pub pair_at : List ℕ → ℕ → List ℕ
pair_at ds k = take 2 (drop (k * 2) ds)

-- They spell bytes, two each, and none is left.
abbrev pub ArePairs : List ℕ → Type 0
ArePairs ds = (length ds % 2 ≡ 0) × ((k : ℕ) → k < length ds / 2 → IsPair (pair_at ds k))
