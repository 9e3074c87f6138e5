-- What the bytes that a word spells come to in a slice.
use Rattle.std.specs.Prelude.{ℕ, ◌≡◌, ◌^◌, ◌<◌, ◌≤◌, ◌/◌, ◌⊎◌, List, [], ◌∷◌, take, drop, length, replicate, slice_index, EachIndex}
use Rattle.script.specs.Digits.{byte_of, spelled, IsNumber, IsPair, ArePairs, pair_at}
use Rattle.script.specs.declared.bytes.Bytes.{Bytes}
use Rattle.script.specs.declared.bytes.Bytes.TheVariants.{Run, Digits}

-- How many they are.
abbrev pub count_of : Bytes → ℕ
count_of (Run byte count) = count
count_of (Digits digits) = length digits.now / 2

-- A pair lays the byte that it spells, or 0 where it spells none.
abbrev pub LaysPair : List ℕ → ℕ → Type 0
LaysPair pair byte = (IsPair pair → byte ≡ byte_of pair) × (¬ IsPair pair → byte ≡ 0)

-- A run fills the slice. Digits lay each pair at its place, and what stands behind the last pair stays.
abbrev pub Lays : Bytes → List ℕ → List ℕ → Type 0
Lays (Run byte count) old new = new ≡ replicate (length old) byte
Lays (Digits digits) old new = (length new ≡ length old) × EachIndex old (λ k.
    (k < length digits.now / 2 → LaysPair (pair_at digits.now k) (slice_index new k))
    × (length digits.now / 2 ≤ k → slice_index new k ≡ slice_index old k))

-- The bytes are those that a word spells: a run's byte and count, of which 120 is the x; no digits for `-`, which is 45; or else all its digits.
abbrev pub Spells : List ℕ → Bytes → Type 0
Spells word (Run byte count) = IsPair (take 2 word) × (slice_index word 2 ≡ 120) × (byte ≡ byte_of word) × IsNumber (drop 3 word) × (count ≡ spelled (drop 3 word)) × (count < 2 ^ 64)
Spells word (Digits digits) = ((word ≡ 45 ∷ []) × (digits.now ≡ [])) ⊎ ((0 < length word) × ArePairs word × (digits.now ≡ word))
