-- What a pair of digits lays, and a loop that stores it place by place.
use Rattle.std.proofs.Common.{ℕ, ◌+◌, ◌≤◌, ◌<◌, List, ◌≡◌, refl, ◌*◌, take, drop, length, set, slice_index, Option, Some, None, SomeIff, arith}
use Rattle.std.specs.Option.{unwrap_or}
use Rattle.std.proofs.lemmas.Grind.{common_steps}
use Rattle.script.specs.Digits.{byte_of, IsPair, pair_at}
use Rattle.script.specs.Laid.{LaysPair}

lays_pair : (read : Option ℕ) (pair : List ℕ) → SomeIff read (IsPair pair) (byte_of pair) → LaysPair pair (unwrap_or read 0)
lays_pair None pair none = (λ is. absurd (none is), λ _. refl)
lays_pair (Some byte) pair (is, value) = (λ _. value, λ not. absurd (not is))

-- The byte that is read of a pair, or 0.
pub lays_at : (digits : List ℕ) (place count byte : ℕ) (read : Option ℕ) → count ≡ 2
    → SomeIff read (IsPair (take count (drop (place * 2) digits))) (byte_of (take count (drop (place * 2) digits)))
    → byte ≡ unwrap_or read 0 → LaysPair (pair_at digits place) byte
lays_at digits place count byte read two is value = rw value (lays_pair read _ (rw two at is))

-- One place more has what it is to have, and those behind stay.
pub stored : (P : ℕ → ℕ → Type 0) (out initial : List ℕ) (place byte : ℕ) → place < length out → P place byte
    → ((k : ℕ) → k < length out → (k < place → P k (slice_index out k)) × (place ≤ k → slice_index out k ≡ slice_index initial k))
    → (k : ℕ) → k < length (set out place byte)
    → (k < place + 1 → P k (slice_index (set out place byte) k)) × (place + 1 ≤ k → slice_index (set out place byte) k ≡ slice_index initial k)
stored P out initial place byte small fact so_far k within = grind (arith, common_steps)
