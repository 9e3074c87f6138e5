-- Digits that are read spell more and more.
use Rattle.std.proofs.Common.{ℕ, ◌+◌, ◌*◌, ◌≤◌, ◌<◌, List, [], ◌∷◌, ◌≡◌, sym, ◌∙◌, length, drop, slice_index, arith}
use Rattle.std.specs.Char.{digit_value}
use Rattle.std.proofs.lemmas.List.{at_drop_more}
use Rattle.script.specs.Digits.{spelled, spelled_from}

no_less : (value digit : ℕ) (all : ℕ) → value * 10 + digit ≤ all → value ≤ all
no_less value digit all le = omega arith

grows : (value : ℕ) (digits : List ℕ) → value ≤ spelled_from value digits
grows value [] = omega arith
grows value (d ∷ ds) = no_less value (digit_value d) _ (grows (value * 10 + digit_value d) ds)

-- What is above a limit so far stays above it.
pub stays_above : (word : List ℕ) (place value most : ℕ) → place < length word → spelled_from value (drop place word) ≡ spelled word
    → most < value * 10 + digit_value (slice_index word place) → most < spelled word
stays_above word place value most small so_far above =
    let more : spelled_from value (drop place word) ≡ spelled_from (value * 10 + digit_value (slice_index word place)) (drop (place + 1) word)
    = at_drop_more (spelled_from value) word place 0 small in
    above_by _ _ _ above (grows _ (drop (place + 1) word)) (sym so_far ∙ more)
  where
    above_by : (next all : ℕ) (whole : ℕ) → most < next → next ≤ all → whole ≡ all → most < whole
    above_by next all whole lt le e = omega arith
