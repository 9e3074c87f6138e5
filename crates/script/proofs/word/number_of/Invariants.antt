-- `script::word::number_of` meets its contract: the value so far keeps the limit, the digits left spell the word behind it, and those passed are digits.
use Rattle.std.proofs.Common.{ℕ, ◌≡◌, ◌<◌, ◌≤◌, drop, slice_index}
use Rattle.std.specs.Char.{digit_value}
use Rattle.script.specs.Digits.{spelled, spelled_from}
use Rattle.script.proofs.word.number_of.Given as goal

abbrev pub invariant-loop-byte : goal.invariant-loop-byte
invariant-loop-byte l = (l.value ≤ l.most) × (spelled_from l.value (drop l.byte-index l.word) ≡ spelled l.word)
    × ((k : ℕ) → k < l.byte-index → digit_value (slice_index l.word k) < 10)
