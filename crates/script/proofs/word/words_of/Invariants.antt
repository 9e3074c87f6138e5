-- `script::word::words_of` meets its contract and ends: the words so far and those of what is left are the line's, and each has a byte.
use Rattle.std.proofs.Common.{length, map, drop, ◌≡◌, ◌++◌, ◌+◌, ◌-◌, ◌≤◌, ◌<◌, All}
use Rattle.std.specs.List.{slice_split}
use Rattle.script.specs.Spaces.{is_space}
use Rattle.script.proofs.word.words_of.Given as goal

abbrev pub invariant-loop-from : goal.invariant-loop-from
invariant-loop-from o l = record {
  within : l.from ≤ length l.line + 1;
  behind : l.from ≤ length l.line → map (λ word. word.now) l.words.items ++ slice_split is_space (drop l.from l.line) ≡ slice_split is_space l.line;
  ended : length l.line < l.from → map (λ word. word.now) l.words.items ≡ slice_split is_space l.line;
  not_empty : All (λ word. 0 < length word.now) l.words.items;
}

abbrev pub decreases-loop-from : goal.decreases-loop-from
decreases-loop-from o l = length l.line + 1 - l.from
