-- A line that is taken piece by piece; None is one that is longer than its room.
use Rattle.std.specs.Prelude.{ℕ, ◌+◌, List, ◌++◌, length, Option, Some, None, nat_le, cond}

-- The line with a piece more.
abbrev pub with_part : ℕ → Option (List ℕ) → List ℕ → Option (List ℕ)
with_part room None part = None
with_part room (Some text) part = cond (nat_le (length text + length part) room) (Some (text ++ part)) None
