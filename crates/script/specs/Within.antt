-- A number that was read keeps the limit that it was read with.
use Rattle.std.specs.Prelude.{ℕ, ◌≤◌, Option, Some, None}

abbrev pub Within : ℕ → Option ℕ → Type 0
Within most (Some v) = v ≤ most
Within most None = Unit {0}
