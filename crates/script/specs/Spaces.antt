-- The byte at which a line is split into words.
use Rattle.std.specs.Prelude.{ℕ, Bool, ◌==◌}

abbrev pub is_space : ℕ → Bool
is_space byte = byte == 32
