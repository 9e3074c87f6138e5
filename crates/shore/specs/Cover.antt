-- Which write a byte is taken from. Document 01, "Moves": "Lay the batch in number order" ("Sheet"), "Each byte before r is that of the newest
-- ring entry that covers it" ("Fill").
use Rattle.std.specs.Prelude.{ℕ, ◌+◌, ◌-◌, Bool, List, [], ◌∷◌, length, get_or, leb, ltb, Option, None, Some}
use Rattle.layout.specs.Bytes.{both}
use Rattle.walk.specs.Walk.{Write}
use Rattle.state.specs.Lists.{pick}

-- so many bytes from an offset on reach over a place
unfoldable pub spans : ℕ → ℕ → ℕ → Bool
spans offset size p = both (leb offset p) (ltb p (offset + size))

abbrev pub covers : ℕ → Write → Bool
covers p w = spans w.offset (length w.bytes) p

-- the last of the list that passes
abbrev pub or_else : {A : Type 0} → Option A → Option A → Option A
or_else None y = y
or_else (Some x) y = Some x

abbrev pub last_that : {A : Type 0} → (A → Bool) → List A → Option A
last_that q [] = None
last_that q (x ∷ xs) = or_else (last_that q xs) (pick (q x) (Some x) None)

-- the newest write that covers a place: of those laid in number order, the last one lies on top
abbrev pub newest : ℕ → List Write → Option Write
newest p ws = last_that (covers p) ws

-- its byte there, or another where no write covers the place
abbrev pub byte_in : ℕ → ℕ → Option Write → ℕ
byte_in p other None = other
byte_in p other (Some w) = get_or w.bytes (p - w.offset) 0

unfoldable pub byte_over : ℕ → ℕ → List Write → ℕ
byte_over p other ws = byte_in p other (newest p ws)
