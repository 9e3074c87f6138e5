-- Bytes of a ring: two ways to look at them, numbers in them, and storing them round the end.
-- Document 01, "The ring in battery memory": "its slots follow modulo N", "Numbers are little-endian".
--
-- A view is a function from places to bytes. What is read is said of any view, so that one law serves a buffer
-- and the slots of a ring. `round` is the only place where a remainder is taken on the way in, `put` on the way out.
use Rattle.std.specs.Prelude.{ℕ, zero, suc, ◌+◌, ◌*◌, ◌/◌, ◌%◌, ◌≤◌, ◌<◌, ◌≡◌, List, [], ◌∷◌, ◌++◌, Bool, true, false, length, get_or, set, eqb, leb}
use Rattle.layout.specs.Sizes.{header_size, fewest_slots, most_slots, span_of}

-- the bytes of a buffer, from its start
abbrev pub flat : List ℕ → ℕ → ℕ
flat r p = get_or r p 0

-- the bytes of n slots, from slot 0 and round the end
unfoldable pub round : List ℕ → ℕ → ℕ → ℕ
round r n p = get_or r (header_size + (p % span_of n)) 0

-- both tests hold
unfoldable pub both : Bool → Bool → Bool
both true b = b
both false b = false

-- "exactly 16 + 256·N bytes, N from 18 to 255": whether len is the length of a ring of n slots
unfoldable pub is_ring_length : ℕ → ℕ → Bool
is_ring_length n len = both (leb fewest_slots n) (both (leb n most_slots) (eqb len (header_size + span_of n)))

-- the same, as facts about a buffer
pub record Sized (r : List ℕ) (n : ℕ) : Type 0 where
  pub low : fewest_slots ≤ n
  pub high : n ≤ most_slots
  pub len : length r ≡ header_size + span_of n

-- ---- what is read at place p of a view

-- the number in 2, 4 and 8 bytes, little-endian
unfoldable pub number2 : (ℕ → ℕ) → ℕ → ℕ
number2 f p = f p + 256 * f (p + 1)

unfoldable pub number4 : (ℕ → ℕ) → ℕ → ℕ
number4 f p = number2 f p + 65536 * number2 f (p + 2)

unfoldable pub number8 : (ℕ → ℕ) → ℕ → ℕ
number8 f p = number4 f p + 4294967296 * number4 f (p + 4)

-- the c bytes
unfoldable pub bytes_at : (ℕ → ℕ) → ℕ → ℕ → List ℕ
bytes_at f p zero = []
bytes_at f p (suc c) = f p ∷ bytes_at f (suc p) c

-- the c bytes are zero
unfoldable pub zeros_at : (ℕ → ℕ) → ℕ → ℕ → Bool
zeros_at f p zero = true
zeros_at f p (suc c) = both (eqb (f p) 0) (zeros_at f (suc p) c)

-- the c bytes at p of f are the c bytes at q of g
pub record Same (f : ℕ → ℕ) (p : ℕ) (g : ℕ → ℕ) (q c : ℕ) : Type 0 where
  pub at : (i : ℕ) → i < c → f (p + i) ≡ g (q + i)

-- ---- what is stored

-- a number as 2, 4 and 8 bytes, little-endian
unfoldable pub bytes2 : ℕ → List ℕ
bytes2 x = x % 256 ∷ (x / 256) % 256 ∷ []

unfoldable pub bytes4 : ℕ → List ℕ
bytes4 x = bytes2 x ++ bytes2 (x / 65536)

unfoldable pub bytes8 : ℕ → List ℕ
bytes8 x = bytes4 x ++ bytes4 (x / 4294967296)

-- bs stored at place p of n slots and on, round the end
unfoldable pub put : List ℕ → ℕ → ℕ → List ℕ → List ℕ
put r n p [] = r
put r n p (b ∷ bs) = put (set r (header_size + (p % span_of n)) b) n (suc p) bs
