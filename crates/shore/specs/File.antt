-- Files on shore, and what is laid on them. Document 01, "What the box's cache does": "The rule that a write past the end of a file fills
-- the gap with zeros is POSIX, lseek() and write()."
--
-- A file is its bytes. Everything that is laid on it (a write, a sheet, bytes that land one at a time) is a list of puts of one byte each.
use Rattle.std.specs.Prelude.{ℕ, zero, suc, List, [], ◌∷◌, ◌++◌}
use Rattle.walk.specs.Walk.{Write}

pub record Put : Type 0 where
  pub place : ℕ
  pub byte : ℕ

-- a byte at a place; past the end, the gap is filled with zeros
unfoldable pub put : List ℕ → ℕ → ℕ → List ℕ
put [] zero b = b ∷ []
put [] (suc p) b = 0 ∷ put [] p b
put (x ∷ f) zero b = b ∷ f
put (x ∷ f) (suc p) b = x ∷ put f p b

-- puts laid on a file in order
unfoldable pub lay : List ℕ → List Put → List ℕ
lay f [] = f
lay f (q ∷ qs) = lay (put f q.place q.byte) qs

-- the puts of bytes from a place on
unfoldable pub puts : ℕ → List ℕ → List Put
puts p [] = []
puts p (b ∷ bs) = record { place = p; byte = b } ∷ puts (suc p) bs

-- the puts of a write, and of writes in order
abbrev pub puts_of : Write → List Put
puts_of w = puts w.offset w.bytes

unfoldable pub puts_all : List Write → List Put
puts_all [] = []
puts_all (w ∷ ws) = puts_of w ++ puts_all ws
