-- Steps: what a call stores in a ring, one store after the other. Document 02, Q-8: "A store of one byte lands whole or not at all; a slot that is cut short may hold anything."
use Rattle.std.specs.Prelude.{ℕ, zero, suc, ◌+◌, ◌*◌, List, [], ◌∷◌, set, take}
use Rattle.layout.specs.Sizes.{header_size, slot_size}

-- a slot with its bytes, or one byte of the buffer: the head byte, the tail byte, the mark of an entry
pub data Step : Type 0 where
  in_slot : ℕ → List ℕ → Step
  one_byte : ℕ → ℕ → Step

-- bs stored at place p of a buffer and on
unfoldable pub put_at : List ℕ → ℕ → List ℕ → List ℕ
put_at r p [] = r
put_at r p (b ∷ bs) = put_at (set r p b) (suc p) bs

-- where a slot begins in the buffer
abbrev pub place_of : ℕ → ℕ
place_of k = header_size + k * slot_size

abbrev pub run_step : List ℕ → Step → List ℕ
run_step r (in_slot k bs) = put_at r (place_of k) bs
run_step r (one_byte p v) = set r p v

-- all of them, in order
unfoldable pub run : List ℕ → List Step → List ℕ
run r [] = r
run r (x ∷ xs) = run (run_step r x) xs

-- a step that was cut short: its slot may hold anything, a byte is as it was
abbrev pub torn : List ℕ → Step → List ℕ → List ℕ
torn r (in_slot k bs) junk = put_at r (place_of k) (take slot_size junk)
torn r (one_byte p v) junk = r

-- the first k steps are done, and the next, if there is one, is cut short
unfoldable pub cut : List ℕ → List Step → ℕ → List ℕ → List ℕ
cut r [] k junk = r
cut r (x ∷ xs) zero junk = torn r x junk
cut r (x ∷ xs) (suc k) junk = cut (run_step r x) xs k junk
