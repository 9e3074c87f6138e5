-- Storing an entry, and moving the head on, as the steps that they are: one store after the other. Document 02, Q-8.
-- `stored` and `head_moved` of Store say what a ring then holds; proofs/Steps shows that these steps, run, leave just that (`stored_run`, `moved_run`).
use Rattle.std.specs.Prelude.{ℕ, zero, suc, ◌%◌, Bool, true, false, List, [], ◌∷◌, ◌++◌, get_or, take, drop, eqb}
use Rattle.layout.specs.Sizes.{slot_size, slots_of}
use Rattle.layout.specs.Bytes.{flat}
use Rattle.walk.specs.declared.Entry.{Entry}
use Rattle.image.specs.Image.{entry_bytes}
use Rattle.store.specs.Steps.{Step, in_slot, one_byte}
use Rattle.store.specs.Store.{tail_after}

-- ---- storing an entry

-- bytes as the slots that they fill: m slots from slot s on, modulo N
unfoldable pub slot_steps : ℕ → ℕ → ℕ → List ℕ → List Step
slot_steps n s zero bs = []
slot_steps n s (suc m) bs = in_slot (s % n) (take slot_size bs) ∷ slot_steps n (suc s) m (drop slot_size bs)

-- the header's byte 3
abbrev pub tail_step : ℕ → Step
tail_step v = one_byte 3 v

-- the entry first, one slot a step, and the tail byte last
unfoldable pub store_steps : ℕ → Entry → List ℕ → List Step
store_steps n e bs = slot_steps n e.slot (slots_of e.length) (entry_bytes e bs) ++ tail_step (tail_after n e) ∷ []

-- step i of them
abbrev pub store_step : ℕ → Entry → List ℕ → ℕ → Step
store_step n e bs i = get_or (store_steps n e bs) i (tail_step 0)

-- ---- moving the head on

-- the header's byte 2
abbrev pub head_step : ℕ → Step
head_step v = one_byte 2 v

abbrev pub unless_same : Bool → List Step → List Step
unless_same true xs = []
unless_same false xs = xs

-- one store of the head byte, and none where the head stays
unfoldable pub head_steps : List ℕ → ℕ → List Step
head_steps r slot = unless_same (eqb (flat r 2) slot) (head_step slot ∷ [])
