-- The header of a ring. Document 01, "The ring in battery memory", first table.
use Rattle.std.specs.Prelude.{ℕ, ◌+◌, ◌-◌, ◌%◌, List, Bool, true, false, length, eqb, ltb, None, Option, Some}
use Rattle.layout.specs.Sizes.{edition}
use Rattle.layout.specs.Bytes.{flat, both, is_ring_length, zeros_at}
use Rattle.layout.specs.declared.Ring.{Ring}

-- N, head and tail as bytes 1, 2 and 3 hold them
abbrev pub slots_in : List ℕ → ℕ
slots_in r = flat r 1

abbrev pub head_in : List ℕ → ℕ
head_in r = flat r 2

abbrev pub tail_in : List ℕ → ℕ
tail_in r = flat r 3

-- the length is that of N slots; byte 0 is the edition; head and tail are below N; bytes 4 to 15 are zero
unfoldable pub is_header : List ℕ → Bool
is_header r =
    both (is_ring_length (slots_in r) (length r))
    (both (eqb (flat r 0) edition)
    (both (ltb (head_in r) (slots_in r))
    (both (ltb (tail_in r) (slots_in r))
    (zeros_at (flat r) 4 12))))

-- the slots from head to tail, modulo N: head equal to tail means empty
abbrev pub used_of : ℕ → ℕ → ℕ → ℕ
used_of n head tail = (n + tail - head) % n

abbrev pub ring_in : List ℕ → Ring
ring_in r = record { n = slots_in r; head = head_in r; used = used_of (slots_in r) (head_in r) (tail_in r) }

unfoldable pub pick_header : Bool → Option Ring → Option Ring
pick_header true a = a
pick_header false a = None

unfoldable pub header_of : List ℕ → Option Ring
header_of r = pick_header (is_header r) (Some (ring_in r))
