-- The sizes of a ring, each named once. Document 01, "The ring in battery memory".
use Rattle.std.specs.Prelude.{ℕ, ◌+◌, ◌-◌, ◌*◌, ◌/◌, ◌^◌}

-- the layout edition that byte 0 holds
abbrev pub edition : ℕ
edition = 1

-- the header's bytes, before slot 0
abbrev pub header_size : ℕ
header_size = 16

abbrev pub slot_size : ℕ
slot_size = 256

-- N is from 18 to 255
abbrev pub fewest_slots : ℕ
fewest_slots = 18

abbrev pub most_slots : ℕ
most_slots = 255

-- "at most N - 1 slots are used", and an entry takes one at least
abbrev pub most_entries : ℕ
most_entries = most_slots - 1

-- an entry's bytes before its data
abbrev pub head_size : ℕ
head_size = 24

-- the largest write
abbrev pub largest : ℕ
largest = 4096

-- numbers are below this
abbrev pub number_limit : ℕ
number_limit = 2 ^ 62

-- offset + length is at most this
abbrev pub file_end : ℕ
file_end = 16777216

-- the bytes of n slots
abbrev pub span_of : ℕ → ℕ
span_of n = n * slot_size

-- the least count of slots that holds 24 + length bytes
abbrev pub slots_of : ℕ → ℕ
slots_of length = (head_size + length + (slot_size - 1)) / slot_size

-- the bytes that are left from there to the last slot's end
abbrev pub filler_of : ℕ → ℕ
filler_of length = slots_of length * slot_size - (head_size + length)
