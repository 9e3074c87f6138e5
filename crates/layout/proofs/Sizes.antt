-- The slots of a length are the least count that holds a head and that many bytes.
use Prim.Native.Nat.{ℕ, ◌+◌, ◌*◌, ◌≤◌, ◌<◌}
use native.Mathlib.Omega.{arith}
use Rattle.layout.specs.Sizes.{slot_size, head_size, slots_of}

pub slots_hold : (length : ℕ) → head_size + length ≤ slots_of length * slot_size
slots_hold length = omega arith

pub slots_least : (length k : ℕ) → head_size + length ≤ k * slot_size → slots_of length ≤ k
slots_least length k h = omega arith

pub slots_some : (length : ℕ) → 0 < slots_of length
slots_some length = omega arith
