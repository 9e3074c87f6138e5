-- `layout::zeros_at` meets its contract. The invariant: what was found so far and the rest decide together (Loops, `zeros_next`).
use Prim.Native.Nat.{◌+◌, ◌-◌}
use mathlib.Core.Path.{◌≡◌}
use Rattle.layout.specs.Bytes.{both, flat, zeros_at}
use Rattle.layout.proofs.zeros_at.Given as goal

abbrev pub invariant-loop-byte : goal.invariant-loop-byte
invariant-loop-byte l = zeros_at (flat l.bytes) l.p l.count ≡ both l.clear (zeros_at (flat l.bytes) (l.p + l.byte-index) (l.count - l.byte-index))
