-- `sheet::Walker::next_start` meets its contract: `Through`: no write covers a place from `at` up to `place`.
use Prim.Native.Nat.{◌-◌}
use Rattle.sheet.specs.Places.{key_by}
use Rattle.sheet.proofs.Walking.{Through}
use Rattle.sheet.proofs.Walker.next_start.Given as goal

abbrev pub invariant-loop-place : goal.invariant-loop-place
invariant-loop-place l = Through (key_by l.self.entries.now) 0 l.at l.end l.place

abbrev pub decreases-loop-place : goal.decreases-loop-place
decreases-loop-place l = l.end - l.place
