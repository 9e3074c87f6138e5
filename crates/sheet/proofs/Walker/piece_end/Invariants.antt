-- `sheet::Walker::piece_end` meets its contract: `Through`: all from the start up to e has its key; the end is a place with another key, or the limit.
use Prim.Native.Nat.{◌-◌}
use Rattle.sheet.specs.Places.{key_by}
use Rattle.sheet.proofs.Walking.{Through}
use Rattle.sheet.proofs.Walker.piece_end.Given as goal

abbrev pub invariant-loop-e : goal.invariant-loop-e
invariant-loop-e l = Through (key_by l.self.entries.now) (key_by l.self.entries.now l.start.place) l.start.place l.last l.e

abbrev pub decreases-loop-e : goal.decreases-loop-e
decreases-loop-e l = l.last - l.e
