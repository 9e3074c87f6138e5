-- `sheet::pieces_of` meets its contract. `Collected`: what is listed are the pieces of the places below `at`, and no
-- byte from there on goes on the last of them. The list is tidy, so that it is told whole.
use Prim.Native.Nat.{◌-◌}
use Rattle.layout.specs.Rack.{items, IsTidy}
use Rattle.sheet.specs.Places.{key_by, no_piece}
use Rattle.sheet.proofs.Collecting.{Collected}
use Rattle.sheet.proofs.pieces_of.Given as goal

abbrev pub invariant-loop-start : goal.invariant-loop-start
invariant-loop-start l = Collected (key_by l.entries) l.end (items l.list) l.size l.at × IsTidy no_piece l.list

abbrev pub decreases-loop-start : goal.decreases-loop-start
decreases-loop-start l = l.end - l.at
