-- `walk::collect` meets its contract. The invariant `Collecting`: the entries passed stand in the rack, and the rest of
-- the walk is still to come. The rack is tidy, so that it is told whole.
-- The slots left fall with each entry, which takes one at least.
use Rattle.layout.specs.Bytes.{round}
use Rattle.layout.specs.Rack.{items, IsTidy}
use Rattle.walk.specs.Walk.{no_entry}
use Rattle.walk.proofs.Collecting.{Collecting}
use Rattle.walk.proofs.collect.Given as goal

abbrev pub invariant-loop-left : goal.invariant-loop-left
invariant-loop-left l = Collecting (round l.bytes l.ring.n) l.ring (items l.entries) l.place l.left l.last × IsTidy no_entry l.entries

abbrev pub decreases-loop-left : goal.decreases-loop-left
decreases-loop-left l = l.left
