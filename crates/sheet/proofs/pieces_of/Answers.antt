-- `sheet::pieces_of` meets its contract. `Collected`: what is listed are the pieces of the places below `at`, and no
-- byte from there on goes on the last of them.
use mathlib.Core.Path.{refl}
use native.Mathlib.Omega.{arith}
use Rattle.sheet.proofs.Collecting.{collect_start, collect_room, collect_on, collect_end}
use Rattle.sheet.proofs.pieces_of.Goals as goal

pub loop-start-init : goal.loop-start-init
loop-start-init c = (collect_start _ _ _ c.new-list.ensures.items, c.new-list.ensures.tidy)

pub push-requires : goal.push-requires
push-requires c = let n = c.in-Some.ensures in
    (omega arith, collect_room _ c.requires _ _ _ _ c.loop-start.invariant.0 _ n.0 n.1 _ c.piece_end-at.ensures)

pub loop-start-preserved : goal.loop-start-preserved
loop-start-preserved c = let n = c.in-Some.ensures in
    (collect_on _ c.requires _ _ _ _ c.loop-start.invariant.0 _ n.0 n.1 _ c.piece_end-at.ensures _ _ c.push.ensures.items n.2.known, c.push.ensures.tidy c.loop-start.invariant.1)

pub returns : goal.returns
returns c = let k = c.loop-start.invariant in collect_end _ _ _ _ _ k.0 _ c.next_start.ensures c.in_default.not-Some _ refl k.1
