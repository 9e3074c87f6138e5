-- `sheet::Source::put_data` meets its contract: the invariant: the bytes of the pieces so far stand from `from` up to `at`, and the rest of the buffer is as it was.
use Prim.Native.Nat.{◌+◌, ◌-◌}
use mathlib.Core.Path.{◌≡◌, ap, ◌∙◌}
use lib.ListN.{get_or}
use native.Mathlib.Omega.{arith}
use Rattle.layout.specs.Bytes.{round, bytes_at}
use Rattle.sheet.specs.declared.Piece.{Piece}
use Rattle.sheet.specs.Sheet.{data_by, laid_at}
use Rattle.sheet.specs.Places.{no_piece, byte_by}
use Rattle.sheet.proofs.Storing.{laid_none, data_more, total_more, total_room}
use Rattle.sheet.proofs.Source.put_data.Goals as goal

pub loop-piece-init : goal.loop-piece-init
unfolding data_by
loop-piece-init c = record { reached = omega arith; laid = laid_none _ _ }

pub overflow_add-end : goal.overflow_add-end
overflow_add-end c = let o = total_room c.args.list.now c.loop-piece.piece-index c.loop-piece-test.true in
    omega (arith, c.requires.0, c.loop-piece.invariant.reached)

pub put_part-requires : goal.put_part-requires
put_part-requires c = let l = c.loop-piece in
    let h = c.loop-piece-test.true in
    let q : Piece = get_or c.args.list.now l.piece-index no_piece in
    let o = total_room c.args.list.now l.piece-index h in
    let z : l.at + q.size - l.at ≡ q.size = omega arith in
    let p = c.requires in
    (omega arith, omega (arith, p.0, l.invariant.reached), rw z (p.1.ends l.piece-index h), rw z (p.1.each l.piece-index h))

pub loop-piece-preserved : goal.loop-piece-preserved
loop-piece-preserved c = let a = c.args in
    let l = c.loop-piece in
    let h = c.loop-piece-test.true in
    let q : Piece = get_or a.list.now l.piece-index no_piece in
    let b = byte_by (round a.self.now.slots.bytes.now a.self.now.slots.n) a.self.now.entries.now in
    let z : l.at + q.size - l.at ≡ q.size = omega arith in
    let o = total_room a.list.now l.piece-index h in
    let r = c.requires.0 in
    let i = l.invariant.reached in
    record {
      reached = rw (total_more a.buffer.now a.list.now l.piece-index h) (omega arith);
      laid =
          data_more a.buffer.now a.list.now l.piece-index h _ a.from l.at _ i (omega arith)
          (c.put_part.ensures ∙ ap (λ n. laid_at l.buffer l.at (bytes_at b q.start n)) z ∙ ap (λ d. laid_at d l.at (bytes_at b q.start q.size)) l.invariant.laid);
    }
