-- `sheet::make_sheet` meets its contract: the pieces tell the sheet's length; `made_short` and `made_whole` carry the two answers.
use mathlib.Core.Path.{ap, sym, ◌∙◌}
use native.Mathlib.Omega.{arith}
use lib.ListN.{length}
use Rattle.layout.specs.Bytes.{round}
use Rattle.sheet.specs.declared.Pieces.{Pieces}
use Rattle.sheet.specs.Places.{total}
use Rattle.sheet.proofs.Making.{pieces_listed, made_small, made_short, made_whole}
use Rattle.sheet.proofs.make_sheet.Goals as goal

pub overflow_add-length-2 : goal.overflow_add-length-2
overflow_add-length-2 c = let a = c.args in
    omega (arith, made_small (round a.slots.now.bytes.now a.slots.now.n) a.entries.now c.requires.batch a.node _ _ c.pieces_of-pieces.ensures (ap length c.as_slice-list.ensures.value))

pub returns-then-buffer-length : goal.returns-then-buffer-length
returns-then-buffer-length c = let a = c.args in
    let w = made_short (round a.slots.now.bytes.now a.slots.now.n) a.entries.now c.requires.batch a.node _ _ c.pieces_of-pieces.ensures (ap length c.as_slice-list.ensures.value) a.buffer.now c.if-buffer-length.true in
    record { made = w.0; buffer = w.1 }

pub put_sheet-requires : goal.put_sheet-requires
put_sheet-requires c =
    let l = c.pieces_of-pieces.ensures in
    let e = c.as_slice-list.ensures.value ∙ pieces_listed c.args.entries.now _ l in
    let z = ap (λ (w : Pieces). w.size) l ∙ ap total (sym e) in
    (e, omega (arith, z, c.if-buffer-length.false))

pub returns : goal.returns
returns c = let a = c.args in
    let w = made_whole (round a.slots.now.bytes.now a.slots.now.n) a.entries.now c.requires.batch a.node _ _ c.pieces_of-pieces.ensures (ap length c.as_slice-list.ensures.value) a.buffer.now _ c.if-buffer-length.false c.put_sheet.ensures in
    record { made = w.0; buffer = w.1 }
