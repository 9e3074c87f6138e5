-- `sheet::Source::put_sheet` meets its contract: four stores, one behind the other, make a sheet (`laid_sheet`), and the entries' sheet is that of the batch's writes (`sheet_writes`).
use mathlib.Core.Path.{ap, ◌∙◌}
use native.Mathlib.Omega.{arith}
use Rattle.layout.specs.Bytes.{round}
use Rattle.sheet.specs.Sheet.{sheet_by, laid_at}
use Rattle.sheet.specs.Places.{byte_by}
use Rattle.sheet.proofs.Batches.{all_covered, sheet_writes}
use Rattle.sheet.proofs.Making.{laid_sheet}
use Rattle.sheet.proofs.Source.put_sheet.Goals as goal

pub put_data-requires : goal.put_data-requires
put_data-requires c = let p = c.requires in
    let k = c.put_list.auto.buffer ∙ c.put_number-2.auto.buffer ∙ c.put_number.auto.buffer in
    (omega (arith, p.1), rw p.0 (all_covered c.args.self.now.entries.now))

pub returns : goal.returns
returns c = let a = c.args in
    let p = c.requires in
    let f = round a.self.now.slots.bytes.now a.self.now.slots.n in
    let b = byte_by f a.self.now.entries.now in
    laid_sheet a.buffer.now _ _ _ _ b a.node a.list.now p.1 c.put_number.ensures c.put_number-2.ensures c.put_list.ensures c.put_data.ensures
    ∙ ap (λ qs. laid_at a.buffer.now 0 (sheet_by b a.node qs)) p.0
    ∙ ap (laid_at a.buffer.now 0) (sheet_writes f a.self.now.entries.now a.self.now.laid.batch a.node)
