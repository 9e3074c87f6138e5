-- `sheet::Source::put_part` meets its contract: what came back in the part is laid in the whole buffer (`part_laid`).
use Prim.Native.Nat.{◌-◌}
use mathlib.Core.Path.{ap, ◌∙◌}
use Rattle.layout.specs.Bytes.{round, bytes_at}
use Rattle.layout.proofs.Views.{bytes_length}
use Rattle.sheet.specs.Places.{byte_by}
use Rattle.sheet.proofs.Storing.{part_long, part_laid}
use Rattle.sheet.proofs.Source.put_part.Goals as goal

pub returns : goal.returns
returns c = let a = c.args in
    let k = c.requires in
    let b = byte_by (round a.self.now.slots.bytes.now a.self.now.slots.n) a.self.now.entries.now in
    part_laid a.at a.end a.buffer.now _ _ k.0 (bytes_length b a.start (a.end - a.at)) (c.put_piece.ensures ∙ ap (bytes_at b a.start) (part_long a.at a.end a.buffer.now k.0 k.1))
