-- `walk::entry_bytes` meets its contract. A part of a run is a run (Views, `bytes_part`).
use mathlib.Core.Path.{sym, ◌∙◌}
use native.Mathlib.Omega.{arith}
use Rattle.layout.specs.Bytes.{round}
use Rattle.layout.proofs.Views.{bytes_part}
use Rattle.walk.proofs.entry_bytes.Goals as goal

pub returns : goal.returns
returns c = let a = c.args in
    c.take.ensures ∙ sym (bytes_part a.entry.length (round a.slots.now.bytes.now a.slots.now.n) _ a.from _ (omega arith))
