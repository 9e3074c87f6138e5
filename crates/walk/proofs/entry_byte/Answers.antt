-- `walk::entry_byte` meets its contract. A byte of a run (Views, `bytes_get`).
use mathlib.Core.Path.{sym, ◌∙◌}
use native.Mathlib.Omega.{arith}
use Rattle.layout.specs.Bytes.{round}
use Rattle.layout.proofs.Views.{bytes_get}
use Rattle.walk.proofs.entry_byte.Goals as goal

pub returns : goal.returns
returns c = let a = c.args in
    c.byte.ensures ∙ sym (bytes_get a.entry.length (round a.slots.now.bytes.now a.slots.now.n) _ a.i (omega arith))
