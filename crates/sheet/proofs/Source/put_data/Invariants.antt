-- `sheet::Source::put_data` meets its contract: the invariant: the bytes of the pieces so far stand from `from` up to `at`, and the rest of the buffer is as it was.
use Prim.Native.Nat.{◌+◌}
use mathlib.Core.Path.{◌≡◌}
use lib.ListN.{take}
use Rattle.layout.specs.Bytes.{round}
use Rattle.sheet.specs.Sheet.{data_by, laid_at}
use Rattle.sheet.specs.Places.{total, byte_by}
use Rattle.sheet.proofs.Source.put_data.Given as goal

abbrev pub invariant-loop-piece : goal.invariant-loop-piece
invariant-loop-piece l = record {
  reached : l.at ≡ l.from + total (take l.piece-index l.list);
  laid : l.buffer ≡ laid_at l.initial.buffer l.from (data_by (byte_by (round l.self.slots.bytes.now l.self.slots.n) l.self.entries.now) (take l.piece-index l.list));
}
