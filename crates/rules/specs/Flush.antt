-- The sheet that a flush start would write. Document 01, "Moves", paragraphs "Flush" and "Sheet".
use Rattle.std.specs.Prelude.{ℕ, Bool, List, map, length, ltb}
use Rattle.layout.specs.Bytes.{round}
use Rattle.layout.specs.declared.Ring.{Ring}
use Rattle.walk.specs.Walk.{write_of}
use Rattle.state.specs.declared.Held.{Held}
use Rattle.state.specs.Lists.{entry_of}
use Rattle.state.specs.Batch.{batch_of}
use Rattle.sheet.specs.Sheet.{sheet_of}

-- there is something to flush
abbrev pub has_batch : ℕ → List Held → Bool
has_batch node hs = ltb 0 (length (batch_of node hs))

abbrev pub sheet_for : ℕ → List ℕ → Ring → List Held → List ℕ
sheet_for node r g hs = sheet_of node (map (write_of (round r g.n)) (map entry_of (batch_of node hs)))
