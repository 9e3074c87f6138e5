-- `sheet::Walker::find_at` meets its contract: the invariant: of the writes so far, the newest that covers the place (`top_of`), and a place up to which that stays so (`Steady`).
use mathlib.Core.Path.{◌≡◌}
use Rattle.sheet.specs.Places.{top_of, Steady}
use Rattle.sheet.proofs.Walker.find_at.Given as goal

abbrev pub invariant-loop-i : goal.invariant-loop-i
invariant-loop-i l = record {
  newest : l.newest ≡ top_of l.self.entries.now l.i l.p;
  until : Steady (top_of l.self.entries.now l.i) l.p l.end l.until;
}
