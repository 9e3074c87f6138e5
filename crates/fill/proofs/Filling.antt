-- What a fill comes to at each of its returns. Document 01, "Moves", paragraph "Fill".
use Rattle.std.specs.Prelude.{None, Result, Ok, Err}
use Prim.Native.Nat.{ℕ, ◌+◌, ◌≤◌}
use mathlib.Core.Path.{◌≡◌, refl, sym, ap, ◌∙◌}
use mathlib.Core.List.{List, [], ◌∷◌}
use lib.ListN.{length}
use Rattle.reason.specs.declared.Reason.{Reason}
use Rattle.layout.specs.Sizes.{file_end}
use Rattle.layout.specs.Rack.{items}
use Rattle.walk.specs.Walk.{readable, unreadable}
use Rattle.state.specs.declared.State.{State}
use Rattle.state.specs.Asks.{cached_end}
use Rattle.judge.specs.declared.Judged.{Judged}
use Rattle.rules.specs.Call.{fill_read}
use Rattle.rules.specs.Fill.{writes_for, fill_count, filled}
use Rattle.rules.specs.Refusals.{own}
use Rattle.rules.specs.Outcome.{lent_by, says, refuses, may_of, outcome}
use Rattle.rules.specs.Known.{Known}
use Rattle.rules.proofs.Judging.{Judges, judge_passes}
use Rattle.rules.proofs.Saying.{may_none, may_some}
use Rattle.fill.proofs.Refusing.{own_same, fillable}

pub judges_fill : (pin node offset fetched : ℕ) (b : List ℕ) → Judges (fill_read pin node offset fetched b)
judges_fill pin node offset fetched b = record { reads = refl; fits = refl }

module _ (r : List ℕ) (s : State) (j : Judged) (k : Known r s j) (pin node offset fetched : ℕ) (b : List ℕ) where
  abbrev said : Result Unit Reason
  said = may_of (own (fill_read pin node offset fetched b) [] unreadable s)

  pub fill_refused : (why : Reason) → Err why ≡ said → lent_by (refuses why) s r b ≡ outcome (fill_read pin node offset fetched b) r s
  fill_refused why e =
      sym (judge_passes (fill_read pin node offset fetched b) (judges_fill pin node offset fetched b) r s j k
      ∙ rw (own_same s pin node offset fetched b r (readable j.ring k.entries) ∙ may_some _ why e))

  module _ (t : Unit) (e : Ok t ≡ said) where
    goes : own (fill_read pin node offset fetched b) [] unreadable s ≡ None
    goes = may_none _ t e

    pub fits : (offset + length b ≤ file_end) × (fetched ≤ length b)
    fits = fillable s pin node offset fetched b goes

    pub fill_done_law : (end n : ℕ) (b' : List ℕ) → end ≡ cached_end node (items j.held) → n ≡ fill_count (length b) fetched offset end
        → b' ≡ filled (writes_for node r j.ring (items j.held)) offset fetched n b → lent_by (says (n ∷ [])) s r b' ≡ outcome (fill_read pin node offset fetched b) r s
    fill_done_law end n b' ee en eb =
        let z : n ≡ fill_count (length b) fetched offset (cached_end node (items j.held)) = en ∙ ap (fill_count (length b) fetched offset) ee in
        sym (judge_passes (fill_read pin node offset fetched b) (judges_fill pin node offset fetched b) r s j k
        ∙ rw (own_same s pin node offset fetched b r (readable j.ring k.entries) ∙ goes, eb, ← z))
