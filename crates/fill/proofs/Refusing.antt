-- A fill's own refusals, one row at a time, and what a fill that isn't refused keeps. Document 01, "When the box says no".
use Rattle.std.specs.Prelude.{None, Result, Ok, Err}
use Prim.Native.Nat.{ℕ, ◌+◌, ◌≤◌, ◌<◌}
use mathlib.Core.Path.{◌≡◌, refl, sym, ap, ◌∙◌}
use mathlib.Core.Bool.{Bool, true, false, not}
use mathlib.Core.List.{List, []}
use borrow.Author.Tests.{eq-eqb, ne_eqb, lt-ltb, le-ltb, ltb-false}
use lib.ListN.{length}
use lib.Dec.{eqb, ltb}
use Rattle.reason.specs.declared.Reason.{Reason}
use Rattle.reason.specs.declared.Reason.TheVariants.{NodeZero, PastFileEnd, NoSuchPin, BadBuffer}
use Rattle.layout.specs.Sizes.{file_end}
use Rattle.layout.specs.Bytes.{both}
use Rattle.layout.proofs.Tests.{never}
use Rattle.walk.specs.Walk.{Reading, unreadable}
use Rattle.state.specs.declared.State.{State}
use Rattle.state.specs.Lists.{pick}
use Rattle.state.specs.Pins.{has_pin_for}
use Rattle.rules.specs.Call.{fill_read}
use Rattle.rules.specs.Fill.{longest_fill}
use Rattle.rules.specs.Refusals.{own}
use Rattle.rules.proofs.Owning.{or, own_fill, pick_false}
use Rattle.rules.specs.Outcome.{may_of}

-- rows that aren't given
rows_none : (x y v w : Bool) → or x NodeZero (or y PastFileEnd (or v NoSuchPin (or w BadBuffer None))) ≡ None → (y ≡ false) × (w ≡ false)
rows_none true y v w e = never (cc)
rows_none false true v w e = never (cc)
rows_none false false true w e = never (cc)
rows_none false false false true e = never (cc)
rows_none false false false false e = (refl, refl)

module _ (s : State) (pin node offset fetched : ℕ) (b : List ℕ) where
  -- no row looks at the ring
  pub own_same : (r : List ℕ) (x : Reading) → own (fill_read pin node offset fetched b) r x s ≡ own (fill_read pin node offset fetched b) [] unreadable s
  own_same r x = own_fill r x s pin node offset fetched b ∙ sym (own_fill [] unreadable s pin node offset fetched b)

  abbrev verdict : Result Unit Reason
  verdict = may_of (own (fill_read pin node offset fetched b) [] unreadable s)

  pub may_node : node ≡ 0 → Err NodeZero ≡ verdict
  may_node z = sym (ap may_of (own_fill [] unreadable s pin node offset fetched b) ∙ rw (eq-eqb node 0 z))

  module _ (z : node ≡ 0 → ⊥) where
    pub may_end : file_end < offset + length b → Err PastFileEnd ≡ verdict
    may_end h = sym (ap may_of (own_fill [] unreadable s pin node offset fetched b) ∙ rw (ne_eqb node 0 z, lt-ltb file_end (offset + length b) h))

    module _ (e : offset + length b ≤ file_end) (t : Bool) (u : t ≡ both (ltb 0 pin) (has_pin_for pin node s.pins)) where
      pub may_pin : t ≡ false → Err NoSuchPin ≡ verdict
      may_pin k = sym (ap may_of (own_fill [] unreadable s pin node offset fetched b) ∙ rw (ne_eqb node 0 z, le-ltb file_end (offset + length b) e, sym u ∙ k))

      module _ (k : t ≡ true) where
        pub may_short : length b < fetched → Err BadBuffer ≡ verdict
        may_short h =
            sym (ap may_of (own_fill [] unreadable s pin node offset fetched b) ∙ rw (ne_eqb node 0 z, le-ltb file_end (offset + length b) e, sym u ∙ k, lt-ltb (length b) fetched h))

        module _ (h : fetched ≤ length b) where
          pub may_long : longest_fill < length b → Err BadBuffer ≡ verdict
          may_long l =
              sym (ap may_of (own_fill [] unreadable s pin node offset fetched b)
              ∙ rw (ne_eqb node 0 z, le-ltb file_end (offset + length b) e, sym u ∙ k, le-ltb (length b) fetched h, lt-ltb longest_fill (length b) l))

          pub may_go : length b ≤ longest_fill → Ok tt ≡ verdict
          may_go l =
              sym (ap may_of (own_fill [] unreadable s pin node offset fetched b)
              ∙ rw (ne_eqb node 0 z, le-ltb file_end (offset + length b) e, sym u ∙ k, le-ltb (length b) fetched h, le-ltb longest_fill (length b) l))

  -- a fill that isn't refused ends within a file, and no more was fetched than its buffer holds
  pub fillable : own (fill_read pin node offset fetched b) [] unreadable s ≡ None → (offset + length b ≤ file_end) × (fetched ≤ length b)
  fillable e =
      let k = rows_none (eqb node 0) (ltb file_end (offset + length b)) (not (both (ltb 0 pin) (has_pin_for pin node s.pins))) (pick (ltb (length b) fetched) true (ltb longest_fill (length b)))
      (sym (own_fill [] unreadable s pin node offset fetched b) ∙ e) in
      (ltb-false file_end (offset + length b) k.0, ltb-false (length b) fetched (pick_false _ (ltb longest_fill (length b)) k.1).0)
