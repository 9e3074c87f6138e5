-- A good state stays good: a call on a readable ring and a state that fits it leaves such a ring and such a state; so 8 and 12 never come.
use Prim.Native.Nat.{ℕ, ◌+◌, ◌^◌, ◌≤◌, ◌<◌}
use mathlib.Core.Path.{◌≡◌, refl, sym, ◌∙◌, ap}
use mathlib.Core.Bool.{true}
use mathlib.Core.List.{List, [], ◌∷◌, ◌++◌, map, map-append}
use native.Mathlib.Omega.{arith}
use borrow.Author.Tests.{eqb-true, ltb-true}
use lib.ListN.{length, get_or, set}
use lib.Dec.{eqb}
use Rattle.layout.specs.Sizes.{number_limit}
use Rattle.layout.specs.declared.Ring.{Ring}
use Rattle.layout.proofs.Tests.{never, both_left, both_right}
use Rattle.layout.proofs.Sizes.{slots_some}
use Rattle.walk.specs.declared.Entry.{Entry}
use Rattle.walk.specs.Walk.{readable, reading_of, last_of, slots_used}
use Rattle.walk.proofs.Rules.{valid_true}
use Rattle.store.specs.Store.{stored, head_moved}
use Rattle.ring.specs.Ring.{slot_after, grown, shrunk, Storable}
use Rattle.ring.proofs.Laws.{readable_facts, stored_reads, moved_reads}
use Rattle.state.specs.declared.State.{State}
use Rattle.state.specs.declared.Listed.{Listed}
use Rattle.state.specs.declared.Pin.{Pin}
use Rattle.state.specs.declared.Held.{Held}
use Rattle.state.specs.Lists.{unflushed, no_pin, listed, holding, entry_of, with_next, with_flush, with_pins, with_held}
use Rattle.state.specs.Moves.{good, bad, reported}
use Rattle.state.specs.Batch.{most_batch, taken_of}
use Rattle.state.specs.Pins.{leaving, staying, slots_left}
use Rattle.state.proofs.Bools.{both_intro}
use Rattle.state.proofs.LettingGo.{leave_split}
use Rattle.state.proofs.Reports.{is_good, is_bad, report_entries}
use Rattle.judge.specs.Fits.{listed_fits, list_fits, pins_fit, head_stays}
use Rattle.judge.proofs.Fitting.{list_length, holding_entries, holding_phases}
use Rattle.judge.proofs.Rules.{IsFit}
use Rattle.rules.specs.Call.{Call}
use Rattle.rules.specs.Outcome.{new_entry}
use Rattle.rules.proofs.Owning.{next_facts, Writable}
use Rattle.rules.specs.Flush.{has_batch}
use Rattle.rules.proofs.Taking.{taken_entries, those_some, fit_start}
use Rattle.rules.proofs.Fit.{HeldFit, fit_of, fit_back, list_grows, bounds_grow, pins_grow, fit_write, fit_leave, fit_reported, fit_kept, bad_head, pins_pinned, pins_unpinned, head_pinned}

-- arguments of a call that are numbers of their types
pub record Real (c : Call) : Type 0 where
  pub node : c.node < 2 ^ 32
  pub handle : c.handle < 2 ^ 32

pub record Stands (r : List ℕ) (s : State) : Type 0 where
  pub ring : Ring
  pub entries : List Entry
  pub reading : reading_of r ≡ readable ring entries
  pub fit : IsFit entries s

module _ (r : List ℕ) (s : State) (k : Stands r s) where
  abbrev hs : List Held
  hs = holding k.entries (listed s)

  pub hs_entries : map entry_of (holding k.entries (listed s)) ≡ k.entries
  hs_entries = holding_entries k.entries (listed s) (list_length s.next k.entries (listed s) k.fit.list)

  pub hs_fit : HeldFit s.next s.flush s.pins (holding k.entries (listed s))
  hs_fit = fit_back k.entries s (holding_phases s.next k.entries (listed s) k.fit.list) k.fit

  -- a number is taken, and perhaps a pin: ring and list stay
  module _ (ps : List Pin) (l : s.next + 1 ≤ number_limit) where
    pub stands_next : pins_fit (s.next + 1) ps ≡ true → head_stays ps (holding k.entries (listed s)) ≡ true → Stands r (with_next (with_pins s ps) (s.next + 1))
    stands_next p h =
        let f = hs_fit in
        record {
          ring = k.ring;
          entries = k.entries;
          reading = k.reading;
          fit =
              record {
                count = k.fit.count;
                list = list_grows s.next (s.next + 1) (omega arith) k.entries (listed s) k.fit.list;
                next = bounds_grow s.next (s.next + 1) (omega arith) s.flush l f.bounds;
                pins = p;
                held = both_intro _ _ f.order (both_intro _ _ f.flight h);
              };
        }

  pub stands_ticket : s.next + 1 ≤ number_limit → Stands r (with_next s (s.next + 1))
  stands_ticket l = stands_next s.pins l (pins_grow s.next (s.next + 1) (omega arith) s.pins hs_fit.pins) hs_fit.head

  pub stands_pin : s.next + 1 ≤ number_limit → (i : ℕ) → i < length s.pins → (get_or s.pins i no_pin).number ≡ 0 → (p : Pin) → p.number ≡ s.next
      → Stands r (with_next (with_pins s (set s.pins i p)) (s.next + 1))
  stands_pin l i b z p n =
      stands_next (set s.pins i p) l (pins_pinned s.pins i b s.next p n hs_fit.pins) (head_pinned s.pins i b p hs z hs_fit.head)

  -- letting go: the entries that stay are read from the new head
  pub stands_leave : (t : State) (ks : List Held) → map entry_of ks ≡ k.entries → HeldFit t.next t.flush t.pins (staying t.pins ks)
      → Stands (head_moved r (slot_after k.ring (slots_left t.pins ks))) (with_held t (staying t.pins ks))
  stands_leave t ks e f =
      let xs = map entry_of (leaving t.pins ks) in
      let ys = map entry_of (staying t.pins ks) in
      let w : xs ++ ys ≡ k.entries = sym (map-append entry_of (leaving t.pins ks) (staying t.pins ks)) ∙ ap (map entry_of) (leave_split t.pins ks) ∙ e in
      record {
        ring = shrunk k.ring (slots_used xs);
        entries = ys;
        reading = moved_reads r k.ring xs ys (k.reading ∙ ap (readable k.ring) (sym w));
        fit = fit_of t (staying t.pins ks) f;
      }

  -- an unpin: a record is free again, then letting go
  pub stands_unpin : (i : ℕ) → i < length s.pins
      → Stands (head_moved r (slot_after k.ring (slots_left (set s.pins i no_pin) hs))) (with_held (with_pins s (set s.pins i no_pin)) (staying (set s.pins i no_pin) hs))
  stands_unpin i b =
      let f = hs_fit in
      stands_leave (with_pins s (set s.pins i no_pin)) hs hs_entries
      (fit_leave (set s.pins i no_pin) s.next s.flush hs f.numbers f.phases f.bounds (pins_unpinned s.pins i b s.next s.flush f.bounds f.pins) f.order f.flight)

  pub stands_good : Stands (head_moved r (slot_after k.ring (slots_left s.pins (map (reported good) hs)))) (with_held (with_flush s 0) (staying s.pins (map (reported good) hs)))
  stands_good = stands_leave (with_flush s 0) (map (reported good) hs) (report_entries good hs ∙ hs_entries) (fit_reported good is_good s.next s.flush s.pins hs hs_fit)

  pub stands_bad : Stands r (with_held (with_flush s 0) (map (reported bad) hs))
  stands_bad =
      record {
        ring = k.ring;
        entries = map entry_of (map (reported bad) hs);
        reading = k.reading ∙ ap (readable k.ring) (sym (report_entries bad hs ∙ hs_entries));
        fit = fit_of (with_flush s 0) (map (reported bad) hs) (fit_kept bad is_bad s.next s.flush s.pins hs hs_fit (bad_head s.pins hs hs_fit.head));
      }

  -- a flush start: the batch is taken under the next number
  pub stands_start : (node : ℕ) → s.flush ≤ 0 → s.next + 1 ≤ number_limit → has_batch node hs ≡ true → Stands r (with_next (with_flush (with_held s (taken_of node hs)) s.next) (s.next + 1))
  stands_start node z l b =
      let w : s.flush ≡ 0 = omega arith in
      let t : State = with_next (with_flush s s.next) (s.next + 1) in
      let e : map entry_of (taken_of node hs) ≡ k.entries = taken_entries node most_batch hs ∙ hs_entries in
      record {
        ring = k.ring;
        entries = map entry_of (taken_of node hs);
        reading = k.reading ∙ ap (readable k.ring) (sym e);
        fit = fit_of t (taken_of node hs) (fit_start node s.next s.pins hs (rw w at hs_fit) l (sym (those_some node hs) ∙ b));
      }

  -- a write: stored behind the entries, listed behind the held
  last_below : (es : List Entry) (ws : List Listed) (last : ℕ) → last < s.next → list_fits s.next es ws ≡ true → last_of last es < s.next
  unfolding list_fits listed_fits
  last_below [] ws last h e = h
  last_below (x ∷ es) [] last h e = never (cc)
  last_below (x ∷ es) (w ∷ ws) last h e =
      let o = both_left _ _ e in
      let n : w.number ≡ x.number = eqb-true _ _ (both_left _ _ o) in
      let b : w.number < s.next = ltb-true _ _ (both_left _ _ (both_right (eqb w.number x.number) _ o)) in
      last_below es ws x.number (omega arith) (both_right (listed_fits s.next x.number w) _ e)

  module _ (c : Call) (w : Writable k.ring s c.node c.offset (length c.bytes)) (v : Real c) where
    bounds : (s.flush < s.next) × (s.next ≤ number_limit)
    bounds = next_facts s.next s.flush k.fit.next

    pub storable : Storable k.ring k.entries (new_entry k.ring s.next c) c.bytes
    storable =
        let b = bounds in
        let lo = b.0 in
        let hi = b.1 in
        let n = w.next in
        let z = w.named in
        let f = readable_facts r k.ring k.entries k.reading in
        let u = f.free in
        let m = w.room in
        let o = slots_some (length c.bytes) in
        record {
          slot = refl;
          valid =
              valid_true (new_entry k.ring s.next c)
              (record { some = omega arith; below = omega (arith, n); node = omega (arith, z); bytes = w.some; most = w.most; zero = refl; end = w.end });
          rising = last_below k.entries (listed s) 0 (omega arith) k.fit.list;
          bytes = refl;
          node = v.node;
          handle = v.handle;
          room = omega arith;
        }

    pub stands_write : Stands (stored r k.ring.n (new_entry k.ring s.next c) c.bytes)
        (with_next (with_held s (hs ++ record { entry = new_entry k.ring s.next c; phase = unflushed } ∷ [])) (s.next + 1))
    stands_write =
        let h : Held = record { entry = new_entry k.ring s.next c; phase = unflushed } in
        let b = bounds.1 in
        let n = w.next in
        let q : map entry_of (hs ++ h ∷ []) ≡ k.entries ++ new_entry k.ring s.next c ∷ [] = map-append entry_of hs (h ∷ []) ∙ ap (◌++ new_entry k.ring s.next c ∷ []) hs_entries in
        record {
          ring = grown k.ring (new_entry k.ring s.next c);
          entries = map entry_of (hs ++ h ∷ []);
          reading =
              stored_reads r k.ring k.entries (new_entry k.ring s.next c) c.bytes k.reading storable
              ∙ ap (readable (grown k.ring (new_entry k.ring s.next c))) (sym q);
          fit = fit_of (with_next s (s.next + 1)) (hs ++ h ∷ []) (fit_write s.next s.flush s.pins hs h refl refl (omega (arith, n)) hs_fit);
        }
