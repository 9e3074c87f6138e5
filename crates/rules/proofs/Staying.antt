-- From a made or reopened ring, over any calls: the state fits the ring, and 8 and 12 never come.
use Rattle.std.specs.Prelude.{Option, None, Some}
use Prim.Native.Nat.{ℕ, zero, suc, ◌+◌, ◌-◌, ◌≤◌, ◌<◌}
use mathlib.Core.Path.{◌≡◌, refl, ap}
use mathlib.Core.Bool.{Bool, true, false, not}
use mathlib.Core.List.{List, [], ◌∷◌, map}
use native.Mathlib.Omega.{arith}
use borrow.Author.Tests.{eqb-true, eqb-false, lt-ltb, le-leb, ltb-false}
use lib.ListN.{length, get_or, replicate, length-map}
use lib.Dec.{eqb, ltb}
use Rattle.reason.specs.declared.Reason.{Reason}
use Rattle.reason.specs.declared.Reason.TheVariants.{Unreadable, StateUnfit}
use Rattle.layout.specs.Sizes.{number_limit, largest, file_end, slots_of}
use Rattle.layout.specs.Bytes.{both}
use Rattle.layout.specs.declared.Ring.{Ring}
use Rattle.layout.proofs.Tests.{never, both_right, true_not_false, sized_sound}
use Rattle.walk.specs.declared.Entry.{Entry}
use Rattle.walk.specs.Walk.{readable, reading_of, last_of, Rising}
use Rattle.walk.proofs.Rules.{valid_sound}
use Rattle.store.specs.Store.{is_makeable, slots_for, made}
use Rattle.ring.specs.Ring.{empty_ring}
use Rattle.ring.proofs.Laws.{readable_facts, made_reads}
use Rattle.state.specs.declared.State.{State}
use Rattle.state.specs.declared.Pin.{Pin}
use Rattle.state.specs.declared.Held.{Held}
use Rattle.state.specs.Lists.{any, all, pairs, no_pin, most_pins, listed, holding, entry_of, comes_back, phase_fits, reopened}
use Rattle.state.specs.Pins.{is_due, pin_place}
use Rattle.state.proofs.Bools.{both_intro, both_no, both_fails, not_fails}
use Rattle.state.proofs.Finding.{place_there}
use Rattle.judge.specs.Fits.{next_fits, pins_differ, pins_fit, pair_fits, is_in_flight, flight_fits, head_stays}
use Rattle.judge.proofs.Fitting.{follows}
use Rattle.judge.proofs.Rules.{IsFit, fits_true}
use Rattle.rules.specs.Call.{Call, Kind, makes, reopens, writes, pins, unpins, asks_end, reports, starts, fills, takes_ticket, asks_ticket, asks_turn, is_one, make_ring, reopen_ring, ring_of}
use Rattle.rules.specs.Refusals.{needs_number, applies, order, first, refusal_of}
use Rattle.rules.specs.Outcome.{report_done, start_done, done_by, outcome}
use Rattle.rules.specs.Flush.{has_batch}
use Rattle.rules.proofs.Judging.{Judges}
use Rattle.rules.proofs.Order.{refused_when}
use Rattle.rules.proofs.Owning.{next_facts, Writable, pick_false}
use Rattle.rules.proofs.Fit.{HeldFit, fit_of}
use Rattle.rules.proofs.Standing.{Real, Stands, stands_ticket, stands_pin, stands_unpin, stands_good, stands_bad, stands_start, stands_write}

-- ---- rows of a call that isn't refused

module _ (p : Reason → Bool) where
  none_by : (x : Reason) (xs : List Reason) (b : Bool) → p x ≡ b → first p (x ∷ xs) ≡ None → (p x ≡ false) × (first p xs ≡ None)
  none_by x xs true e o = never (let w : ◌≡◌ {A = Option Reason} (Some x) None = (rw e at o) in cc)
  none_by x xs false e o = (e, rw e at o)

  pub first_none : (d : Reason) (xs : List Reason) (i : ℕ) → first p xs ≡ None → i < length xs → p (get_or xs i d) ≡ false
  first_none d [] i o h = absurd (omega arith)
  first_none d (x ∷ xs) zero o h = (none_by x xs (p x) refl o).0
  first_none d (x ∷ xs) (suc i) o h = first_none d xs i (none_by x xs (p x) refl o).1 (omega arith)

-- ---- every call

module _ (c : Call) (r : List ℕ) (s : State) (k : Stands r s) where
  module _ (o : refusal_of c r s ≡ None) where
    pub free : (i : ℕ) → i < 12 → applies c r s (get_or order i Unreadable) ≡ false
    unfolding refusal_of
    free i h = first_none (applies c r s) Unreadable order i o h

    pub numbered : needs_number c (reading_of r) s ≡ true → s.next + 1 ≤ number_limit
    numbered y =
        let n = eqb-false s.next number_limit (both_fails _ _ (free 9 (omega arith)) y) in
        let b = (next_facts s.next s.flush k.fit.next).1 in
        omega (arith, n)

    pub may_write : c.kind ≡ writes → Writable k.ring s c.node c.offset (length c.bytes)
    may_write e =
        let l = pick_false _ _ (both_fails _ _ (free 3 (omega arith)) (rw e)) in
        let n = eqb-false (length c.bytes) 0 l.0 in
        let g : ring_of (reading_of r) ≡ k.ring = ap ring_of k.reading in
        record {
          named = eqb-false c.node 0 (both_fails _ _ (free 2 (omega arith)) (rw e));
          some = omega (arith, n);
          most = ltb-false largest (length c.bytes) l.1;
          end = ltb-false file_end (c.offset + length c.bytes) (rw e at (both_fails _ _ (free 4 (omega arith)) (rw e)));
          next = eqb-false s.next number_limit (both_fails _ _ (free 9 (omega arith)) (rw e));
          room = rw g at (ltb-false ((ring_of (reading_of r)).n - 1 - (ring_of (reading_of r)).used) (slots_of (length c.bytes)) (both_fails _ _ (free 10 (omega arith)) (rw e)));
        }

    done_stands : (kind : Kind) → c.kind ≡ kind → Judges c → Real c
        → Stands (done_by kind c k.ring k.entries (holding k.entries (listed s)) r s).ring (done_by kind c k.ring k.entries (holding k.entries (listed s)) r s).state
    done_stands makes e j v = never (let w : true ≡ false = (rw e at j.reads) in cc)
    done_stands reopens e j v = never (let w : true ≡ false = (rw e at j.fits) in cc)
    done_stands writes e j v = stands_write r s k c (may_write e) v
    done_stands pins e j v =
        let f = not_fails _ (both_fails _ _ (free 8 (omega arith)) (rw e)) in
        let p = place_there (λ p. eqb p.number 0) no_pin s.pins f in
        stands_pin r s k (numbered (rw e)) (pin_place 0 s.pins) p.0 (eqb-true _ _ p.1) _ refl
    done_stands unpins e j v =
        let f = rw e at (both_right (ltb 0 c.number) _ (not_fails _ (both_fails _ _ (free 7 (omega arith)) (rw e)))) in
        stands_unpin r s k (pin_place c.number s.pins) (place_there (λ p. eqb p.number c.number) no_pin s.pins f).0
    done_stands asks_end e j v = k
    done_stands reports e j v = went c.good
      where
        went : (b : Bool) → Stands (report_done b k.ring (holding k.entries (listed s)) r s).ring (report_done b k.ring (holding k.entries (listed s)) r s).state
        went true = stands_good r s k
        went false = stands_bad r s k
    done_stands starts e j v = went (has_batch c.node hs) refl
      where
        hs : List Held
        hs = holding k.entries (listed s)

        went : (b : Bool) → has_batch c.node hs ≡ b → Stands (start_done b c.node k.ring hs r s c.buffer).ring (start_done b c.node k.ring hs r s c.buffer).state
        went false b = k
        went true b = stands_start r s k c.node (ltb-false 0 s.flush (both_fails _ _ (free 5 (omega arith)) (rw e))) (numbered (rw (e, k.reading) b)) b
    done_stands fills e j v = k
    done_stands takes_ticket e j v = stands_ticket r s k (numbered (rw e))
    done_stands asks_ticket e j v = k
    done_stands asks_turn e j v = k

  stays_by : (x : Option Reason) → refusal_of c r s ≡ x → Judges c → Real c → Stands (outcome c r s).ring (outcome c r s).state
  unfolding outcome
  stays_by None o j v = rw (o, k.reading) (done_stands o c.kind refl j v)
  stays_by (Some why) o j v = rw o k

  -- a call that tests 8 and 12 leaves a ring that is readable and a state that fits it
  pub stays : Judges c → Real c → Stands (outcome c r s).ring (outcome c r s).state
  stays j v = stays_by (refusal_of c r s) refl j v

  -- and is never refused for them
  not_applied : (why : Reason) → applies c r s why ≡ false → refusal_of c r s ≡ Some why → ⊥
  not_applied why e o = true_not_false _ (refused_when c r s why o).applies e

  pub never_unreadable : refusal_of c r s ≡ Some Unreadable → ⊥
  never_unreadable = not_applied Unreadable (rw k.reading (both_no (not (is_one c (makes ∷ [])))))

  pub never_unfit : refusal_of c r s ≡ Some StateUnfit → ⊥
  never_unfit = not_applied StateUnfit (rw (k.reading, fits_true k.entries s k.fit) (both_no (not (is_one c (makes ∷ reopens ∷ [])))))

-- ---- a ring that is made or reopened

-- every entry comes back Unflushed
back_phases : (es : List Entry) → all phase_fits (map comes_back es) ≡ true
back_phases [] = refl
back_phases (e ∷ es) = both_intro _ _ refl (back_phases es)

back_order : (es : List Entry) → pairs pair_fits (map comes_back es) ≡ true
back_order [] = refl
back_order (e ∷ es) = both_intro _ _ (behind es) (back_order es)
  where
    behind : (ks : List Entry) → all (pair_fits (comes_back e)) (map comes_back ks) ≡ true
    behind [] = refl
    behind (x ∷ ks) = both_intro _ _ (follows (comes_back e) (comes_back x) refl) (behind ks)

back_flight : (es : List Entry) → any is_in_flight (map comes_back es) ≡ false
back_flight [] = refl
back_flight (e ∷ es) = back_flight es

back_head : (ps : List Pin) (es : List Entry) → head_stays ps (map comes_back es) ≡ true
unfolding head_stays is_due both
back_head ps [] = refl
back_head ps (e ∷ es) = refl

back_entries : (es : List Entry) → map entry_of (map comes_back es) ≡ es
back_entries [] = refl
back_entries (e ∷ es) = ap (◌∷◌ e) (back_entries es)

-- numbers that rise are at most the last
last_most : (last : ℕ) (es : List Entry) → Rising last es → last ≤ last_of last es
last_most last [] o = omega arith
last_most last (e ∷ es) o = let w = last_most e.number es o.2 in let a = o.0 in omega arith

back_numbers : (last : ℕ) (es : List Entry) → Rising last es → all (λ h. ltb h.entry.number (last_of last es + 1)) (map comes_back es) ≡ true
back_numbers last [] o = refl
back_numbers last (e ∷ es) o =
    let w = last_most e.number es o.2 in
    both_intro _ _ (lt-ltb e.number (last_of e.number es + 1) (omega arith)) (back_numbers e.number es o.2)

last_limit : (last : ℕ) (es : List Entry) → last < number_limit → Rising last es → last_of last es < number_limit
last_limit last [] h o = h
last_limit last (e ∷ es) h o = last_limit e.number es (valid_sound e o.1).below o.2

free_pins : (n : ℕ) → 0 < n → pins_fit n (replicate most_pins no_pin) ≡ true
unfolding pins_fit pins_differ both
free_pins n h = rw (lt-ltb 0 n h)

module _ (r : List ℕ) (g : Ring) (es : List Entry) (q : reading_of r ≡ readable g es) where
  back_fit : HeldFit (last_of 0 es + 1) 0 (replicate most_pins no_pin) (map comes_back es)
  unfolding next_fits flight_fits
  back_fit =
      let o = (readable_facts r g es q).rising in
      let m = last_limit 0 es (omega arith) o in
      record {
        numbers = back_numbers 0 es o;
        phases = back_phases es;
        bounds = both_intro _ _ (lt-ltb 0 (last_of 0 es + 1) (omega arith)) (le-leb (last_of 0 es + 1) number_limit (omega arith));
        pins = free_pins (last_of 0 es + 1) (omega arith);
        order = back_order es;
        flight = rw (back_flight es);
        head = back_head (replicate most_pins no_pin) es;
      }

  reopened_fit : IsFit es (reopened es)
  reopened_fit =
      let s : State = reopened es in
      let f = fit_of s (map comes_back es) back_fit in
      let a : map entry_of (map comes_back es) ≡ es = back_entries es in
      let b : length (map comes_back es) ≡ length es = length-map es comes_back in
      rw (a, b) at f

  pub reopened_stands : Stands r (reopened es)
  reopened_stands = record { ring = g; entries = es; reading = q; fit = reopened_fit }

module _ (r : List ℕ) (s : State) where
  pub reopen_stands : (g : Ring) (es : List Entry) → reading_of r ≡ readable g es → Stands (outcome reopen_ring r s).ring (outcome reopen_ring r s).state
  unfolding outcome refusal_of both
  reopen_stands g es q = rw q (reopened_stands r g es q)

  pub made_stands : is_makeable (length r) ≡ true → Stands (outcome make_ring r s).ring (outcome make_ring r s).state
  unfolding outcome refusal_of both
  made_stands e = rw e (reopened_stands (made r) (empty_ring (slots_for (length r))) [] (made_reads r (sized_sound r (slots_for (length r)) e)))
