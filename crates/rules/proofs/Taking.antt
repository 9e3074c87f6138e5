-- A flush start: the batch is taken, and the state still fits.
use Prim.Native.Nat.{ℕ, zero, suc, ◌+◌, ◌≤◌, ◌<◌}
use mathlib.Core.Path.{◌≡◌, refl, ap}
use mathlib.Core.Bool.{Bool, true, false, not}
use mathlib.Core.List.{List, [], ◌∷◌, map}
use native.Mathlib.Omega.{arith}
use borrow.Author.Tests.{eqb-true, eq-eqb, lt-ltb, le-leb, ltb-true, ne_eqb}
use lib.ListN.{length, take}
use lib.Dec.{eqb, ltb}
use Rattle.layout.specs.Sizes.{number_limit}
use Rattle.layout.specs.Bytes.{both}
use Rattle.layout.proofs.Tests.{never, both_left, both_right}
use Rattle.state.specs.declared.Pin.{Pin}
use Rattle.state.specs.declared.Held.{Held}
use Rattle.state.specs.Lists.{pick, any, all, pairs, unflushed, in_flight, gone, entry_of, phase_fits, those}
use Rattle.state.specs.Moves.{taken, move_of, moved_by}
use Rattle.state.specs.Pins.{is_due}
use Rattle.state.specs.Batch.{most_batch, is_waiting, batch_of, take_first, taken_of}
use Rattle.state.proofs.Bools.{both_intro, both_fails}
use Rattle.state.proofs.Finding.{Each, each_by, each_both, each_true}
use Rattle.judge.specs.Fits.{phases_fit, nodes_fit, pair_fits, is_in_flight, flight_fits, head_stays, next_fits}
use Rattle.rules.proofs.Fit.{HeldFit, apart, numbers_grow, pins_grow}

-- ---- what is said of every write, after the batch is taken

module _ (node : ℕ) where
  all_taken : (q : Held → Bool) (m : ℕ) (hs : List Held) → Each (λ k. (q k ≡ true) × (is_waiting node k ≡ true → q (moved_by taken k) ≡ true)) hs → all q (take_first m node hs) ≡ true
  unfolding take_first
  all_taken q zero [] o = refl
  all_taken q zero (h ∷ hs) o = both_intro _ _ o.0.0 (all_zero hs o.1)
    where
      all_zero : (hs : List Held) → Each (λ k. (q k ≡ true) × (is_waiting node k ≡ true → q (moved_by taken k) ≡ true)) hs → all q hs ≡ true
      all_zero [] o = refl
      all_zero (h ∷ hs) o = both_intro _ _ o.0.0 (all_zero hs o.1)
  all_taken q (suc m) [] o = refl
  all_taken q (suc m) (h ∷ hs) o = at (is_waiting node h) refl (all_taken q m hs o.1) (all_taken q (suc m) hs o.1)
    where
      at : (b : Bool) → is_waiting node h ≡ b → all q (take_first m node hs) ≡ true → all q (take_first (suc m) node hs) ≡ true
          → all q (pick b (moved_by taken h ∷ take_first m node hs) (h ∷ take_first (suc m) node hs)) ≡ true
      at true e x y = both_intro _ _ (o.0.1 e) x
      at false e x y = both_intro _ _ o.0.0 y

  -- entries stay as they are
  pub taken_entries : (m : ℕ) (hs : List Held) → map entry_of (take_first m node hs) ≡ map entry_of hs
  unfolding take_first
  taken_entries zero hs = refl
  taken_entries (suc m) [] = refl
  taken_entries (suc m) (h ∷ hs) = at (is_waiting node h) (taken_entries m hs) (taken_entries (suc m) hs)
    where
      at : (b : Bool) → map entry_of (take_first m node hs) ≡ map entry_of hs → map entry_of (take_first (suc m) node hs) ≡ map entry_of hs
          → map entry_of (pick b (moved_by taken h ∷ take_first m node hs) (h ∷ take_first (suc m) node hs)) ≡ map entry_of (h ∷ hs)
      at true x y = ap (◌∷◌ h.entry) x
      at false x y = ap (◌∷◌ h.entry) y

  -- ---- one write and another behind it

  waits_node : (h : Held) → is_waiting node h ≡ true → h.entry.node ≡ node
  waits_node h e = eqb-true _ _ (both_left _ _ e)

  waits_phase : (h : Held) → is_waiting node h ≡ true → h.phase ≡ unflushed
  waits_phase h e = eqb-true _ _ (both_right (eqb h.entry.node node) _ e)

  pub moved_phase : (h : Held) → is_waiting node h ≡ true → move_of h.phase taken ≡ in_flight
  unfolding move_of
  moved_phase h e = rw (waits_phase h e)

  -- a write that is in one of the three states, and not In flight
  abbrev Still : Held → Type 0
  Still h = (phase_fits h ≡ true) × (is_in_flight h ≡ false)

  -- states of one node's writes: Unflushed before q makes In flight before q
  goes : (q : ℕ) → q < gone → both (phases_fit unflushed q) (not (eqb q in_flight)) ≡ true → phases_fit in_flight q ≡ true
  unfolding phases_fit both
  goes zero h e = refl
  goes (suc zero) h e = refl
  goes (suc (suc zero)) h e = e
  goes (suc (suc (suc q))) h e = absurd (omega arith)

  -- and what isn't Unflushed or In flight is Flushed
  ends : (p : ℕ) → p < gone → eqb p unflushed ≡ false → eqb p in_flight ≡ false → phases_fit p in_flight ≡ true
  unfolding phases_fit both
  ends zero h e f = never (cc)
  ends (suc zero) h e f = never (cc)
  ends (suc (suc zero)) h e f = refl
  ends (suc (suc (suc p))) h e f = absurd (omega arith)

  -- another node's write that isn't In flight
  beside : (q : ℕ) → eqb q in_flight ≡ false → nodes_fit in_flight q ≡ true
  unfolding nodes_fit both
  beside q e = rw e

  together : (a b p q : ℕ) → a ≡ node → b ≡ node → p ≡ in_flight → q ≡ in_flight → pick (eqb a b) (phases_fit p q) (nodes_fit p q) ≡ true
  unfolding phases_fit both
  together a b p q x y u v = rw (x, y, u, v, eq-eqb node node refl)

  module _ (h : Held) (w : is_waiting node h ≡ true) where
    moved_stays : (k : Held) → Still k → pair_fits h k ≡ true → pair_fits (moved_by taken h) k ≡ true
    unfolding pair_fits
    moved_stays k s o = at (eqb h.entry.node k.entry.node) refl
      where
        at : (b : Bool) → eqb h.entry.node k.entry.node ≡ b → pick b (phases_fit (move_of h.phase taken) k.phase) (nodes_fit (move_of h.phase taken) k.phase) ≡ true
        at true e =
            let f : phases_fit h.phase k.phase ≡ true = rw e at o in
            let u : phases_fit unflushed k.phase ≡ true = rw (waits_phase h w) at f in
            rw (moved_phase h w) (goes k.phase (ltb-true _ _ s.0) (both_intro _ _ u (rw s.1)))
        at false e = rw (moved_phase h w) (beside k.phase s.1)

    moved_both : (k : Held) → is_waiting node k ≡ true → pair_fits (moved_by taken h) (moved_by taken k) ≡ true
    unfolding pair_fits
    moved_both k v = together h.entry.node k.entry.node _ _ (waits_node h w) (waits_node k v) (moved_phase h w) (moved_phase k v)

  module _ (h : Held) (w : is_waiting node h ≡ false) (s : Still h) where
    stays_moved : (k : Held) → is_waiting node k ≡ true → pair_fits h (moved_by taken k) ≡ true
    unfolding pair_fits
    stays_moved k v = at (eqb h.entry.node k.entry.node) refl
      where
        at : (b : Bool) → eqb h.entry.node k.entry.node ≡ b → pick b (phases_fit h.phase (move_of k.phase taken)) (nodes_fit h.phase (move_of k.phase taken)) ≡ true
        at true e =
            let n : eqb h.entry.node node ≡ true = rw (waits_node k v) at e in
            rw (moved_phase k v) (ends h.phase (ltb-true _ _ s.0) (both_fails _ _ w n) s.1)
        at false e = apart h.phase _ s.1

  pairs_taken : (m : ℕ) (hs : List Held) → Each Still hs → pairs pair_fits hs ≡ true → pairs pair_fits (take_first m node hs) ≡ true
  unfolding take_first
  pairs_taken zero hs s o = o
  pairs_taken (suc m) [] s o = refl
  pairs_taken (suc m) (h ∷ hs) s o =
      at (is_waiting node h) refl (each_both _ _ hs s.1 (each_true (pair_fits h) hs (both_left _ _ o)))
      (pairs_taken m hs s.1 (both_right (all (pair_fits h) hs) _ o)) (pairs_taken (suc m) hs s.1 (both_right (all (pair_fits h) hs) _ o))
    where
      at : (b : Bool) → is_waiting node h ≡ b → Each (λ k. Still k × (pair_fits h k ≡ true)) hs → pairs pair_fits (take_first m node hs) ≡ true → pairs pair_fits (take_first (suc m) node hs) ≡ true
          → pairs pair_fits (pick b (moved_by taken h ∷ take_first m node hs) (h ∷ take_first (suc m) node hs)) ≡ true
      at true e p x y =
          both_intro _ _
          (all_taken (pair_fits (moved_by taken h)) m hs (each_by _ _ hs (λ k q. (moved_stays h e k q.0 q.1, moved_both h e k)) p)) x
      at false e p x y =
          both_intro _ _
          (all_taken (pair_fits h) (suc m) hs (each_by _ _ hs (λ k q. (q.1, stays_moved h e s.0 k)) p)) y

  -- ---- the flight and the head

  flies_by : (h : Held) (b : Bool) (m : ℕ) (hs : List Held) → is_waiting node h ≡ b → (any (is_waiting node) hs ≡ true → any is_in_flight (take_first (suc m) node hs) ≡ true)
      → pick b true (any (is_waiting node) hs) ≡ true → any is_in_flight (pick b (moved_by taken h ∷ take_first m node hs) (h ∷ take_first (suc m) node hs)) ≡ true
  flies_by h true m hs e k o = rw (moved_phase h e)
  flies_by h false m hs e k o = last (is_in_flight h) (k o)
    where
      last : (a : Bool) → any is_in_flight (take_first (suc m) node hs) ≡ true → pick a true (any is_in_flight (take_first (suc m) node hs)) ≡ true
      last true z = refl
      last false z = z

  flies : (m : ℕ) (hs : List Held) → any (is_waiting node) hs ≡ true → any is_in_flight (take_first (suc m) node hs) ≡ true
  unfolding take_first
  flies m [] o = never (cc)
  flies m (h ∷ hs) o = flies_by h (is_waiting node h) m hs refl (flies m hs) o

  not_due : (ps : List Pin) (k : Held) → k.phase ≡ in_flight → not (is_due ps k) ≡ true
  unfolding is_due both
  not_due ps k z = rw z

  head_taken : (ps : List Pin) (m : ℕ) (hs : List Held) → head_stays ps hs ≡ true → head_stays ps (take_first (suc m) node hs) ≡ true
  unfolding head_stays take_first
  head_taken ps m [] o = refl
  head_taken ps m (h ∷ hs) o = at (is_waiting node h) refl
    where
      at : (b : Bool) → is_waiting node h ≡ b → head_stays ps (pick b (moved_by taken h ∷ take_first m node hs) (h ∷ take_first (suc m) node hs)) ≡ true
      at true e = not_due ps (moved_by taken h) (moved_phase h e)
      at false e = o

-- ---- some write waits exactly where there is a batch

pub those_some : (node : ℕ) (hs : List Held) → ltb 0 (length (batch_of node hs)) ≡ any (is_waiting node) hs
unfolding batch_of
those_some node [] = refl
those_some node (h ∷ hs) = at (is_waiting node h) (those_some node hs)
  where
    at : (b : Bool) → ltb 0 (length (batch_of node hs)) ≡ any (is_waiting node) hs → ltb 0 (length (take most_batch (pick b (h ∷ those (is_waiting node) hs) (those (is_waiting node) hs)))) ≡ pick b true (any (is_waiting node) hs)
    at true e = lt-ltb 0 (length (h ∷ take 31 (those (is_waiting node) hs))) (omega arith)
    at false e = e

-- ---- the state still fits

module _ (node next : ℕ) (ps : List Pin) (hs : List Held) (f : HeldFit next 0 ps hs) (l : next + 1 ≤ number_limit) where
  none_flies : any is_in_flight hs ≡ false
  unfolding flight_fits
  none_flies = not_any (any is_in_flight hs) f.flight
    where
      not_any : (b : Bool) → not b ≡ true → b ≡ false
      not_any true e = never (cc)
      not_any false e = refl

  none_each : (ks : List Held) → any is_in_flight ks ≡ false → Each (λ k. is_in_flight k ≡ false) ks
  none_each [] e = tt
  none_each (k ∷ ks) e = at (is_in_flight k) refl e (none_each ks)
    where
      at : (b : Bool) → is_in_flight k ≡ b → pick b true (any is_in_flight ks) ≡ false → (any is_in_flight ks ≡ false → Each (λ k. is_in_flight k ≡ false) ks) → Each (λ k. is_in_flight k ≡ false) (k ∷ ks)
      at true x z r = never (cc)
      at false x z r = (x, r z)

  still : Each (Still node) hs
  still = each_both _ _ hs (each_true phase_fits hs f.phases) (none_each hs none_flies)

  pub fit_start : any (is_waiting node) hs ≡ true → HeldFit (next + 1) next ps (taken_of node hs)
  unfolding next_fits flight_fits
  fit_start some =
      let b = both_left _ _ f.bounds in
      let z : 0 < next = ltb-true 0 next b in
      record {
        numbers = all_taken node (λ h. ltb h.entry.number (next + 1)) most_batch hs
            (each_by _ _ hs (λ k q. (q, λ _. q)) (each_true _ hs (numbers_grow next (next + 1) (omega arith) hs f.numbers)));
        phases = all_taken node phase_fits most_batch hs (each_by _ _ hs (λ k q. (q, λ w. rw (moved_phase node k w))) (each_true phase_fits hs f.phases));
        bounds = both_intro _ _ (lt-ltb next (next + 1) (omega arith)) (le-leb (next + 1) number_limit l);
        pins = pins_grow next (next + 1) (omega arith) ps f.pins;
        order = pairs_taken node most_batch hs still f.order;
        flight = rw (ne_eqb next 0 (λ e. omega arith)) (flies node 31 hs some);
        head = head_taken node ps 31 hs f.head;
      }
