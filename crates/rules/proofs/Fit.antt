-- A good state stays good, over lists: what each call does to the held writes, the pins and the next number keeps "state fits".
use Prim.Native.Nat.{ℕ, zero, suc, ◌+◌, ◌≤◌, ◌<◌}
use mathlib.Core.Path.{◌≡◌, refl, sym, ◌∙◌, ap}
use mathlib.Core.Bool.{Bool, true, false, not}
use mathlib.Core.List.{List, [], ◌∷◌, ◌++◌, map}
use native.Mathlib.Omega.{arith}
use borrow.Author.Tests.{eq-eqb, ne_eqb, eqb-true, lt-ltb, ltb-true, le-leb}
use lib.ListN.{length, take, drop, get_or, set, length-map}
use lib.Seq.{take_at, set_split, split_at}
use lib.Dec.{eqb, ltb}
use Rattle.layout.specs.Sizes.{number_limit}
use Rattle.layout.specs.Bytes.{both}
use Rattle.layout.proofs.Tests.{never, both_left, both_right}
use Rattle.walk.specs.declared.Entry.{Entry}
use Rattle.state.specs.declared.State.{State}
use Rattle.state.specs.declared.Listed.{Listed}
use Rattle.state.specs.declared.Pin.{Pin}
use Rattle.state.specs.declared.Held.{Held}
use Rattle.state.specs.Lists.{pick, any, all, pairs, unflushed, in_flight, flushed, gone, no_pin, listed, holding, entry_of, listed_of, phase_fits, with_held}
use Rattle.state.specs.Moves.{move_of, bad, reported}
use Rattle.state.specs.Pins.{is_flushed, keeps, is_due, leaving, staying}
use Rattle.state.proofs.Bools.{both_intro}
use Rattle.state.proofs.Pairs.{all_always, all_imp, all_left, all_right, all_snoc, all_put, any_append, any_put, pairs_snoc, pairs_right, pairs_put}
use Rattle.state.proofs.Reports.{Event, is_good, is_bad, report_entry, report_fits}
use Rattle.state.proofs.LettingGo.{leave_split}
use Rattle.judge.specs.Fits.{listed_fits, list_fits, next_fits, pins_differ, pins_fit, phases_fit, nodes_fit, pair_fits, is_in_flight, flight_fits, head_stays, held_fits}
use Rattle.judge.proofs.Fitting.{follows}
use Rattle.judge.proofs.Rules.{IsFit}
use Rattle.rules.proofs.Owning.{next_facts}

-- the clauses, of a next number, a flush, pins and held writes
pub record HeldFit (next flush : ℕ) (ps : List Pin) (hs : List Held) : Type 0 where
  pub numbers : all (λ h. ltb h.entry.number next) hs ≡ true
  pub phases : all phase_fits hs ≡ true
  pub bounds : next_fits next flush ≡ true
  pub pins : pins_fit next ps ≡ true
  pub order : pairs pair_fits hs ≡ true
  pub flight : flight_fits flush hs ≡ true
  pub head : head_stays ps hs ≡ true

-- ---- from the state to its held writes, and back

holding_numbers : (next : ℕ) (es : List Entry) (ws : List Listed) → list_fits next es ws ≡ true → all (λ h. ltb h.entry.number next) (holding es ws) ≡ true
unfolding list_fits listed_fits
holding_numbers next [] ws e = refl
holding_numbers next (x ∷ es) [] e = refl
holding_numbers next (x ∷ es) (w ∷ ws) e =
    let l = both_left _ _ e in
    let n : w.number ≡ x.number = eqb-true _ _ (both_left _ _ l) in
    let b : w.number < next = ltb-true _ _ (both_left _ _ (both_right (eqb w.number x.number) _ l)) in
    both_intro _ _ (lt-ltb x.number next (omega arith)) (holding_numbers next es ws (both_right (listed_fits next x.number w) _ e))

list_of : (next : ℕ) (hs : List Held) → all (λ h. ltb h.entry.number next) hs ≡ true → all phase_fits hs ≡ true
    → list_fits next (map entry_of hs) (map listed_of hs) ≡ true
unfolding list_fits listed_fits
list_of next [] n f = refl
list_of next (h ∷ hs) n f =
    both_intro _ _
    (both_intro _ _ (eq-eqb h.entry.number h.entry.number refl) (both_intro _ _ (both_left _ _ n) (both_left _ _ f)))
    (list_of next hs (both_right (ltb h.entry.number next) _ n) (both_right (phase_fits h) _ f))

holding_of : (hs : List Held) → holding (map entry_of hs) (map listed_of hs) ≡ hs
holding_of [] = refl
holding_of (h ∷ hs) = ap (◌∷◌ h) (holding_of hs)

module _ (s : State) (hs : List Held) where
  relisted : listed (with_held s hs) ≡ map listed_of hs
  relisted = take_at (map listed_of hs) _ (length hs) (length-map hs listed_of)

  -- what is listed anew is held as it was
  pub held_again : holding (map entry_of hs) (listed (with_held s hs)) ≡ hs
  held_again = ap (holding (map entry_of hs)) relisted ∙ holding_of hs

  pub fit_of : HeldFit s.next s.flush s.pins hs → IsFit (map entry_of hs) (with_held s hs)
  fit_of f =
      record {
        count = sym (length-map hs entry_of);
        list = ap (list_fits s.next (map entry_of hs)) relisted ∙ list_of s.next hs f.numbers f.phases;
        next = f.bounds;
        pins = f.pins;
        held = ap (held_fits (with_held s hs)) held_again ∙ both_intro _ _ f.order (both_intro _ _ f.flight f.head);
      }

pub fit_back : (es : List Entry) (s : State) → all phase_fits (holding es (listed s)) ≡ true → IsFit es s → HeldFit s.next s.flush s.pins (holding es (listed s))
fit_back es s p f =
    let hs = holding es (listed s) in
    let q = both_right (pairs pair_fits hs) _ f.held in
    record {
      numbers = holding_numbers s.next es (listed s) f.list;
      phases = p;
      bounds = f.next;
      pins = f.pins;
      order = both_left _ _ f.held;
      flight = both_left _ _ q;
      head = both_right (flight_fits s.flush hs) _ q;
    }

-- ---- the next number grows

module _ (next more : ℕ) (l : next ≤ more) where
  below_more : (n : ℕ) → ltb n next ≡ true → ltb n more ≡ true
  below_more n e = let h = ltb-true n next e in lt-ltb n more (omega arith)

  pub list_grows : (es : List Entry) (ws : List Listed) → list_fits next es ws ≡ true → list_fits more es ws ≡ true
  unfolding list_fits listed_fits
  list_grows [] [] e = refl
  list_grows [] (w ∷ ws) e = e
  list_grows (x ∷ es) [] e = e
  list_grows (x ∷ es) (w ∷ ws) e =
      let o = both_left _ _ e in
      let q = both_right (eqb w.number x.number) _ o in
      both_intro _ _ (both_intro _ _ (both_left _ _ o) (both_intro _ _ (below_more w.number (both_left _ _ q)) (both_right (ltb w.number next) _ q)))
      (list_grows es ws (both_right (listed_fits next x.number w) _ e))

  pub numbers_grow : (hs : List Held) → all (λ h. ltb h.entry.number next) hs ≡ true → all (λ h. ltb h.entry.number more) hs ≡ true
  numbers_grow hs e = all_imp (λ h. ltb h.entry.number next) (λ h. ltb h.entry.number more) (λ h. below_more h.entry.number) hs e

  pub bounds_grow : (flush : ℕ) → more ≤ number_limit → next_fits next flush ≡ true → next_fits more flush ≡ true
  unfolding next_fits
  bounds_grow flush m e = both_intro _ _ (below_more flush (both_left _ _ e)) (le-leb more number_limit m)

  pub pins_grow : (ps : List Pin) → pins_fit next ps ≡ true → pins_fit more ps ≡ true
  unfolding pins_fit
  pins_grow ps e =
      both_intro _ _ (all_imp (λ p. ltb p.number next) (λ p. ltb p.number more) (λ p. below_more p.number) ps (both_left _ _ e)) (both_right (all (λ p. ltb p.number next) ps) _ e)

-- ---- one write more, Unflushed, under the next number

pick_self : (b : Bool) → pick b true false ≡ b
pick_self true = refl
pick_self false = refl

module _ (next flush : ℕ) (ps : List Pin) (hs : List Held) (h : Held) (n : h.entry.number ≡ next) (u : h.phase ≡ unflushed) where
  new_flight : any is_in_flight (hs ++ h ∷ []) ≡ any is_in_flight hs
  new_flight = any_append is_in_flight hs (h ∷ []) ∙ rw u (pick_self (any is_in_flight hs))

  not_due : not (is_due ps h) ≡ true
  unfolding is_due both
  not_due = rw u

  head_more : (ks : List Held) → head_stays ps ks ≡ true → head_stays ps (ks ++ h ∷ []) ≡ true
  unfolding head_stays
  head_more [] e = not_due
  head_more (k ∷ ks) e = e

  pub fit_write : next + 1 ≤ number_limit → HeldFit next flush ps hs → HeldFit (next + 1) flush ps (hs ++ h ∷ [])
  unfolding flight_fits
  fit_write l f =
      record {
        numbers = all_snoc (λ x. ltb x.entry.number (next + 1)) hs h (numbers_grow next (next + 1) (omega arith) hs f.numbers) (lt-ltb h.entry.number (next + 1) (omega arith));
        phases = all_snoc phase_fits hs h f.phases (rw u);
        bounds = bounds_grow next (next + 1) (omega arith) flush l f.bounds;
        pins = pins_grow next (next + 1) (omega arith) ps f.pins;
        order = pairs_snoc pair_fits hs h ∙ both_intro _ _ f.order (follow_all hs);
        flight = rw new_flight f.flight;
        head = head_more hs f.head;
      }
    where
      follow_all : (ks : List Held) → all (λ x. pair_fits x h) ks ≡ true
      follow_all ks = all_always (λ x. pair_fits x h) (λ x. follows x h u) ks

-- ---- those that are due leave

module _ (ps : List Pin) where
  due_flight : (h : Held) → is_due ps h ≡ true → is_in_flight h ≡ false
  unfolding is_due
  due_flight h e = let z : h.phase ≡ flushed = eqb-true _ _ (both_left _ _ e) in ne_eqb h.phase in_flight (λ w. let x : ⊥ = omega arith in x)

  leave_by : (h : Held) (hs : List Held) (b : Bool) → is_due ps h ≡ b → any is_in_flight (leaving ps hs) ≡ false → any is_in_flight (leaving ps (h ∷ hs)) ≡ false
  unfolding leaving
  leave_by h hs true e k = rw (e, due_flight h e) k
  leave_by h hs false e k = rw e

  none_leave : (hs : List Held) → any is_in_flight (leaving ps hs) ≡ false
  unfolding leaving
  none_leave [] = refl
  none_leave (h ∷ hs) = leave_by h hs (is_due ps h) refl (none_leave hs)

  stay_flight : (hs : List Held) → any is_in_flight hs ≡ any is_in_flight (staying ps hs)
  stay_flight hs = ap (any is_in_flight) (sym (leave_split ps hs)) ∙ any_append is_in_flight (leaving ps hs) (staying ps hs) ∙ rw (none_leave hs)

  head_by : (h : Held) (hs : List Held) (b : Bool) → is_due ps h ≡ b → head_stays ps (staying ps hs) ≡ true → head_stays ps (staying ps (h ∷ hs)) ≡ true
  unfolding staying head_stays
  head_by h hs true e k = rw e k
  head_by h hs false e k = rw (e, e)

  stay_head : (hs : List Held) → head_stays ps (staying ps hs) ≡ true
  unfolding staying head_stays
  stay_head [] = refl
  stay_head (h ∷ hs) = head_by h hs (is_due ps h) refl (stay_head hs)

  -- whatever the head was
  pub fit_leave : (next flush : ℕ) (hs : List Held) → all (λ h. ltb h.entry.number next) hs ≡ true → all phase_fits hs ≡ true → next_fits next flush ≡ true
      → pins_fit next ps ≡ true → pairs pair_fits hs ≡ true → flight_fits flush hs ≡ true → HeldFit next flush ps (staying ps hs)
  unfolding flight_fits
  fit_leave next flush hs n f b p o l =
      let e = leave_split ps hs in
      record {
        numbers = all_right (λ h. ltb h.entry.number next) (leaving ps hs) (staying ps hs) (ap (all (λ h. ltb h.entry.number next)) e ∙ n);
        phases = all_right phase_fits (leaving ps hs) (staying ps hs) (ap (all phase_fits) e ∙ f);
        bounds = b;
        pins = p;
        order = pairs_right pair_fits (leaving ps hs) (staying ps hs) (ap (pairs pair_fits) e ∙ o);
        flight = rw (stay_flight hs) at l;
        head = stay_head hs;
      }

-- ---- a report

not_yes : (b : Bool) → not b ≡ true → b ≡ false
not_yes true e = never (cc)
not_yes false e = refl

-- a test of each of the three states that a held write can be in
pub each_phase : (f : ℕ → Bool) → all f (0 ∷ 1 ∷ 2 ∷ []) ≡ true → (p : ℕ) → p < gone → f p ≡ true
each_phase f e zero h = both_left _ _ e
each_phase f e (suc zero) h = both_left _ _ (both_right (f 0) _ e)
each_phase f e (suc (suc zero)) h = both_left _ _ (both_right (f 1) _ (both_right (f 0) _ e))
each_phase f e (suc (suc (suc p))) h = absurd (omega arith)

-- the state that a report leaves a write in
abbrev after : ℕ → ℕ → ℕ
after event p = pick (eqb p in_flight) (move_of p event) p

-- states that may stand in an order still may after a report, and none is In flight
abbrev kept : ℕ → ℕ → ℕ → Bool
kept event p q = pick (phases_fit p q) (phases_fit (after event p) (after event q)) true

kept_all : (event : ℕ) → Event event → all (λ p. all (kept event p) (0 ∷ 1 ∷ 2 ∷ [])) (0 ∷ 1 ∷ 2 ∷ []) ≡ true
unfolding phases_fit move_of both
kept_all event is_good = refl
kept_all event is_bad = refl

landed_all : (event : ℕ) → Event event → all (λ p. not (eqb (after event p) in_flight)) (0 ∷ 1 ∷ 2 ∷ []) ≡ true
unfolding move_of both
landed_all event is_good = refl
landed_all event is_bad = refl

pick_yes : (a b : Bool) → a ≡ true → pick a b true ≡ true → b ≡ true
pick_yes a b e k = rw e at k

reported_phase : (event : ℕ) (h : Held) → (reported event h).phase ≡ after event h.phase
unfolding reported
reported_phase event h = at (eqb h.phase in_flight)
  where
    at : (b : Bool) → (pick b (record { entry = h.entry; phase = move_of h.phase event }) h).phase ≡ pick b (move_of h.phase event) h.phase
    at true = refl
    at false = refl

pub apart : (p q : ℕ) → eqb p in_flight ≡ false → nodes_fit p q ≡ true
unfolding nodes_fit both
apart p q e = rw e

module _ (event : ℕ) (v : Event event) where
  landed : (h : Held) → phase_fits h ≡ true → is_in_flight (reported event h) ≡ false
  landed h f =
      let k = each_phase (λ p. not (eqb (after event p) in_flight)) (landed_all event v) h.phase (ltb-true _ _ f) in
      ap (λ p. eqb p in_flight) (reported_phase event h) ∙ not_yes _ k

  none_flies : (hs : List Held) → all phase_fits hs ≡ true → any is_in_flight (map (reported event) hs) ≡ false
  none_flies [] f = refl
  none_flies (h ∷ hs) f = rw (landed h (both_left _ _ f)) (none_flies hs (both_right (phase_fits h) _ f))

  pair_of : (h k : Held) → pair_fits (reported event h) (reported event k)
      ≡ pick (eqb h.entry.node k.entry.node) (phases_fit (after event h.phase) (after event k.phase)) (nodes_fit (after event h.phase) (after event k.phase))
  unfolding pair_fits
  pair_of h k = rw (report_entry event h, report_entry event k, reported_phase event h, reported_phase event k)

  pair_same : (h k : Held) (b : Bool) → eqb h.entry.node k.entry.node ≡ b → phase_fits h ≡ true → phase_fits k ≡ true → pair_fits h k ≡ true
      → pair_fits (reported event h) (reported event k) ≡ true
  unfolding pair_fits
  pair_same h k true e f g o =
      rw (pair_of h k, e)
      (pick_yes (phases_fit h.phase k.phase) _ (rw e at o)
      (each_phase (kept event h.phase) (each_phase (λ p. all (kept event p) (0 ∷ 1 ∷ 2 ∷ [])) (kept_all event v) h.phase (ltb-true _ _ f)) k.phase (ltb-true _ _ g)))
  pair_same h k false e f g o =
      rw (pair_of h k, e) (apart (after event h.phase) (after event k.phase) (ap (λ p. eqb p in_flight) (sym (reported_phase event h)) ∙ landed h f))

  pair_reported : (h : Held) (hs : List Held) → phase_fits h ≡ true → all phase_fits hs ≡ true → all (pair_fits h) hs ≡ true
      → all (pair_fits (reported event h)) (map (reported event) hs) ≡ true
  pair_reported h [] f g o = refl
  pair_reported h (k ∷ hs) f g o =
      both_intro _ _
      (pair_same h k (eqb h.entry.node k.entry.node) refl f (both_left _ _ g) (both_left _ _ o))
      (pair_reported h hs f (both_right (phase_fits k) _ g) (both_right (pair_fits h k) _ o))

  pairs_reported : (hs : List Held) → all phase_fits hs ≡ true → pairs pair_fits hs ≡ true → pairs pair_fits (map (reported event) hs) ≡ true
  pairs_reported [] f o = refl
  pairs_reported (h ∷ hs) f o =
      both_intro _ _
      (pair_reported h hs (both_left _ _ f) (both_right (phase_fits h) _ f) (both_left _ _ o))
      (pairs_reported hs (both_right (phase_fits h) _ f) (both_right (all (pair_fits h) hs) _ o))

  numbers_reported : (next : ℕ) (hs : List Held) → all (λ h. ltb h.entry.number next) hs ≡ true → all (λ h. ltb h.entry.number next) (map (reported event) hs) ≡ true
  numbers_reported next [] n = refl
  numbers_reported next (h ∷ hs) n =
      both_intro _ _
      (ap (λ e. ltb e.number next) (report_entry event h) ∙ both_left _ _ n)
      (numbers_reported next hs (both_right (ltb h.entry.number next) _ n))

  -- what a report leaves but its head, which a bad one leaves too
  module _ (next flush : ℕ) (ps : List Pin) (hs : List Held) (f : HeldFit next flush ps hs) where
    bounds_ended : next_fits next 0 ≡ true
    unfolding next_fits
    bounds_ended =
        let n = next_facts next flush f.bounds in
        let a = n.0 in
        both_intro _ _ (lt-ltb 0 next (omega arith)) (le-leb next number_limit n.1)

    flight_ended : flight_fits 0 (map (reported event) hs) ≡ true
    unfolding flight_fits
    flight_ended = rw (none_flies hs f.phases)

    pub fit_reported : HeldFit next 0 ps (staying ps (map (reported event) hs))
    fit_reported =
        fit_leave ps next 0 (map (reported event) hs) (numbers_reported next hs f.numbers) (report_fits event v hs f.phases) bounds_ended f.pins
        (pairs_reported hs f.phases f.order) flight_ended

    pub fit_kept : head_stays ps (map (reported event) hs) ≡ true → HeldFit next 0 ps (map (reported event) hs)
    fit_kept o =
        record {
          numbers = numbers_reported next hs f.numbers;
          phases = report_fits event v hs f.phases;
          bounds = bounds_ended;
          pins = f.pins;
          order = pairs_reported hs f.phases f.order;
          flight = flight_ended;
          head = o;
        }

-- after a bad report the head stays as it did

bad_by : (p : ℕ) (b : Bool) → eqb p in_flight ≡ b → eqb (pick b (move_of p bad) p) flushed ≡ eqb p flushed
unfolding move_of
bad_by p true e = rw (eqb-true p in_flight e)
bad_by p false e = refl

bad_flushed : (h : Held) → is_flushed (reported bad h) ≡ is_flushed h
bad_flushed h = ap (λ p. eqb p flushed) (reported_phase bad h) ∙ bad_by h.phase (eqb h.phase in_flight) refl

keeps_same : (h : Held) (p : Pin) → keeps (reported bad h) p ≡ keeps h p
unfolding keeps
keeps_same h p = rw (report_entry bad h)

any_keeps : (h : Held) (ps : List Pin) → any (keeps (reported bad h)) ps ≡ any (keeps h) ps
any_keeps h [] = refl
any_keeps h (p ∷ ps) = rw (keeps_same h p, any_keeps h ps)

pub bad_head : (ps : List Pin) (hs : List Held) → head_stays ps hs ≡ true → head_stays ps (map (reported bad) hs) ≡ true
unfolding head_stays is_due
bad_head ps [] e = refl
bad_head ps (h ∷ hs) e = rw (bad_flushed h, any_keeps h ps) e

-- ---- pins

pick_true : (b : Bool) → pick b true true ≡ true
pick_true true = refl
pick_true false = refl

-- a pin under the next number differs from all, and so does a free record
differs : (next : ℕ) (p x : Pin) → p.number ≡ next → ltb x.number next ≡ true → (pins_differ x p ≡ true) × (pins_differ p x ≡ true)
unfolding pins_differ
differs next p x n e =
    let h = ltb-true x.number next e in (
      rw (ne_eqb x.number p.number (λ w. let z : ⊥ = omega arith in z)) (pick_true (eqb p.number 0)),
      rw (ne_eqb p.number x.number (λ w. let z : ⊥ = omega arith in z)) (pick_true (eqb x.number 0)),
    )

free_before : (x : Pin) → pins_differ x no_pin ≡ true
unfolding pins_differ
free_before x = refl

free_by : (n : ℕ) → pick (eqb n 0) true (not (eqb 0 n)) ≡ true
free_by zero = refl
free_by (suc n) = rw (ne_eqb 0 (suc n) (λ w. let z : ⊥ = omega arith in z)) (pick_true (eqb (suc n) 0))

free_behind : (x : Pin) → pins_differ no_pin x ≡ true
unfolding pins_differ
free_behind x = free_by x.number

-- what more is kept is no more due
due_less : (a b c : Bool) → not (both a (not b)) ≡ true → (b ≡ true → c ≡ true) → not (both a (not c)) ≡ true
unfolding both
due_less true true c e k = rw (k refl)
due_less true false c e k = never (cc)
due_less false b c e k = refl

module _ (ps : List Pin) (i : ℕ) (l : i < length ps) where
  split : ps ≡ take i ps ++ get_or ps i no_pin ∷ drop (suc i) ps
  split = split_at ps i no_pin l

  pub pins_pinned : (next : ℕ) (p : Pin) → p.number ≡ next → pins_fit next ps ≡ true → pins_fit (next + 1) (set ps i p) ≡ true
  unfolding pins_fit
  pins_pinned next p n e =
      let xs = take i ps in
      let ys = drop (suc i) ps in
      let q = get_or ps i no_pin in
      let f : pins_fit next (xs ++ q ∷ ys) ≡ true = ap (pins_fit next) (sym split) ∙ e in
      let b = both_left _ _ f in
      let c = pins_grow next (next + 1) (omega arith) (xs ++ q ∷ ys) f in
      let lower : Pin → Bool = λ x. ltb x.number next in
      ap (pins_fit (next + 1)) (set_split ps i p l)
      ∙ both_intro _ _
      (all_put q p ys (λ x. ltb x.number (next + 1)) xs (both_left _ _ c) (lt-ltb p.number (next + 1) (omega arith)))
      (pairs_put q p ys pins_differ xs (both_right (all lower (xs ++ q ∷ ys)) _ f)
      (all_imp lower (λ x. pins_differ x p) (λ x k. (differs next p x n k).0) xs (all_left lower xs (q ∷ ys) b))
      (all_imp lower (pins_differ p) (λ x k. (differs next p x n k).1) ys (both_right (lower q) _ (all_right lower xs (q ∷ ys) b))))

  pub pins_unpinned : (next flush : ℕ) → next_fits next flush ≡ true → pins_fit next ps ≡ true → pins_fit next (set ps i no_pin) ≡ true
  unfolding pins_fit
  pins_unpinned next flush g e =
      let xs = take i ps in
      let ys = drop (suc i) ps in
      let q = get_or ps i no_pin in
      let f : pins_fit next (xs ++ q ∷ ys) ≡ true = ap (pins_fit next) (sym split) ∙ e in
      let n = (next_facts next flush g).0 in
      ap (pins_fit next) (set_split ps i no_pin l)
      ∙ both_intro _ _
      (all_put q no_pin ys (λ x. ltb x.number next) xs (both_left _ _ f) (lt-ltb 0 next (omega arith)))
      (pairs_put q no_pin ys pins_differ xs (both_right (all (λ x. ltb x.number next) (xs ++ q ∷ ys)) _ f)
      (all_always (λ x. pins_differ x no_pin) free_before xs) (all_always (pins_differ no_pin) free_behind ys))

  -- a pin in a free record keeps no less
  free_keeps : (h : Held) → (get_or ps i no_pin).number ≡ 0 → keeps h (get_or ps i no_pin) ≡ false
  unfolding keeps both
  free_keeps h z = rw z

  keep_more : (p : Pin) (h : Held) → (get_or ps i no_pin).number ≡ 0 → any (keeps h) ps ≡ true → any (keeps h) (set ps i p) ≡ true
  keep_more p h z e =
      ap (any (keeps h)) (set_split ps i p l)
      ∙ any_put (get_or ps i no_pin) p (drop (suc i) ps) (keeps h) (take i ps) (free_keeps h z) (ap (any (keeps h)) (sym split) ∙ e)

  pub head_pinned : (p : Pin) (hs : List Held) → (get_or ps i no_pin).number ≡ 0 → head_stays ps hs ≡ true → head_stays (set ps i p) hs ≡ true
  unfolding head_stays is_due
  head_pinned p [] z e = refl
  head_pinned p (h ∷ hs) z e = due_less (is_flushed h) (any (keeps h) ps) (any (keeps h) (set ps i p)) e (keep_more p h z)
