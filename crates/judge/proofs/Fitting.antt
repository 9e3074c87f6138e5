-- What the judge's loops keep: entries matched with listed writes, held beside them, pins and pairs of writes judged.
use Prim.Native.Nat.{ℕ, suc, ◌+◌, ◌≤◌, ◌<◌}
use Rattle.std.specs.Prelude.{Option, Some, None, is_some, is_none, slice_get, ◌&&◌}
use Rattle.std.specs.List.{list_all, zip}
use mathlib.Core.Path.{◌≡◌, refl, sym, ◌∙◌, ap}
use mathlib.Core.Bool.{Bool, true, false, not}
use mathlib.Core.List.{List, [], ◌∷◌, ◌++◌, map, append_assoc, append-nil}
use native.Mathlib.Omega.{arith}
use native.Mathlib.Numerals.{add-one}
use borrow.Author.Tests.{eq-eqb, ne_eqb, eqb-true, ltb-true, lt-ltb, le-ltb}
use lib.ListN.{length, take, drop, get_or, length-append}
use lib.Seq.{take-suc, split_at}
use lib.Dec.{eqb, ltb}
use Rattle.layout.specs.Sizes.{number_limit}
use Rattle.layout.specs.Bytes.{both}
use Rattle.layout.proofs.Tests.{never, both_left, both_right, not_true_false, true_not_false}
use Rattle.walk.specs.declared.Entry.{Entry}
use Rattle.walk.specs.Walk.{Rising}
use Rattle.walk.proofs.Rules.{valid_sound}
use Rattle.state.specs.declared.Listed.{Listed}
use Rattle.state.specs.declared.Pin.{Pin}
use Rattle.state.specs.declared.Held.{Held}
use Rattle.state.specs.Lists.{pick, any, all, IsPlaceOf, pairs, unflushed, in_flight, flushed, gone, no_held, no_pin, holding, entry_of, phase_fits, RisingTo}
use Rattle.state.specs.Pins.{is_due, pin_place}
use Rattle.state.proofs.Library.{none_found}
use Rattle.state.proofs.Bools.{both_intro, yes_both, no_both}
use Rattle.state.proofs.Pairs.{all_always, all_snoc, all_right, pairs_snoc, pairs_before, none_all}
use Rattle.judge.specs.Fits.{listed_fits, list_fits, pins_differ, pin_fits, pins_fit, phases_fit, nodes_fit, pair_fits, is_in_flight, flight_fits, head_stays}

-- ---- entries matched with listed writes

pub list_length : (next : ℕ) (es : List Entry) (ws : List Listed) → list_fits next es ws ≡ true → length es ≡ length ws
unfolding list_fits
list_length next [] [] e = refl
list_length next [] (w ∷ ws) e = never (cc)
list_length next (x ∷ es) [] e = never (cc)
list_length next (x ∷ es) (w ∷ ws) e = ap suc (list_length next es ws (both_right (listed_fits next x.number w) _ e))

-- ---- entries beside their states

pub holding_length : (es : List Entry) (ws : List Listed) → length es ≡ length ws → length (holding es ws) ≡ length es
holding_length [] ws e = refl
holding_length (x ∷ es) [] e = absurd (omega arith)
holding_length (x ∷ es) (w ∷ ws) e = ap suc (holding_length es ws (omega arith))

pub holding_entries : (es : List Entry) (ws : List Listed) → length es ≡ length ws → map entry_of (holding es ws) ≡ es
holding_entries [] ws e = refl
holding_entries (x ∷ es) [] e = absurd (omega arith)
holding_entries (x ∷ es) (w ∷ ws) e = ap (◌∷◌ x) (holding_entries es ws (omega arith))

-- a pass over both tests them in order
pub list_zip : (next : ℕ) (es : List Entry) (ws : List Listed) → length es ≡ length ws
    → list_all (λ x. listed_fits next x.0.number x.1) (zip es ws) ≡ list_fits next es ws
unfolding list_fits
list_zip next [] [] k = refl
list_zip next [] (w ∷ ws) k = absurd (omega arith)
list_zip next (e ∷ es) [] k = absurd (omega arith)
list_zip next (e ∷ es) (w ∷ ws) k = at (listed_fits next e.number w) (list_zip next es ws (omega arith))
  where
    at : (b : Bool) → list_all (λ x. listed_fits next x.0.number x.1) (zip es ws) ≡ list_fits next es ws
        → (b && list_all (λ x. listed_fits next x.0.number x.1) (zip es ws)) ≡ both b (list_fits next es ws)
    at true e = e ∙ sym (yes_both _)
    at false e = sym (no_both _)

-- the pass that holds the entries: what is held so far, and what the rest of both lists would still give
pub record Holding (es : List Entry) (ws : List Listed) (hs : List Held) (xs : List Entry) (vs : List Listed) : Type 0 where
  pub split : holding es ws ≡ hs ++ holding xs vs
  pub same : length xs ≡ length vs
  pub count : length hs + length xs ≡ length es

module _ (es : List Entry) (ws : List Listed) (hs : List Held) (xs : List Entry) (vs : List Listed) where
  pub hold_start : length es ≡ length ws → hs ≡ [] → xs ≡ es → vs ≡ ws → Holding es ws hs xs vs
  hold_start k e a b =
      let n : length hs ≡ 0 = ap length e in
      let x : length xs ≡ length es = ap length a in
      let v : length vs ≡ length ws = ap length b in
      record { split = rw (e, a, b); same = x ∙ k ∙ sym v; count = omega arith }

  module _ (k : Holding es ws hs xs vs) where
    pub hold_room : (e : Entry) (xs' : List Entry) → xs ≡ e ∷ xs' → length hs < length es
    hold_room e xs' a =
        let n = k.count in
        let m : length xs ≡ suc (length xs') = ap length a in
        omega arith

    pub hold_on : (e : Entry) (w : Listed) (xs' : List Entry) (vs' : List Listed) (hs' : List Held) → xs ≡ e ∷ xs' → vs ≡ w ∷ vs'
        → hs' ≡ hs ++ record { entry = e; phase = w.phase } ∷ [] → Holding es ws hs' xs' vs'
    hold_on e w xs' vs' hs' a b c =
        let one : Held = record { entry = e; phase = w.phase } in
        let n = k.count in
        let s = k.same in
        let x : length xs ≡ suc (length xs') = ap length a in
        let v : length vs ≡ suc (length vs') = ap length b in
        let l : length hs' ≡ length hs + 1 = ap length c ∙ length-append hs (one ∷ []) in
        record {
          split = k.split ∙ rw (a, b) refl ∙ sym (append_assoc hs (one ∷ []) (holding xs' vs')) ∙ ap (λ l. l ++ holding xs' vs') (sym c);
          same = omega arith;
          count = omega arith;
        }

    pub hold_end : length xs ≡ 0 → hs ≡ holding es ws
    hold_end z = at xs vs z k.split
      where
        at : (ys : List Entry) (us : List Listed) → length ys ≡ 0 → holding es ws ≡ hs ++ holding ys us → hs ≡ holding es ws
        at [] us z e = sym (e ∙ append-nil hs)
        at (y ∷ ys) us z e = absurd (omega arith)

-- numbers rise, as the entries' do, below what is above them all
pub holding_rising : (es : List Entry) (ws : List Listed) (last : ℕ) → Rising last es → RisingTo number_limit last (holding es ws)
holding_rising [] ws last o = tt
holding_rising (e ∷ es) [] last o = tt
holding_rising (e ∷ es) (w ∷ ws) last o = (o.0, (valid_sound e o.1).below, holding_rising es ws e.number o.2)

module _ (next : ℕ) where
  listed_number : (n : ℕ) (w : Listed) → listed_fits next n w ≡ true → n < next
  unfolding listed_fits
  listed_number n w e =
      let a : w.number ≡ n = eqb-true _ _ (both_left _ _ e) in
      let b : w.number < next = ltb-true _ _ (both_left _ _ (both_right (eqb w.number n) _ e)) in
      omega arith

  listed_phase : (n : ℕ) (w : Listed) → listed_fits next n w ≡ true → ltb w.phase gone ≡ true
  unfolding listed_fits
  listed_phase n w e = both_right (ltb w.number next) _ (both_right (eqb w.number n) _ e)

  pub holding_below : (es : List Entry) (ws : List Listed) (last : ℕ) → Rising last es → list_fits next es ws ≡ true → RisingTo next last (holding es ws)
  unfolding list_fits
  holding_below [] ws last o e = tt
  holding_below (x ∷ es) [] last o e = tt
  holding_below (x ∷ es) (w ∷ ws) last o e =
      (o.0, listed_number x.number w (both_left _ _ e), holding_below es ws x.number o.2 (both_right (listed_fits next x.number w) _ e))

  pub holding_phases : (es : List Entry) (ws : List Listed) → list_fits next es ws ≡ true → all phase_fits (holding es ws) ≡ true
  unfolding list_fits
  holding_phases [] ws e = refl
  holding_phases (x ∷ es) [] e = refl
  holding_phases (x ∷ es) (w ∷ ws) e =
      both_intro _ _ (listed_phase x.number w (both_left _ _ e)) (holding_phases es ws (both_right (listed_fits next x.number w) _ e))

-- ---- pins

module _ (next : ℕ) (ps : List Pin) (p : Pin) where
  -- one pin more
  pins_snoc : pins_fit next ps ≡ true → pin_fits next ps p ≡ true → pins_fit next (ps ++ p ∷ []) ≡ true
  unfolding pins_fit pin_fits
  pins_snoc e k =
      both_intro _ _
      (all_snoc (λ q. ltb q.number next) ps p (both_left _ _ e) (both_left _ _ k))
      (pairs_snoc pins_differ ps p ∙ both_intro _ _ (both_right (all (λ q. ltb q.number next) ps) _ e) (both_right (ltb p.number next) _ k))

  -- a pin within pins that fit
  pins_within : (qs : List Pin) → pins_fit next (ps ++ p ∷ qs) ≡ true → pin_fits next ps p ≡ true
  unfolding pins_fit pin_fits
  pins_within qs e =
      both_intro _ _
      (both_left _ _ (all_right (λ q. ltb q.number next) ps (p ∷ qs) (both_left _ _ e)))
      (pairs_before pins_differ ps qs p (both_right (all (λ q. ltb q.number next) (ps ++ p ∷ qs)) _ e))

module _ (next : ℕ) (ps : List Pin) (i : ℕ) (h : i < length ps) where
  pub pins_more : pins_fit next (take i ps) ≡ true → pin_fits next (take i ps) (get_or ps i no_pin) ≡ true → pins_fit next (take (i + 1) ps) ≡ true
  pins_more e k =
      let w : take (i + 1) ps ≡ take i ps ++ get_or ps i no_pin ∷ [] = rw add-one (take-suc ps i no_pin h) in
      ap (pins_fit next) w ∙ pins_snoc next (take i ps) (get_or ps i no_pin) e k

  pub pins_stop : pin_fits next (take i ps) (get_or ps i no_pin) ≡ false → false ≡ pins_fit next ps
  pins_stop k =
      sym (not_true_false (pins_fit next ps) (λ e. true_not_false _ (pins_within next (take i ps) (get_or ps i no_pin) (drop (suc i) ps) (ap (pins_fit next) (sym (split_at ps i no_pin h)) ∙ e)) k))

twice : (b : Bool) → b ≡ not (not b)
twice true = refl
twice false = refl

-- a pin's number against those before it
module _ (next : ℕ) (ps : List Pin) (p : Pin) where
  pub pin_high : next ≤ p.number → false ≡ pin_fits next ps p
  unfolding pin_fits both
  pin_high h = rw (le-ltb p.number next h)

  pub pin_free : p.number < next → p.number ≡ 0 → true ≡ pin_fits next ps p
  unfolding pin_fits pins_differ
  pin_free h z = sym (both_intro _ _ (lt-ltb p.number next h) (all_always (λ q. pins_differ q p) (λ q. rw (eq-eqb p.number 0 z)) ps))

  -- the search among them tells the place of the first with that number
  pub pin_live : p.number < next → (p.number ≡ 0 → ⊥) → (found : Option ℕ) → IsPlaceOf found (pin_place p.number ps) (length ps) → is_none found ≡ pin_fits next ps p
  unfolding pin_fits pins_differ both
  pin_live h z found e =
      none_found (λ q. eqb q.number p.number) ps found (is_none found) (twice (is_some found)) e
      ∙ none_all (λ q. eqb q.number p.number) ps
      ∙ rw (lt-ltb p.number next h, ne_eqb p.number 0 z)

-- ---- pairs of writes

no_clash : (a b c d : Bool) → pick a (both (not (both b false)) (not (both c false))) (not (both d false)) ≡ true
unfolding both
no_clash true true true d = refl
no_clash true true false d = refl
no_clash true false true d = refl
no_clash true false false d = refl
no_clash false b c true = refl
no_clash false b c false = refl

-- an Unflushed write may follow any
pub follows : (h k : Held) → k.phase ≡ unflushed → pair_fits h k ≡ true
unfolding pair_fits phases_fit nodes_fit
follows h k e =
    rw e (no_clash (eqb h.entry.node k.entry.node) (not (eqb h.phase flushed)) (eqb h.phase unflushed) (eqb h.phase in_flight))

-- so all may stand before one
pub all_follow : (hs : List Held) (k : Held) → k.phase ≡ unflushed → true ≡ all (λ x. pair_fits x k) hs
all_follow hs k e = sym (all_always (λ x. pair_fits x k) (λ x. follows x k e) hs)

module _ (l : List Held) (j : ℕ) (h : j < length l) where
  pub order_more : pairs pair_fits (take j l) ≡ true → all (λ x. pair_fits x (get_or l j no_held)) (take j l) ≡ true → pairs pair_fits (take (j + 1) l) ≡ true
  order_more e k =
      let w : take (j + 1) l ≡ take j l ++ get_or l j no_held ∷ [] = rw add-one (take-suc l j no_held h) in
      ap (pairs pair_fits) w ∙ pairs_snoc pair_fits (take j l) (get_or l j no_held) ∙ both_intro _ _ e k

  pub order_stop : all (λ x. pair_fits x (get_or l j no_held)) (take j l) ≡ false → false ≡ pairs pair_fits l
  order_stop k =
      sym (not_true_false (pairs pair_fits l) (λ e. true_not_false _ (pairs_before pair_fits (take j l) (drop (suc j) l) (get_or l j no_held) (ap (pairs pair_fits) (sym (split_at l j no_held h)) ∙ e)) k))

-- ---- the head

pub head_some : (ps : List Pin) (hs : List Held) (h : Held) → slice_get hs 0 ≡ Some h → (b : Bool) → b ≡ is_due ps h → not b ≡ head_stays ps hs
unfolding head_stays
head_some ps [] h o b e = never (cc)
head_some ps (k ∷ hs) h o b e = let same : k ≡ h = cc in rw (same, e)

pub head_none : (ps : List Pin) (hs : List Held) → slice_get hs 0 ≡ None → true ≡ head_stays ps hs
unfolding head_stays
head_none ps [] o = refl
head_none ps (k ∷ hs) o = never (cc)

pub head_fits : (hs : List Held) (h : Held) → slice_get hs 0 ≡ Some h → all phase_fits hs ≡ true → h.phase < 4
head_fits [] h o e = never (cc)
head_fits (k ∷ hs) h o e =
    let same : k ≡ h = cc in
    let low : k.phase < gone = ltb-true _ _ (both_left _ _ e) in
    rw (← same) (omega arith)

-- ---- a flush and what is In flight

pub flight_by : (flush : ℕ) (hs : List Held) (flying b : Bool) → flying ≡ any is_in_flight hs → b ≡ pick (eqb flush 0) (not flying) flying → b ≡ flight_fits flush hs
unfolding flight_fits
flight_by flush hs flying b k e = e ∙ ap (λ x. pick (eqb flush 0) (not x) x) k
