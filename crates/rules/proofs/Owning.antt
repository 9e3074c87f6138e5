-- Each call's own refusals, as the order leaves them; and what a call that passed the judge may count on.
use Rattle.std.specs.Prelude.{Option, None, Some}
use Prim.Native.Nat.{ℕ, ◌+◌, ◌-◌, ◌≤◌, ◌<◌}
use mathlib.Core.Path.{◌≡◌, refl, sym, ◌∙◌, ap}
use mathlib.Core.Bool.{Bool, true, false, not}
use mathlib.Core.List.{List, [], ◌∷◌, map}
use native.Mathlib.Omega.{arith}
use borrow.Author.Tests.{leb-true, ltb-true, ltb-false, eqb-false}
use lib.ListN.{length}
use lib.Dec.{eqb, ltb}
use Rattle.reason.specs.declared.Reason.{Reason}
use Rattle.reason.specs.declared.Reason.TheVariants.{NodeZero, BadLength, PastFileEnd, NoRoom, NoNumber, FlushUnderWay, NotTheFlush, NoSuchPin, TooManyPins, BadBuffer}
use Rattle.layout.specs.Sizes.{most_entries, number_limit, largest, file_end, slots_of}
use Rattle.layout.specs.Bytes.{both, Sized}
use Rattle.layout.specs.Rack.{items}
use Rattle.layout.specs.declared.Ring.{Ring}
use Rattle.layout.proofs.Tests.{never, both_left, both_right}
use Rattle.walk.specs.Walk.{Reading, readable, slots_used}
use Rattle.walk.specs.declared.Entry.{Entry}
use Rattle.walk.proofs.Chain.{InRing, AllInRing, used_length}
use Rattle.ring.proofs.Laws.{readable_facts}
use Rattle.state.specs.declared.State.{State}
use Rattle.state.specs.declared.Held.{Held}
use Rattle.state.specs.declared.Listed.{Listed}
use Rattle.state.proofs.Finding.{Each}
use Rattle.state.specs.Lists.{pick, all, listed, holding, entry_of, phase_fits, RisingTo}
use Rattle.state.specs.Pins.{has_pin, has_pin_for}
use Rattle.judge.specs.declared.Judged.{Judged}
use Rattle.judge.specs.Fits.{next_fits}
use Rattle.judge.proofs.Fitting.{list_length, holding_length, holding_entries, holding_rising, holding_below, holding_phases}
use Rattle.judge.proofs.Rules.{fits_sound}
use Rattle.rules.specs.Call.{write, pin, unpin, ask_end, report, start_flush, fill_read, take_ticket, ask_ticket, ask_turn, ring_of, held_of}
use Rattle.rules.specs.Flush.{has_batch, sheet_for}
use Rattle.rules.specs.Fill.{longest_fill}
use Rattle.rules.specs.Known.{Known}
use Rattle.rules.specs.Refusals.{own}

-- one refusal, and what comes after it
abbrev pub or : Bool → Reason → Option Reason → Option Reason
or b why rest = pick b (Some why) rest

module _ (r : List ℕ) (x : Reading) (s : State) where
  pub own_write : (node handle offset : ℕ) (bs : List ℕ) → own (write node handle offset bs) r x s
      ≡ or (eqb node 0) NodeZero
      (or (pick (eqb (length bs) 0) true (ltb largest (length bs))) BadLength
      (or (ltb file_end (offset + length bs)) PastFileEnd
      (or (eqb s.next number_limit) NoNumber
      (or (ltb ((ring_of x).n - 1 - (ring_of x).used) (slots_of (length bs))) NoRoom None))))
  unfolding both
  own_write node handle offset bs = refl

  pub own_pin : (node : ℕ) → own (pin node) r x s ≡ or (not (has_pin 0 s.pins)) TooManyPins (or (eqb s.next number_limit) NoNumber None)
  unfolding both
  own_pin node = refl

  pub own_unpin : (number : ℕ) → own (unpin number) r x s ≡ or (not (both (ltb 0 number) (has_pin number s.pins))) NoSuchPin None
  unfolding both
  own_unpin number = refl

  pub own_end : (node : ℕ) → own (ask_end node) r x s ≡ or (eqb node 0) NodeZero None
  unfolding both
  own_end node = refl

  pub own_report : (number : ℕ) (good : Bool) → own (report number good) r x s ≡ or (not (both (ltb 0 s.flush) (eqb number s.flush))) NotTheFlush None
  unfolding both
  own_report number good = refl

  pub own_ticket : own take_ticket r x s ≡ or (eqb s.next number_limit) NoNumber None
  unfolding both
  own_ticket = refl

  pub own_ask : (ticket node : ℕ) → own (ask_ticket ticket node) r x s ≡ None
  unfolding both
  own_ask ticket node = refl

  pub own_turn : own ask_turn r x s ≡ None
  unfolding both
  own_turn = refl

  pub own_start : (node : ℕ) (buffer : List ℕ) → own (start_flush node buffer) r x s
      ≡ or (eqb node 0) NodeZero
      (or (ltb 0 s.flush) FlushUnderWay
      (or (both (has_batch node (held_of x s)) (eqb s.next number_limit)) NoNumber
      (or (both (has_batch node (held_of x s)) (ltb (length buffer) (length (sheet_for node r (ring_of x) (held_of x s))))) BadBuffer None)))
  unfolding both
  own_start node buffer = refl

  pub own_fill : (number node offset fetched : ℕ) (buffer : List ℕ) → own (fill_read number node offset fetched buffer) r x s
      ≡ or (eqb node 0) NodeZero
      (or (ltb file_end (offset + length buffer)) PastFileEnd
      (or (not (both (ltb 0 number) (has_pin_for number node s.pins))) NoSuchPin
      (or (pick (ltb (length buffer) fetched) true (ltb longest_fill (length buffer))) BadBuffer None)))
  unfolding both
  own_fill number node offset fetched buffer = refl

-- ---- what a write that isn't refused keeps

pub record Writable (g : Ring) (s : State) (node offset length : ℕ) : Type 0 where
  pub named : node ≡ 0 → ⊥
  pub some : 0 < length
  pub most : length ≤ largest
  pub end : offset + length ≤ file_end
  pub next : s.next ≡ number_limit → ⊥
  pub room : slots_of length ≤ g.n - 1 - g.used

-- a refusal that isn't given
or_none : (b : Bool) (why : Reason) (rest : Option Reason) → or b why rest ≡ None → (b ≡ false) × (rest ≡ None)
or_none true why rest e = never (cc)
or_none false why rest e = (refl, e)

pub pick_false : (a b : Bool) → pick a true b ≡ false → (a ≡ false) × (b ≡ false)
pick_false true b e = never (cc)
pick_false false b e = (refl, e)

pub writes_when : (g : Ring) (s : State) (node offset : ℕ) (bs : List ℕ) → own (write node 0 offset bs) [] (readable g []) s ≡ None → Writable g s node offset (length bs)
writes_when g s node offset bs e =
    let a = or_none _ _ _ (sym (own_write [] (readable g []) s node 0 offset bs) ∙ e) in
    let b = or_none _ _ _ a.1 in
    let c = or_none _ _ _ b.1 in
    let d = or_none _ _ _ c.1 in
    let f = or_none _ _ _ d.1 in
    let l = pick_false _ _ b.0 in
    let n = eqb-false (length bs) 0 l.0 in
    record {
      named = eqb-false node 0 a.0;
      some = omega (arith, n);
      most = ltb-false largest (length bs) l.1;
      end = ltb-false file_end (offset + length bs) c.0;
      next = eqb-false s.next number_limit d.0;
      room = ltb-false (g.n - 1 - g.used) (slots_of (length bs)) f.0;
    }

-- ---- what is known of ring, state and held writes

pub next_facts : (next flush : ℕ) → next_fits next flush ≡ true → (flush < next) × (next ≤ number_limit)
unfolding next_fits
next_facts next flush e = (ltb-true _ _ (both_left _ _ e), leb-true _ _ (both_right (ltb flush next) _ e))

pub record Sure (r : List ℕ) (s : State) (g : Ring) (count : ℕ) (hs : List Held) : Type 0 where
  pub sized : Sized r g.n
  pub head : g.head < g.n
  pub free : g.used < g.n
  pub few : count ≤ most_entries
  pub long : length hs ≡ count
  -- entries take a slot at least
  pub slots : slots_used (map entry_of hs) ≡ g.used
  pub most : count ≤ g.used
  pub next : s.next ≤ number_limit
  pub flush : s.flush < s.next
  pub below : RisingTo s.next 0 hs
  pub limit : RisingTo number_limit 0 hs
  pub phases : all phase_fits hs ≡ true
  -- entries are valid and start in the ring's slots
  pub inside : Each (λ h. InRing g.n h.entry) hs

holding_inside : (n : ℕ) (es : List Entry) (ws : List Listed) → AllInRing n es → Each (λ h. InRing n h.entry) (holding es ws)
holding_inside n [] ws o = tt
holding_inside n (e ∷ es) [] o = tt
holding_inside n (e ∷ es) (w ∷ ws) o = (o.0, holding_inside n es ws o.1)

pub sure : (r : List ℕ) (s : State) (j : Judged) → Known r s j → Sure r s j.ring (length (items j.held)) (items j.held)
sure r s j k =
    let es = k.entries in
    let f = readable_facts r j.ring es k.reading in
    let o = fits_sound es s k.fit in
    let l = list_length s.next es (listed s) o.list in
    let n = next_facts s.next s.flush o.next in
    let m = used_length es in
    let u = f.used in
    let h = holding_length es (listed s) l in
    let e = f.few in
    rw k.held
    (record {
      sized = f.sized;
      head = f.head;
      free = f.free;
      few = omega arith;
      long = refl;
      slots = ap slots_used (holding_entries es (listed s) l) ∙ sym u;
      most = omega arith;
      next = n.1;
      flush = n.0;
      below = holding_below s.next es (listed s) 0 f.rising o.list;
      limit = holding_rising es (listed s) 0 f.rising;
      phases = holding_phases s.next es (listed s) o.list;
      inside = holding_inside j.ring.n es (listed s) f.inside;
    })
