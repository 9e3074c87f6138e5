-- Unpins and good reports, after which what is due leaves: the world and the tale still agree.
use Rattle.std.specs.Prelude.{Option, None, Some}
use Prim.Native.Nat.{ℕ, ◌<◌}
use mathlib.Core.Path.{◌≡◌, refl, sym, ap, ◌∙◌, subst}
use mathlib.Core.Bool.{true, false, not}
use mathlib.Core.List.{List, [], ◌++◌, map}
use lib.ListN.{length, set}
use lib.Dec.{eqb, ltb}
use Rattle.layout.specs.Bytes.{round}
use Rattle.layout.proofs.Tests.{both_right}
use Rattle.walk.specs.declared.Entry.{Entry}
use Rattle.walk.specs.Walk.{Write, write_of, slots_used}
use Rattle.store.specs.Store.{head_moved}
use Rattle.ring.specs.Ring.{slot_after, shrunk}
use Rattle.state.specs.declared.State.{State}
use Rattle.state.specs.declared.Pin.{Pin}
use Rattle.state.specs.declared.Held.{Held}
use Rattle.state.specs.Lists.{all, pairs, no_pin, listed, holding, entry_of, with_flush, with_pins, with_held, those}
use Rattle.state.specs.Moves.{good, bad, reported}
use Rattle.state.specs.Pins.{staying, slots_left, pin_place}
use Rattle.state.proofs.Finding.{Each, each_right, each_join}
use Rattle.judge.specs.Fits.{pins_differ, pins_fit}
use Rattle.sheet.specs.Sheet.{puts_in}
use Rattle.rules.specs.Call.{Call, unpins, reports}
use Rattle.rules.proofs.Fit.{held_again}
use Rattle.rules.proofs.Standing.{stands_unpin, stands_good, stands_bad}
use Rattle.history.specs.World.{World}
use Rattle.history.specs.Tale.{Tale, among, numbers_of, leave, tell_by}
use Rattle.history.proofs.Seeing.{seen, goes, gone_of, rest_of, reported_good_seen, reported_bad_seen}
use Rattle.history.proofs.Pinning.{PinsAre, pins_removed}
use Rattle.history.proofs.Shores.{shore_leaves, shore_good, waiting, wait_same}
use Rattle.history.proofs.Agreeing.{Agrees, SheetOut, OutFits}
use Rattle.history.proofs.Changing.{stands_as}
use Rattle.history.proofs.Reported.{batch_stands, rest_waits, others_wait}
use Rattle.history.proofs.Leaving as left

module _ (files : ℕ → List ℕ) (W : World) (t : Tale) (k : Agrees files W t) where
  abbrev r : List ℕ
  r = W.ring

  abbrev s : State
  s = W.state

  abbrev es : List Entry
  es = k.stands.entries

  abbrev hs : List Held
  hs = holding k.stands.entries (listed W.state)

  abbrev f : ℕ → ℕ
  f = round W.ring k.stands.ring.n

  -- ---- an unpin

  module _ (c : Call) (some_number : 0 < c.number) (h : pin_place c.number s.pins < length s.pins) where
    abbrev i : ℕ
    i = pin_place c.number s.pins

    abbrev s₁ : State
    s₁ = with_pins s (set s.pins i no_pin)

    abbrev live : List Pin
    live = those (λ p. not (eqb p.number c.number)) t.live

    differ : pairs pins_differ s.pins ≡ true
    unfolding pins_fit
    differ = both_right (all (λ p. ltb p.number s.next) s.pins) _ k.stands.fit.pins

    pins_left : PinsAre s₁.pins live
    pins_left = pins_removed s.pins t.live c.number some_number i refl h differ k.pinned

    abbrev b : List ℕ
    b = numbers_of t.batch

    abbrev gone : List Write
    gone = map (write_of f) (gone_of (goes f t.good live) es)

    split : t.held ≡ gone ++ leave t.good live t.held
    split =
        sym k.written ∙ left.past_split r k.stands.ring es k.stands.reading t.good b hs k.told s₁ live pins_left
        ∙ ap (λ ws. gone ++ leave t.good live ws) k.written

    sure_gone : Each (λ w. among w.number t.good ≡ true) gone
    sure_gone = left.past_good r k.stands.ring es k.stands.reading t.good b hs k.told s₁ live pins_left

    out_left : (out : Option (List ℕ)) → OutFits out W.shore t → OutFits out W.shore (tell_by unpins c [] t)
    out_left None o = o
    out_left (Some sheet) o = record {
      node = o.node;
      named = o.named;
      is = o.is;
      ends = o.ends;
      rest = o.rest;
      front = sym (wait_same t.good o.node gone (leave t.good live t.held) sure_gone) ∙ ap (waiting t.good o.node) (sym split) ∙ o.front;
      apart = o.apart;
      own = each_right _ gone (leave t.good live t.held) (each_as _ split o.own);
      stood = o.stood;
    }
      where
        each_as : (P : Write → Type 0) {xs ys : List Write} → xs ≡ ys → Each P xs → Each P ys
        each_as P e o = subst (Each P) e o

    pub agrees_unpin : Agrees files (record { ring = head_moved r (slot_after k.stands.ring (slots_left s₁.pins hs)); state = with_held s₁ (staying s₁.pins hs); shore = W.shore; out = W.out }) (tell_by unpins c [] t)
    agrees_unpin = record {
      stands = stands_as _ _ (shrunk k.stands.ring (slots_used (gone_of (goes f t.good live) es))) (rest_of (goes f t.good live) es)
          (left.past_reads r k.stands.ring es k.stands.reading t.good b hs k.told s₁ live pins_left) (stands_unpin r s k.stands i h);
      written = left.past_holds r k.stands.ring es k.stands.reading t.good b hs k.told s₁ live pins_left ∙ ap (leave t.good live) k.written;
      told = left.past_told r k.stands.ring es k.stands.reading t.good b hs k.told s₁ live pins_left;
      pinned = pins_left;
      below_good = k.below_good;
      below_batch = k.below_batch;
      on_shore = shore_leaves files W.shore t.accepted t.held t.good k.on_shore gone (leave t.good live t.held) split sure_gone;
      flying = k.flying;
      out_fits = out_left W.out k.out_fits;
    }

  -- ---- a report of the flush under way

  module _ (sheet : List ℕ) (o : SheetOut sheet W.shore t) where
    -- bad: the batch waits again
    pub agrees_bad : (c : Call) → c.good ≡ false → Agrees files (record { ring = r; state = with_held (with_flush s 0) (map (reported bad) hs); shore = W.shore; out = None }) (tell_by reports c [] t)
    agrees_bad c z = rw z (record {
      stands = stands_as r _ k.stands.ring es k.stands.reading (stands_bad r s k.stands);
      written = k.written;
      told = told_bad;
      pinned = k.pinned;
      below_good = k.below_good;
      below_batch = tt;
      on_shore = k.on_shore;
      flying = refl;
      out_fits = refl;
    })
      where
        moved : map (reported bad) hs ≡ map (seen t.good []) es
        moved = ap (map (reported bad)) k.told ∙ reported_bad_seen t.good (numbers_of t.batch) es

        told_bad : holding es (listed (with_held (with_flush s 0) (map (reported bad) hs))) ≡ map (seen t.good []) es
        told_bad =
            ap (λ xs. holding xs (listed (with_held (with_flush s 0) (map (reported bad) hs)))) (sym (ap (map entry_of) moved ∙ left.seen_entries t.good [] es))
            ∙ held_again (with_flush s 0) (map (reported bad) hs) ∙ moved

    -- good: the batch is good, and what is due leaves
    abbrev all_good : List ℕ
    all_good = t.good ++ numbers_of t.batch

    abbrev s₀ : State
    s₀ = with_flush s 0

    abbrev hs₀ : List Held
    hs₀ = map (reported good) hs

    moved_good : hs₀ ≡ map (seen all_good []) es
    moved_good = ap (map (reported good)) k.told ∙ reported_good_seen t.good (numbers_of t.batch) es

    abbrev went : List Write
    went = map (write_of f) (gone_of (goes f all_good t.live) es)

    went_split : t.held ≡ went ++ leave all_good t.live t.held
    went_split =
        sym k.written ∙ left.past_split r k.stands.ring es k.stands.reading all_good [] hs₀ moved_good s₀ t.live k.pinned
        ∙ ap (λ ws. went ++ leave all_good t.live ws) k.written

    pub agrees_good : (c : Call) → c.good ≡ true → ((k : ℕ) → k < length (puts_in sheet) → among k t.landed ≡ true)
        → Agrees files (record { ring = head_moved r (slot_after k.stands.ring (slots_left s.pins hs₀)); state = with_held s₀ (staying s.pins hs₀); shore = W.shore; out = None }) (tell_by reports c [] t)
    agrees_good c z whole = rw z (record {
      stands = stands_as _ _ (shrunk k.stands.ring (slots_used (gone_of (goes f all_good t.live) es))) (rest_of (goes f all_good t.live) es)
          (left.past_reads r k.stands.ring es k.stands.reading all_good [] hs₀ moved_good s₀ t.live k.pinned) (stands_good r s k.stands);
      written = left.past_holds r k.stands.ring es k.stands.reading all_good [] hs₀ moved_good s₀ t.live k.pinned ∙ ap (leave all_good t.live) k.written;
      told = left.past_told r k.stands.ring es k.stands.reading all_good [] hs₀ moved_good s₀ t.live k.pinned;
      pinned = k.pinned;
      below_good = each_join _ t.good (numbers_of t.batch) k.below_good k.below_batch;
      below_batch = tt;
      on_shore =
          shore_leaves files W.shore t.accepted t.held all_good
          (shore_good files W.shore t.accepted t.held t.good k.on_shore o.node t.batch all_good
          (o.front ∙ ap (◌++◌ t.batch) (sym (rest_waits sheet W.shore t o))) (others_wait sheet W.shore t o) (batch_stands sheet W.shore t o whole))
          went (leave all_good t.live t.held) went_split
          (left.past_good r k.stands.ring es k.stands.reading all_good [] hs₀ moved_good s₀ t.live k.pinned);
      flying = refl;
      out_fits = refl;
    })
