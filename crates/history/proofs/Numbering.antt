-- Tickets and pins: a number is taken, and the world and the tale still agree.
use Rattle.std.specs.Prelude.{Option, None, Some}
use Prim.Native.Nat.{ℕ, ◌+◌, ◌≤◌, ◌<◌}
use mathlib.Core.Path.{◌≡◌, refl, sym, ap, ◌∙◌}
use mathlib.Core.Bool.{true}
use mathlib.Core.List.{List, [], ◌∷◌, ◌++◌}
use native.Mathlib.Omega.{arith}
use borrow.Author.Tests.{ne_eqb}
use lib.ListN.{length, get_or, set}
use Rattle.layout.specs.Sizes.{number_limit}
use Rattle.layout.specs.Bytes.{round}
use Rattle.walk.specs.declared.Entry.{Entry}
use Rattle.state.specs.declared.State.{State}
use Rattle.state.specs.declared.Held.{Held}
use Rattle.state.specs.Lists.{no_pin, listed, holding, with_next, with_pins}
use Rattle.state.specs.Pins.{is_live, mark_of}
use Rattle.state.proofs.Finding.{Each, each_by}
use Rattle.sheet.specs.Sheet.{sheet_of}
use Rattle.rules.specs.Call.{Call, pins, takes_ticket}
use Rattle.rules.specs.Outcome.{new_pin}
use Rattle.rules.proofs.Owning.{next_facts}
use Rattle.rules.proofs.Standing.{stands_ticket, stands_pin, hs_fit}
use Rattle.history.specs.World.{World}
use Rattle.history.specs.Tale.{Tale, numbers_of, pin_of, tell_by}
use Rattle.history.proofs.Seeing.{mark_seen, below_seen}
use Rattle.history.proofs.Pinning.{PinsAre, pins_added}
use Rattle.history.proofs.Agreeing.{Agrees, OutFits}
use Rattle.history.proofs.Changing.{stands_as}

module _ (files : ℕ → List ℕ) (W : World) (t : Tale) (k : Agrees files W t) where
  abbrev r : List ℕ
  r = W.ring

  abbrev s : State
  s = W.state

  abbrev es : List Entry
  es = k.stands.entries

  abbrev hs : List Held
  hs = holding k.stands.entries (listed W.state)

  abbrev f : ℕ → ℕ
  f = round W.ring k.stands.ring.n

  grows : (ks : List ℕ) → Each (λ n. n < s.next) ks → Each (λ n. n < s.next + 1) ks
  grows ks o = each_by _ _ ks (λ n h. omega arith) o

  same_out : (u : Tale) → u.batch ≡ t.batch → u.good ≡ t.good → u.held ≡ t.held → u.landed ≡ t.landed → (out : Option (List ℕ)) → OutFits out W.shore t → OutFits out W.shore u
  same_out u b g h l None o = b ∙ o
  same_out u b g h l (Some sheet) o =
      record {
        node = o.node;
        named = o.named;
        is = o.is ∙ ap (sheet_of o.node) (sym b);
        ends = rw b o.ends;
        rest = o.rest;
        front = rw (b, g, h) o.front;
        apart = rw b o.apart;
        own = rw (b, h) o.own;
        stood = rw l o.stood;
      }

  -- ---- a number is taken

  pub agrees_ticket : (c : Call) → s.next + 1 ≤ number_limit → Agrees files (record { ring = r; state = with_next s (s.next + 1); shore = W.shore; out = W.out }) (tell_by takes_ticket c (s.next ∷ []) t)
  agrees_ticket c l = record {
    stands = stands_as r (with_next s (s.next + 1)) k.stands.ring es k.stands.reading (stands_ticket r s k.stands l);
    written = k.written;
    told = k.told;
    pinned = k.pinned;
    below_good = grows t.good k.below_good;
    below_batch = grows (numbers_of t.batch) k.below_batch;
    on_shore = k.on_shore;
    flying = k.flying;
    out_fits = same_out (tell_by takes_ticket c (s.next ∷ []) t) refl refl refl refl W.out k.out_fits;
  }

  -- ---- a pin, with the mark that the tale tells

  module _ (c : Call) (l : s.next + 1 ≤ number_limit) (i : ℕ) (h : i < length s.pins) (z : (get_or s.pins i no_pin).number ≡ 0) where
    same_pin_law : new_pin c.node s hs ≡ pin_of t s.next c.node
    same_pin_law =
        let o = below_seen s.next t.good (numbers_of t.batch) es (rw k.told at (hs_fit r s k.stands).numbers) in
        let m : mark_of c.node s.next hs ≡ (pin_of t s.next c.node).mark =
        ap (mark_of c.node s.next) k.told ∙ rw (← k.written) (mark_seen f t.good (numbers_of t.batch) c.node s.next es o) in
        ap (λ m. record { number = s.next; mark = m; node = c.node }) m

    lives : is_live (new_pin c.node s hs) ≡ true
    lives =
        let b = (next_facts s.next s.flush k.stands.fit.next).0 in
        rw (ne_eqb s.next 0 (λ e. omega arith))

    pub agrees_pin : Agrees files (record { ring = r; state = with_next (with_pins s (set s.pins i (new_pin c.node s hs))) (s.next + 1); shore = W.shore; out = W.out }) (tell_by pins c (s.next ∷ []) t)
    agrees_pin = record {
      stands = stands_as r _ k.stands.ring es k.stands.reading (stands_pin r s k.stands l i h z (new_pin c.node s hs) refl);
      written = k.written;
      told = k.told;
      pinned = ap_pins (sym same_pin_law) (pins_added s.pins t.live i h z (new_pin c.node s hs) lives k.pinned);
      below_good = grows t.good k.below_good;
      below_batch = grows (numbers_of t.batch) k.below_batch;
      on_shore = k.on_shore;
      flying = k.flying;
      out_fits = same_out (tell_by pins c (s.next ∷ []) t) refl refl refl refl W.out k.out_fits;
    }
      where
        ap_pins : pin_of t s.next c.node ≡ new_pin c.node s hs → PinsAre (set s.pins i (new_pin c.node s hs)) (t.live ++ new_pin c.node s hs ∷ [])
            → PinsAre (set s.pins i (new_pin c.node s hs)) (t.live ++ pin_of t s.next c.node ∷ [])
        ap_pins e p = rw e p
