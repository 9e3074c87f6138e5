-- What each return of the plain calls comes to, by the table's order and the outcome.
use Rattle.std.specs.Prelude.{Ok}
use Prim.Native.Nat.{ℕ, ◌+◌, ◌<◌, ◌≤◌}
use mathlib.Core.Path.{◌≡◌, refl, sym, ◌∙◌}
use mathlib.Core.Bool.{Bool, true}
use mathlib.Core.List.{List, [], ◌∷◌}
use borrow.Author.Tests.{eq-eqb, ne_eqb}
use lib.ListN.{length, set}
use Rattle.reason.specs.declared.Reason.TheVariants.{NodeZero, NoNumber, TooManyPins}
use Rattle.layout.specs.Sizes.{number_limit}
use Rattle.layout.specs.Rack.{items}
use Rattle.walk.specs.Walk.{readable, reading_of}
use Rattle.state.specs.declared.State.{State}
use Rattle.state.specs.declared.Held.{Held}
use Rattle.state.specs.Lists.{with_next, with_pins, RisingTo, all, phase_fits}
use Rattle.state.specs.Pins.{mark_of, pin_place}
use Rattle.state.specs.Asks.{cached_end, turn_of, ticket_done}
use Rattle.state.proofs.PinTable.{place_none, place_some}
use Rattle.judge.specs.declared.Judged.{Judged}
use Rattle.rules.specs.Call.{pin, ask_end, take_ticket, ask_ticket, ask_turn}
use Rattle.rules.specs.Outcome.{outcome_by, says, refuses, bit, outcome}
use Rattle.rules.specs.Known.{Known}
use Rattle.judge.specs.Answers.{judged_of}
use Rattle.rules.proofs.Judging.{Judges, known, judge_passes}
use Rattle.rules.proofs.Owning.{sure, own_pin, own_end, own_ticket, own_ask, own_turn}

pub judges_ticket : Judges take_ticket
judges_ticket = record { reads = refl; fits = refl }

pub judges_ask : (ticket node : ℕ) → Judges (ask_ticket ticket node)
judges_ask ticket node = record { reads = refl; fits = refl }

pub judges_turn : Judges ask_turn
judges_turn = record { reads = refl; fits = refl }

pub judges_end : (node : ℕ) → Judges (ask_end node)
judges_end node = record { reads = refl; fits = refl }

pub judges_pin : (node : ℕ) → Judges (pin node)
judges_pin node = record { reads = refl; fits = refl }

-- the judge lets the call pass, and hs are the held writes
module _ (r : List ℕ) (s : State) (j : Judged) (o : Ok j ≡ judged_of (reading_of r) s) where
  k : Known r s j
  k = known r s j o

  pub next_limit : s.next ≤ number_limit
  next_limit = (sure r s j k).next

  module _ (hs : List Held) (h : hs ≡ items j.held) where
    pub below : RisingTo s.next 0 hs
    below = rw h (sure r s j k).below

    pub limit : RisingTo number_limit 0 hs
    limit = rw h (sure r s j k).limit

    pub phases : all phase_fits hs ≡ true
    phases = rw h (sure r s j k).phases

  -- ---- take a ticket

  pub ticket_none : s.next ≡ number_limit → outcome_by (refuses NoNumber) s r ≡ outcome take_ticket r s
  ticket_none e = sym (judge_passes take_ticket judges_ticket r s j k ∙ rw (own_ticket r (readable j.ring k.entries) s, eq-eqb s.next number_limit e))

  pub ticket_done_law : (s.next ≡ number_limit → ⊥) → outcome_by (says (s.next ∷ [])) (with_next s (s.next + 1)) r ≡ outcome take_ticket r s
  ticket_done_law e = sym (judge_passes take_ticket judges_ticket r s j k ∙ rw (own_ticket r (readable j.ring k.entries) s, ne_eqb s.next number_limit e))

  -- ---- ask a ticket

  pub ask_done : (ticket node : ℕ) (b : Bool) → (hs : List Held) → hs ≡ items j.held → b ≡ ticket_done ticket node hs
      → outcome_by (says (bit b ∷ [])) s r ≡ outcome (ask_ticket ticket node) r s
  ask_done ticket node b hs h e = sym (judge_passes (ask_ticket ticket node) (judges_ask ticket node) r s j k ∙ rw (own_ask r (readable j.ring k.entries) s ticket node, ← h, ← e))

  -- ---- whose turn

  pub turn_done : (n : ℕ) (hs : List Held) → hs ≡ items j.held → n ≡ turn_of hs → outcome_by (says (n ∷ [])) s r ≡ outcome ask_turn r s
  turn_done n hs h e = sym (judge_passes ask_turn judges_turn r s j k ∙ rw (own_turn r (readable j.ring k.entries) s, ← h, ← e))

  -- ---- cached end

  pub end_zero : (node : ℕ) → node ≡ 0 → outcome_by (refuses NodeZero) s r ≡ outcome (ask_end node) r s
  end_zero node e = sym (judge_passes (ask_end node) (judges_end node) r s j k ∙ rw (own_end r (readable j.ring k.entries) s node, eq-eqb node 0 e))

  pub end_done : (node n : ℕ) → (node ≡ 0 → ⊥) → (hs : List Held) → hs ≡ items j.held → n ≡ cached_end node hs → outcome_by (says (n ∷ [])) s r ≡ outcome (ask_end node) r s
  end_done node n z hs h e = sym (judge_passes (ask_end node) (judges_end node) r s j k ∙ rw (own_end r (readable j.ring k.entries) s node, ne_eqb node 0 z, ← h, ← e))

  -- ---- pin

  pub pin_full : (node : ℕ) → pin_place 0 s.pins ≡ length s.pins → outcome_by (refuses TooManyPins) s r ≡ outcome (pin node) r s
  pin_full node z = sym (judge_passes (pin node) (judges_pin node) r s j k ∙ rw (own_pin r (readable j.ring k.entries) s node, place_none s.pins 0 z))

  module _ (node place : ℕ) (e : (place ≡ pin_place 0 s.pins) × (place < length s.pins)) where
    pub pin_number : s.next ≡ number_limit → outcome_by (refuses NoNumber) s r ≡ outcome (pin node) r s
    pin_number n =
        sym (judge_passes (pin node) (judges_pin node) r s j k ∙ rw (own_pin r (readable j.ring k.entries) s node, place_some s.pins 0 place e.0 e.1, eq-eqb s.next number_limit n))

    pub pin_done_law : (s.next ≡ number_limit → ⊥) → (mark : ℕ) (hs : List Held) → hs ≡ items j.held → mark ≡ mark_of node s.next hs
        → outcome_by (says (s.next ∷ [])) (with_next (with_pins s (set s.pins place (record { number = s.next; mark = mark; node = node }))) (s.next + 1)) r
        ≡ outcome (pin node) r s
    pin_done_law n mark hs h m =
        sym (judge_passes (pin node) (judges_pin node) r s j k
        ∙ rw (own_pin r (readable j.ring k.entries) s node, place_some s.pins 0 place e.0 e.1, ne_eqb s.next number_limit n, ← h, ← m, ← e.0))
