-- "State fits when". Document 01, "When the box says no", last paragraph, clause by clause.
use Rattle.std.specs.Prelude.{ℕ, Bool, true, false, not, List, [], ◌∷◌, length, eqb, ltb, leb}
use Rattle.layout.specs.Sizes.{number_limit}
use Rattle.layout.specs.Bytes.{both}
use Rattle.walk.specs.declared.Entry.{Entry}
use Rattle.state.specs.declared.Listed.{Listed}
use Rattle.state.specs.declared.Pin.{Pin}
use Rattle.state.specs.declared.State.{State}
use Rattle.state.specs.declared.Held.{Held}
use Rattle.state.specs.Lists.{pick, any, all, pairs, unflushed, in_flight, flushed, gone, listed, holding}
use Rattle.state.specs.Pins.{is_due}

-- the ring's number; next is "above every write" number; and it is Unflushed, In flight or Flushed
unfoldable pub listed_fits : ℕ → ℕ → Listed → Bool
listed_fits next number w = both (eqb w.number number) (both (ltb w.number next) (ltb w.phase gone))

-- "its listed numbers are the ring's in order"
unfoldable pub list_fits : ℕ → List Entry → List Listed → Bool
list_fits next [] [] = true
list_fits next [] (w ∷ ws) = false
list_fits next (e ∷ es) [] = false
list_fits next (e ∷ es) (w ∷ ws) = both (listed_fits next e.number w) (list_fits next es ws)

-- "next is 1 to 2^62 and above every .. flush number"; 0 is no flush
unfoldable pub next_fits : ℕ → ℕ → Bool
next_fits next flush = both (ltb flush next) (leb next number_limit)

-- next is above every pin number; "their numbers differ"; number 0 is no pin
unfoldable pub pins_differ : Pin → Pin → Bool
pins_differ p q = pick (eqb q.number 0) true (not (eqb p.number q.number))

-- what that asks of one pin, beside those before it
unfoldable pub pin_fits : ℕ → List Pin → Pin → Bool
pin_fits next ps p = both (ltb p.number next) (all (λ q. pins_differ q p) ps)

unfoldable pub pins_fit : ℕ → List Pin → Bool
pins_fit next ps = both (all (λ p. ltb p.number next) ps) (pairs pins_differ ps)

-- of two writes of one node, the earlier first: "for no node does a Flushed write follow one that isn't"; those In flight "are the oldest
-- not Flushed", so none follows an Unflushed one
unfoldable pub phases_fit : ℕ → ℕ → Bool
phases_fit p q = both (not (both (not (eqb p flushed)) (eqb q flushed))) (not (both (eqb p unflushed) (eqb q in_flight)))

-- of two writes of two nodes: those In flight are "of one node"
unfoldable pub nodes_fit : ℕ → ℕ → Bool
nodes_fit p q = not (both (eqb p in_flight) (eqb q in_flight))

unfoldable pub pair_fits : Held → Held → Bool
pair_fits h k = pick (eqb h.entry.node k.entry.node) (phases_fit h.phase k.phase) (nodes_fit h.phase k.phase)

abbrev pub is_in_flight : Held → Bool
is_in_flight h = eqb h.phase in_flight

-- "In flight writes exist exactly if a flush number does"
unfoldable pub flight_fits : ℕ → List Held → Bool
flight_fits flush hs = pick (eqb flush 0) (not (any is_in_flight hs)) (any is_in_flight hs)

-- "the head entry isn't due to leave"
unfoldable pub head_stays : List Pin → List Held → Bool
head_stays ps [] = true
head_stays ps (h ∷ hs) = not (is_due ps h)

abbrev pub held_fits : State → List Held → Bool
held_fits s hs = both (pairs pair_fits hs) (both (flight_fits s.flush hs) (head_stays s.pins hs))

unfoldable pub fits : List Entry → State → Bool
fits es s =
    both (eqb s.count (length es))
    (both (list_fits s.next es (listed s))
    (both (next_fits s.next s.flush)
    (both (pins_fit s.next s.pins)
    (held_fits s (holding es (listed s))))))
