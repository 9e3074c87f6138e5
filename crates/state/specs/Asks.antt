-- What is asked of the held writes. Document 01, "Moves": whose turn ("Flush"), cached end ("Fill"), tickets ("Ticket").
use Rattle.std.specs.Prelude.{ℕ, ◌+◌, Bool, not, List, eqb, ltb, leb}
use Rattle.layout.specs.Bytes.{both}
use Rattle.state.specs.declared.Held.{Held}
use Rattle.state.specs.declared.Query.{Query}
use Rattle.state.specs.Lists.{pick, any, carry, unflushed, those}
use Rattle.state.specs.Pins.{reaches, waits_in, lowest, value_or}

-- "the node of the lowest-numbered Unflushed write, or 0"
abbrev pub is_unflushed : Held → Bool
is_unflushed h = eqb h.phase unflushed

unfoldable pub turn_of : List Held → ℕ
turn_of hs = value_or (λ h. h.entry.node) 0 (lowest (those is_unflushed hs))

-- "no write in reach numbered below t is Unflushed or In flight"
abbrev pub waits_for : ℕ → ℕ → Held → Bool
waits_for t node h = both (ltb h.entry.number t) (waits_in node h)

unfoldable pub ticket_done : ℕ → ℕ → List Held → Bool
ticket_done t node hs = not (any (waits_for t node) hs)

-- "the largest offset + length in the ring for the node, 0 if none"
abbrev pub end_of : Held → ℕ
end_of h = h.entry.offset + h.entry.length

abbrev pub larger : ℕ → ℕ → ℕ
larger a b = pick (leb a b) b a

abbrev pub lesser : ℕ → ℕ → ℕ
lesser a b = pick (leb a b) a b

-- the larger of an end and a write's, where it is the node's
unfoldable pub later_end : ℕ → ℕ → Held → ℕ
later_end node e h = pick (eqb h.entry.node node) (larger e (end_of h)) e

abbrev pub cached_end : ℕ → List Held → ℕ
cached_end node hs = carry (later_end node) 0 hs

-- ---- what the code's one search looks for: in reach, numbered below, and in a state from low to high
unfoldable pub seeks : Query → Held → Bool
seeks q h =
    both (reaches q.node h)
    (both (ltb h.entry.number q.below)
    (both (leb q.low h.phase)
    (leb h.phase q.high)))
