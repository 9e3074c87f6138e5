-- Pins, marks and letting go. Document 01, "Moves", paragraphs "Pins" and "Letting go".
use Rattle.std.specs.Prelude.{ℕ, Bool, true, not, List, [], ◌∷◌, map, eqb, leb, Option, None, Some}
use Rattle.layout.specs.Bytes.{both}
use Rattle.walk.specs.Walk.{slots_used}
use Rattle.state.specs.declared.Pin.{Pin}
use Rattle.state.specs.declared.Held.{Held}
use Rattle.state.specs.Lists.{pick, any, those, place_of, flushed, entry_of}

-- "for one node, or for all (node 0)"
abbrev pub reaches : ℕ → Held → Bool
reaches node h = pick (eqb node 0) true (eqb h.entry.node node)

abbrev pub is_flushed : Held → Bool
is_flushed h = eqb h.phase flushed

-- in reach and not yet Flushed
abbrev pub waits_in : ℕ → Held → Bool
waits_in node h = both (reaches node h) (not (is_flushed h))

-- ---- the mark

-- the one with the least number
abbrev pub lower : Held → Option Held → Option Held
lower h None = Some h
lower h (Some k) = pick (leb h.entry.number k.entry.number) (Some h) (Some k)

abbrev pub lowest : List Held → Option Held
lowest [] = None
lowest (h ∷ hs) = lower h (lowest hs)

-- a value of it, or another where there is none
abbrev pub value_or : (Held → ℕ) → ℕ → Option Held → ℕ
value_or f other None = other
value_or f other (Some h) = f h

abbrev pub number_of_held : Held → ℕ
number_of_held h = h.entry.number

-- "the least number among writes in its reach that are not yet Flushed, or its own number if there are none"
unfoldable pub mark_of : ℕ → ℕ → List Held → ℕ
mark_of node own hs = value_or number_of_held own (lowest (those (waits_in node) hs))

-- ---- letting go

abbrev pub is_live : Pin → Bool
is_live p = not (eqb p.number 0)

-- a live pin in whose reach the write lies, with a mark at or below its number
unfoldable pub keeps : Held → Pin → Bool
keeps h p = both (is_live p) (both (reaches p.node h) (leb p.mark h.entry.number))

-- "Flushed and no pin in whose reach it lies has a mark at or below its number"
unfoldable pub is_due : List Pin → Held → Bool
is_due ps h = both (is_flushed h) (not (any (keeps h) ps))

-- "while the head entry is" due "it leaves": those that leave, and those that stay
unfoldable pub leaving : List Pin → List Held → List Held
leaving ps [] = []
leaving ps (h ∷ hs) = pick (is_due ps h) (h ∷ leaving ps hs) []

unfoldable pub staying : List Pin → List Held → List Held
staying ps [] = []
staying ps (h ∷ hs) = pick (is_due ps h) (staying ps hs) (h ∷ hs)

-- the slots of those that leave: head moves on past them
abbrev pub slots_left : List Pin → List Held → ℕ
slots_left ps hs = slots_used (map entry_of (leaving ps hs))

-- ---- the table of pins

-- the place of the first record with that number
abbrev pub pin_place : ℕ → List Pin → ℕ
pin_place number ps = place_of (λ p. eqb p.number number) ps

-- some record has that number
abbrev pub has_pin : ℕ → List Pin → Bool
has_pin number ps = any (λ p. eqb p.number number) ps

-- and is for that very node
abbrev pub has_pin_for : ℕ → ℕ → List Pin → Bool
has_pin_for number node ps = any (λ p. both (eqb p.number number) (eqb p.node node)) ps
