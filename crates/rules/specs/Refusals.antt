-- When the box says no: each row of the table, and the order. Document 01, "When the box says no".
use Rattle.std.specs.Prelude.{ℕ, ◌+◌, ◌-◌, Bool, true, false, not, List, [], ◌∷◌, length, drop, eqb, ltb, Option, None, Some}
use Rattle.reason.specs.declared.Reason.{Reason}
use Rattle.reason.specs.declared.Reason.TheVariants.{NodeZero, BadLength, PastFileEnd, NoRoom, NoNumber, FlushUnderWay, NotTheFlush, Unreadable, NoSuchPin, TooManyPins, BadBuffer, StateUnfit}
use Rattle.layout.specs.Sizes.{largest, file_end, number_limit, slots_of}
use Rattle.layout.specs.Bytes.{both}
use Rattle.walk.specs.Walk.{Reading, readable, unreadable, reading_of}
use Rattle.store.specs.Store.{is_makeable}
use Rattle.state.specs.declared.State.{State}
use Rattle.state.specs.Lists.{pick}
use Rattle.state.specs.Pins.{has_pin, has_pin_for}
use Rattle.judge.specs.Fits.{fits}
use Rattle.rules.specs.Call.{Call, makes, reopens, writes, pins, unpins, asks_end, reports, starts, fills, takes_ticket, is_one, ring_of, held_of}
use Rattle.rules.specs.Flush.{has_batch, sheet_for}
use Rattle.rules.specs.Fill.{longest_fill}

-- ---- the table: whether a row applies to a call on a ring of those bytes, read as x, with that state

-- 8: "the ring isn't readable"
abbrev is_unreadable : Reading → Bool
is_unreadable unreadable = true
is_unreadable (readable g es) = false

-- 12: "state doesn't fit the ring"
abbrev is_unfit : Reading → State → Bool
is_unfit unreadable s = false
is_unfit (readable g es) s = not (fits es s)

-- 3: a fill's length is its buffer's
abbrev length_of : Call → ℕ
length_of c = pick (is_one c (fills ∷ [])) (length c.buffer) (length c.bytes)

-- 5: "a number is needed": "nothing to flush" needs none, and so is answered before 5
abbrev pub needs_number : Call → Reading → State → Bool
needs_number c x s = pick (is_one c (starts ∷ [])) (has_batch c.node (held_of x s)) (is_one c (writes ∷ pins ∷ takes_ticket ∷ []))

-- 9: a live pin of that number, for a fill "for that very node"; 0 is no pin's number
abbrev names_pin : Call → State → Bool
names_pin c s = both (ltb 0 c.number) (pick (is_one c (fills ∷ [])) (has_pin_for c.number c.node s.pins) (has_pin c.number s.pins))

-- 11: what is wrong with a buffer
abbrev is_short : Call → List ℕ → Reading → State → Bool
is_short c r x s = both (has_batch c.node (held_of x s)) (ltb (length c.buffer) (length (sheet_for c.node r (ring_of x) (held_of x s))))

abbrev is_off : Call → Bool
is_off c = pick (ltb (length c.buffer) c.fetched) true (ltb longest_fill (length c.buffer))

abbrev pub row : Reason → Call → List ℕ → Reading → State → Bool
-- 1: write, fill, cached end or flush start with node 0
row NodeZero c r x s = both (is_one c (writes ∷ fills ∷ asks_end ∷ starts ∷ [])) (eqb c.node 0)
-- 2: write of length 0 or over 4,096
row BadLength c r x s = both (is_one c (writes ∷ [])) (pick (eqb (length c.bytes) 0) true (ltb largest (length c.bytes)))
-- 3: write or fill with offset + length above 16,777,216
row PastFileEnd c r x s = both (is_one c (writes ∷ fills ∷ [])) (ltb file_end (c.offset + length_of c))
-- 4: a write needs more than N - 1 less the used slots
row NoRoom c r x s = both (is_one c (writes ∷ [])) (ltb ((ring_of x).n - 1 - (ring_of x).used) (slots_of (length c.bytes)))
-- 5: a number is needed and the next is 2^62
row NoNumber c r x s = both (needs_number c x s) (eqb s.next number_limit)
-- 6: flush start while one is under way
row FlushUnderWay c r x s = both (is_one c (starts ∷ [])) (ltb 0 s.flush)
-- 7: report with a number that isn't the flush under way
row NotTheFlush c r x s = both (is_one c (reports ∷ [])) (not (both (ltb 0 s.flush) (eqb c.number s.flush)))
-- 8: the ring isn't readable by the rules; making a ring doesn't ask
row Unreadable c r x s = both (not (is_one c (makes ∷ []))) (is_unreadable x)
-- 9: unpin of no live pin; fill without a live pin of that number for that very node
row NoSuchPin c r x s = both (is_one c (unpins ∷ fills ∷ [])) (not (names_pin c s))
-- 10: a seventeenth pin: no record is free
row TooManyPins c r x s = both (is_one c (pins ∷ [])) (not (has_pin 0 s.pins))
-- 11: flush buffer shorter than the sheet; g above n; n above 65,536; making a ring in a buffer of no valid length
row BadBuffer c r x s =
    pick (is_one c (makes ∷ [])) (not (is_makeable (length r)))
    (pick (is_one c (starts ∷ [])) (is_short c r x s) (both (is_one c (fills ∷ [])) (is_off c)))
-- 12: state doesn't fit the ring; "Making a ring can give only 11, reopening only 8; all others test 8 and 12"
row StateUnfit c r x s = both (not (is_one c (makes ∷ reopens ∷ []))) (is_unfit x s)

abbrev pub applies : Call → List ℕ → State → Reason → Bool
applies c r s why = row why c r (reading_of r) s

-- ---- the order

-- 8, 12, 1, 2, 3, 6, 7, 9, 10, 5, 4, 11
abbrev pub order : List Reason
order =
    Unreadable
    ∷ StateUnfit
    ∷ NodeZero
    ∷ BadLength
    ∷ PastFileEnd
    ∷ FlushUnderWay
    ∷ NotTheFlush
    ∷ NoSuchPin
    ∷ TooManyPins
    ∷ NoNumber
    ∷ NoRoom
    ∷ BadBuffer
    ∷ []

-- "If several apply, the first in the order .. is given"
abbrev pub first : (Reason → Bool) → List Reason → Option Reason
first p [] = None
first p (why ∷ whys) = pick (p why) (Some why) (first p whys)

unfoldable pub refusal_of : Call → List ℕ → State → Option Reason
refusal_of c r s = first (applies c r s) order

-- the refusals behind 8 and 12
abbrev pub own : Call → List ℕ → Reading → State → Option Reason
own c r x s = first (λ why. row why c r x s) (drop 2 order)
