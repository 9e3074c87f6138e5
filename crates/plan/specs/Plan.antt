-- A plan: the stores that a call makes in a ring, as numbers; which steps it has, and what one of them does to a ring. Document 02, Q-8.
use Rattle.std.specs.Prelude.{ℕ, zero, suc, ◌+◌, Bool, true, false, List, [], ◌∷◌, ◌++◌, length, get_or, eqb, ltb, leb, Option, None, Some, Result, Ok, Err}
use Rattle.reason.specs.declared.Reason.{Reason}
use Rattle.reason.specs.declared.Reason.TheVariants.{StateUnfit}
use Rattle.layout.specs.Sizes.{slot_size, largest, slots_of}
use Rattle.layout.specs.Bytes.{both}
use Rattle.layout.specs.declared.Ring.{Ring}
use Rattle.walk.specs.declared.Entry.{Entry}
use Rattle.walk.specs.Header.{header_of}
use Rattle.walk.specs.Walk.{no_entry}
use Rattle.store.specs.Steps.{Step, in_slot, one_byte, place_of, run_step}
use Rattle.store.specs.Store.{pick_bytes}
use Rattle.store.specs.Storing.{store_steps, tail_step, head_step, unless_same}
use Rattle.ring.specs.Ring.{tail_of}
use Rattle.plan.specs.declared.Plan.{Plan}
use Rattle.plan.specs.declared.Span.{Span}

-- ---- its steps

-- letting go: the head byte, where the head moves
abbrev pub head_part : Plan → List Step
head_part p = unless_same (eqb p.from p.head) (head_step p.head ∷ [])

-- storing: the entry's slots and the tail byte, where there is an entry
abbrev pub store_part : Plan → List ℕ → List Step
store_part p bs = unless_same (eqb p.entry.number 0) (store_steps p.n p.entry bs)

unfoldable pub plan_steps : Plan → List ℕ → List Step
plan_steps p bs = head_part p ++ store_part p bs

-- of a call that stores nothing
abbrev pub no_plan : Plan
no_plan = record { n = 0; from = 0; head = 0; entry = no_entry }

-- of one that moves the head on to a slot, and of one that stores an entry
abbrev pub head_plan : Ring → ℕ → Plan
head_plan g slot = record { n = g.n; from = g.head; head = slot; entry = no_entry }

abbrev pub entry_plan : Ring → Entry → Plan
entry_plan g e = record { n = g.n; from = g.head; head = g.head; entry = e }

abbrev pub unless_none : Bool → ℕ → ℕ
unless_none true k = 0
unless_none false k = k

-- how many there are, whatever the bytes
abbrev pub head_count : Plan → ℕ
head_count p = unless_none (eqb p.from p.head) 1

abbrev pub step_count : Plan → ℕ
step_count p = head_count p + unless_none (eqb p.entry.number 0) (slots_of p.entry.length + 1)

-- ---- whether the ring, as its header tells it, is the one that a step waits for

-- the head byte still is the one before
unfoldable pub head_waits : Plan → Option Ring → Bool
head_waits p None = false
head_waits p (Some g) = both (eqb g.n p.n) (both (eqb g.head p.from) (ltb p.head p.n))

-- the entry has those bytes, starts at the tail, and finds its slots free
unfoldable pub store_waits : Plan → ℕ → Option Ring → Bool
store_waits p len None = false
store_waits p len (Some g) =
    both (eqb g.n p.n)
    (both (eqb len p.entry.length)
    (both (leb p.entry.length largest)
    (both (eqb (tail_of g) p.entry.slot)
    (ltb (g.used + slots_of p.entry.length) g.n))))

abbrev pub pick_wait : Bool → Bool → Bool → Bool
pick_wait true a b = a
pick_wait false a b = b

-- step i, counted from 0
unfoldable pub step_waits : Plan → List ℕ → List ℕ → ℕ → Bool
step_waits p r bs i = pick_wait (ltb i (head_count p)) (head_waits p (header_of r)) (both (ltb i (step_count p)) (store_waits p (length bs) (header_of r)))

-- ---- what a step does and answers: one store, or 12 and nothing

abbrev pub plan_step : Plan → List ℕ → ℕ → Step
plan_step p bs i = get_or (plan_steps p bs) i (tail_step 0)

unfoldable pub step_ring : Plan → List ℕ → ℕ → List ℕ → List ℕ
step_ring p bs i r = pick_bytes (step_waits p r bs i) (run_step r (plan_step p bs i)) r

-- the bytes that a step stores
abbrev pub span_of : Step → Span
span_of (in_slot k bs) = record { place = place_of k; length = slot_size }
span_of (one_byte p v) = record { place = p; length = 1 }

abbrev pub pick_stepped : Bool → Span → Result Span Reason
pick_stepped true s = Ok s
pick_stepped false s = Err StateUnfit

unfoldable pub step_answer : Plan → List ℕ → ℕ → List ℕ → Result Span Reason
step_answer p bs i r = pick_stepped (step_waits p r bs i) (span_of (plan_step p bs i))

-- the first k steps, one after the other
unfoldable pub stepped : Plan → List ℕ → ℕ → List ℕ → List ℕ
stepped p bs zero r = r
stepped p bs (suc k) r = step_ring p bs k (stepped p bs k r)
