-- The state's lists: the writes that it lists, held beside their entries, and the state with some of its fields anew.
-- Document 01, "What the box's cache does" ("state in, event in, state and answer out") and "The ring in battery memory", last paragraph.
use Rattle.std.specs.Prelude.{◌≡◌, ℕ, suc, ◌+◌, ◌-◌, ◌<◌, ltb, Bool, true, false, List, [], ◌∷◌, ◌++◌, map, length, take, replicate, Option, MatchOption}
use Rattle.layout.specs.Sizes.{most_entries}
use Rattle.layout.specs.Bytes.{both}
use Rattle.walk.specs.declared.Entry.{Entry}
use Rattle.walk.specs.Walk.{no_entry, last_of}
use Rattle.state.specs.declared.Listed.{Listed}
use Rattle.state.specs.declared.Pin.{Pin}
use Rattle.state.specs.declared.State.{State}
use Rattle.state.specs.declared.Held.{Held}

-- ---- tests over lists

abbrev pub pick {ℓ} : {A : Type ℓ} → Bool → A → A → A
pick true a b = a
pick false a b = b

-- some element passes
abbrev pub any : {A : Type 0} → (A → Bool) → List A → Bool
any p [] = false
any p (x ∷ xs) = pick (p x) true (any p xs)

-- every element passes
abbrev pub all : {A : Type 0} → (A → Bool) → List A → Bool
all p [] = true
all p (x ∷ xs) = both (p x) (all p xs)

-- those that pass
abbrev pub those : {A : Type 0} → (A → Bool) → List A → List A
those p [] = []
those p (x ∷ xs) = pick (p x) (x ∷ those p xs) (those p xs)

-- every element passes beside every later one
abbrev pub pairs : {A : Type 0} → (A → A → Bool) → List A → Bool
pairs p [] = true
pairs p (x ∷ xs) = both (all (p x) xs) (pairs p xs)

-- the place of the first element that passes, or the length
abbrev pub place_of : {A : Type 0} → (A → Bool) → List A → ℕ
place_of p [] = 0
place_of p (x ∷ xs) = pick (p x) 0 (suc (place_of p xs))

-- what a search answers: the place, where it is one of so many, and nothing where it is their count
abbrev pub IsPlaceOf : Option ℕ → ℕ → ℕ → Type 0
IsPlaceOf answer place n = MatchOption answer (place ≡ n) (λ i. (i ≡ place) × (i < n))

-- a value carried along from the front
abbrev pub carry : {A B : Type 0} → (B → A → B) → B → List A → B
carry f b [] = b
carry f b (x ∷ xs) = carry f (f b x) xs

-- so many places: the elements, and blanks behind them
abbrev pub filled : {A : Type 0} → ℕ → A → List A → List A
filled m z xs = xs ++ replicate (m - length xs) z

-- ---- the four states of a write

abbrev pub unflushed : ℕ
unflushed = 0

abbrev pub in_flight : ℕ
in_flight = 1

abbrev pub flushed : ℕ
flushed = 2

abbrev pub gone : ℕ
gone = 3

-- ---- the writes that the state lists

abbrev pub no_listed : Listed
no_listed = record { number = 0; phase = 0 }

abbrev pub no_held : Held
no_held = record { entry = no_entry; phase = 0 }

-- number 0 is a free record
abbrev pub no_pin : Pin
no_pin = record { number = 0; mark = 0; node = 0 }

-- "at most 16 pins"
abbrev pub most_pins : ℕ
most_pins = 16

abbrev pub listed : State → List Listed
listed s = take s.count s.writes

-- entries beside what the state lists: a write that is held, and its state of the four
abbrev pub holding : List Entry → List Listed → List Held
holding [] ws = []
holding (e ∷ es) [] = []
holding (e ∷ es) (w ∷ ws) = record { entry = e; phase = w.phase } ∷ holding es ws

abbrev pub entry_of : Held → Entry
entry_of h = h.entry

abbrev pub listed_of : Held → Listed
listed_of h = record { number = h.entry.number; phase = h.phase }

-- "Unflushed, In flight or Flushed": a held write isn't Gone
abbrev pub phase_fits : Held → Bool
phase_fits h = ltb h.phase gone

-- numbers rise from above one and stay below another
abbrev pub RisingTo : ℕ → ℕ → List Held → Type 0
RisingTo below last [] = Unit {0}
RisingTo below last (h ∷ hs) = (last < h.entry.number) × (h.entry.number < below) × RisingTo below h.entry.number hs

-- held writes as the state lists them, with zeros behind
abbrev pub listing : List Held → List Listed
listing hs = filled most_entries no_listed (map listed_of hs)

-- ---- the state with fields anew

abbrev pub with_next : State → ℕ → State
with_next s next = record { next = next; flush = s.flush; count = s.count; writes = s.writes; pins = s.pins }

abbrev pub with_flush : State → ℕ → State
with_flush s flush = record { next = s.next; flush = flush; count = s.count; writes = s.writes; pins = s.pins }

abbrev pub with_pins : State → List Pin → State
with_pins s ps = record { next = s.next; flush = s.flush; count = s.count; writes = s.writes; pins = ps }

abbrev pub with_held : State → List Held → State
with_held s hs = record { next = s.next; flush = s.flush; count = length hs; writes = listing hs; pins = s.pins }

-- ---- reopening: "Every entry comes back Unflushed, in order, with no pin and no flush under way. The next number is the last
-- entry's plus 1, or 1."

abbrev pub comes_back : Entry → Held
comes_back e = record { entry = e; phase = unflushed }

abbrev pub reopened : List Entry → State
reopened es =
    record {
      next = last_of 0 es + 1;
      flush = 0;
      count = length es;
      writes = listing (map comes_back es);
      pins = replicate most_pins no_pin;
    }
