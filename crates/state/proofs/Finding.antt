-- A search by place finds what the definitions name by number: the lowest of rising numbers is the first.
use Rattle.std.specs.Prelude.{Option, None, Some}
use Prim.Native.Nat.{ℕ, zero, suc, ◌≤◌, ◌<◌}
use mathlib.Core.Path.{◌≡◌, refl, sym, ◌∙◌, ap}
use mathlib.Core.Bool.{Bool, true, false, not}
use mathlib.Core.List.{List, [], ◌∷◌, ◌++◌, map}
use mathlib.Core.Logic.{◌⊎◌, inl, inr}
use native.Mathlib.Omega.{arith}
use borrow.Author.Tests.{lt-ltb, le-leb, lt-leb, eq-eqb, ne_eqb, ltb-true}
use lib.ListN.{length, get_or, take}
use lib.Dec.{eqb, ltb, leb}
use Rattle.layout.specs.Sizes.{number_limit}
use Rattle.layout.specs.Bytes.{both}
use Rattle.layout.proofs.Tests.{never, both_left, both_right, lt_or_le}
use Rattle.state.proofs.Bools.{both_known, both_swap}
use Rattle.state.specs.declared.Held.{Held}
use Rattle.state.specs.declared.Query.{Query}
use Rattle.state.specs.Lists.{any, all, place_of, unflushed, in_flight, gone, no_held, phase_fits, RisingTo, those}
use Rattle.state.specs.Pins.{reaches, waits_in, lower, lowest, value_or}
use Rattle.state.specs.Asks.{waits_for, seeks}

-- ---- what holds of each element

abbrev pub Each : {A : Type 0} → (A → Type 0) → List A → Type 0
Each P [] = Unit {0}
Each P (x ∷ xs) = P x × Each P xs

pub each_by : {A : Type 0} (P Q : A → Type 0) (xs : List A) → ((x : A) → P x → Q x) → Each P xs → Each Q xs
each_by P Q [] k o = tt
each_by P Q (x ∷ xs) k o = (k x o.0, each_by P Q xs k o.1)

pub each_both : {A : Type 0} (P Q : A → Type 0) (xs : List A) → Each P xs → Each Q xs → Each (λ x. P x × Q x) xs
each_both P Q [] o u = tt
each_both P Q (x ∷ xs) o u = ((o.0, u.0), each_both P Q xs o.1 u.1)

pub each_true : {A : Type 0} (p : A → Bool) (xs : List A) → all p xs ≡ true → Each (λ x. p x ≡ true) xs
each_true p [] e = tt
each_true p (x ∷ xs) e = (both_left _ _ e, each_true p xs (both_right (p x) _ e))

-- of some of them, and of what is made of them
pub each_take : {A : Type 0} (P : A → Type 0) (m : ℕ) (xs : List A) → Each P xs → Each P (take m xs)
each_take P zero xs o = tt
each_take P (suc m) [] o = tt
each_take P (suc m) (x ∷ xs) o = (o.0, each_take P m xs o.1)

pub each_map : {A B : Type 0} (P : B → Type 0) (f : A → B) (xs : List A) → Each (λ x. P (f x)) xs → Each P (map f xs)
each_map P f [] o = tt
each_map P f (x ∷ xs) o = (o.0, each_map P f xs o.1)

pub each_join : {A : Type 0} (P : A → Type 0) (xs ys : List A) → Each P xs → Each P ys → Each P (xs ++ ys)
each_join P [] ys o u = u
each_join P (x ∷ xs) ys o u = (o.0, each_join P xs ys o.1 u)

pub each_right : {A : Type 0} (P : A → Type 0) (xs ys : List A) → Each P (xs ++ ys) → Each P ys
each_right P [] ys o = o
each_right P (x ∷ xs) ys o = each_right P xs ys o.1

place_each : {A : Type 0} (p q : A → Bool) (xs : List A) → Each (λ x. p x ≡ q x) xs → place_of p xs ≡ place_of q xs
place_each p q [] o = refl
place_each p q (x ∷ xs) o = rw (o.0, place_each p q xs o.1)

pub rising_each : (below last : ℕ) (hs : List Held) → RisingTo below last hs → Each (λ h. h.entry.number < below) hs
rising_each below last [] o = tt
rising_each below last (h ∷ hs) o = (o.1, rising_each below h.entry.number hs o.2)

-- ---- the lowest is the first

abbrev Above : ℕ → Option Held → Type 0
Above last None = Unit {0}
Above last (Some k) = last < k.entry.number

above_less : (a b : ℕ) (x : Option Held) → a < b → Above b x → Above a x
above_less a b None h o = tt
above_less a b (Some k) h o = omega arith

lower_first : (h : Held) (x : Option Held) → Above h.entry.number x → lower h x ≡ Some h
lower_first h None o = refl
lower_first h (Some k) o = rw (le-leb h.entry.number k.entry.number (omega arith))

module _ (p : Held → Bool) where
  above_by : (below last : ℕ) (h : Held) (hs : List Held) (b : Bool) → p h ≡ b → last < h.entry.number
      → Above h.entry.number (lowest (those p hs)) → Above last (lowest (those p (h ∷ hs)))
  above_by below last h hs true e l o = rw (e, lower_first h (lowest (those p hs)) o) l
  above_by below last h hs false e l o = rw e (above_less last h.entry.number (lowest (those p hs)) l o)

  above : (below last : ℕ) (hs : List Held) → RisingTo below last hs → Above last (lowest (those p hs))
  above below last [] o = tt
  above below last (h ∷ hs) o = above_by below last h hs (p h) refl o.0 (above below h.entry.number hs o.2)

  found_by : (below last : ℕ) (h : Held) (hs : List Held) (b : Bool) → p h ≡ b → RisingTo below last (h ∷ hs)
      → (place_of p hs < length hs → lowest (those p hs) ≡ Some (get_or hs (place_of p hs) no_held))
      → place_of p (h ∷ hs) < length (h ∷ hs) → lowest (those p (h ∷ hs)) ≡ Some (get_or (h ∷ hs) (place_of p (h ∷ hs)) no_held)
  found_by below last h hs true e o k l = rw e (lower_first h (lowest (those p hs)) (above below h.entry.number hs o.2))
  found_by below last h hs false e o k l =
      let z : place_of p (h ∷ hs) ≡ suc (place_of p hs) = rw e in
      rw e (k (omega arith))

  pub lowest_found : (below last : ℕ) (hs : List Held) → RisingTo below last hs → place_of p hs < length hs
      → lowest (those p hs) ≡ Some (get_or hs (place_of p hs) no_held)
  lowest_found below last [] o l = absurd (omega arith)
  lowest_found below last (h ∷ hs) o l = found_by below last h hs (p h) refl o (lowest_found below h.entry.number hs o.2) l

  none_by : (h : Held) (hs : List Held) (b : Bool) → p h ≡ b → (length hs ≤ place_of p hs → lowest (those p hs) ≡ None)
      → length (h ∷ hs) ≤ place_of p (h ∷ hs) → lowest (those p (h ∷ hs)) ≡ None
  none_by h hs true e k l =
      let z : place_of p (h ∷ hs) ≡ 0 = rw e in
      absurd (omega arith)
  none_by h hs false e k l =
      let z : place_of p (h ∷ hs) ≡ suc (place_of p hs) = rw e in
      rw e (k (omega arith))

  pub lowest_none : (hs : List Held) → length hs ≤ place_of p hs → lowest (those p hs) ≡ None
  lowest_none [] l = refl
  lowest_none (h ∷ hs) l = none_by h hs (p h) refl (lowest_none hs) l

-- ---- what each search looks for

abbrev pub query : ℕ → ℕ → ℕ → ℕ → Query
query node below low high = record { node = node; below = below; low = low; high = high }

-- the states from Unflushed to In flight are those that aren't Flushed
waiting : (p : ℕ) → p < gone → both (leb unflushed p) (leb p in_flight) ≡ not (eqb p 2)
unfolding both
waiting zero h = refl
waiting (suc zero) h = refl
waiting (suc (suc zero)) h = refl
waiting (suc (suc (suc p))) h = absurd (omega arith)

-- the states from one to the same are that one
exactly : (k p : ℕ) → both (leb k p) (leb p k) ≡ eqb p k
unfolding both
exactly k p = at (lt_or_le p k)
  where
    upper : k ≤ p → (k < p) ⊎ (p ≤ k) → both (leb k p) (leb p k) ≡ eqb p k
    upper h (inl l) = rw (le-leb k p h, lt-leb p k l, ne_eqb p k (λ e. let w : ⊥ = omega arith in w))
    upper h (inr l) = let e : p ≡ k = omega arith in rw (le-leb k p h, le-leb p k l, eq-eqb p k e)

    at : (p < k) ⊎ (k ≤ p) → both (leb k p) (leb p k) ≡ eqb p k
    at (inl l) = rw (lt-leb k p l, ne_eqb p k (λ e. let w : ⊥ = omega arith in w))
    at (inr l) = upper l (lt_or_le k p)

abbrev Below : ℕ → Held → Type 0
Below own h = h.entry.number < own

abbrev Fit : Held → Type 0
Fit h = phase_fits h ≡ true

-- in reach, numbered below a ticket, and not yet Flushed
sought_ticket : (t node : ℕ) (h : Held) → Fit h → seeks (query node t unflushed in_flight) h ≡ waits_for t node h
unfolding seeks
sought_ticket t node h o =
    both_swap (reaches node h) (ltb h.entry.number t) _
    ∙ ap (λ b. both (ltb h.entry.number t) (both (reaches node h) b)) (waiting h.phase (ltb-true _ _ o))

pub seek_ticket : (t node : ℕ) (hs : List Held) → all phase_fits hs ≡ true
    → place_of (seeks (query node t unflushed in_flight)) hs ≡ place_of (waits_for t node) hs
seek_ticket t node hs f = place_each _ _ hs (each_by Fit _ hs (sought_ticket t node) (each_true phase_fits hs f))

-- the same, where every number is below
pub seek_waiting : (node own : ℕ) (hs : List Held) → Each (λ h. h.entry.number < own) hs → all phase_fits hs ≡ true
    → place_of (seeks (query node own unflushed in_flight)) hs ≡ place_of (waits_in node) hs
seek_waiting node own hs n f =
    seek_ticket own node hs f
    ∙ place_each _ _ hs (each_by (Below own) (λ h. waits_for own node h ≡ waits_in node h) hs (λ h o. both_known _ _ (lt-ltb _ _ o)) n)

-- in one state, of any node
sought_phase : (phase : ℕ) (h : Held) → Below number_limit h → seeks (query 0 number_limit phase phase) h ≡ eqb h.phase phase
unfolding seeks
sought_phase phase h o = both_known _ _ refl ∙ both_known _ _ (lt-ltb _ _ o) ∙ exactly phase h.phase

pub seek_phase : (phase : ℕ) (hs : List Held) → Each (λ h. h.entry.number < number_limit) hs
    → place_of (seeks (query 0 number_limit phase phase)) hs ≡ place_of (λ h. eqb h.phase phase) hs
seek_phase phase hs n = place_each _ _ hs (each_by (Below number_limit) _ hs (sought_phase phase) n)

-- ---- the value at the place that a search found

module _ (p : Held → Bool) (f : Held → ℕ) (other below : ℕ) (hs : List Held) where
  pub value_found : RisingTo below 0 hs → (i : ℕ) → i ≡ place_of p hs → i < length hs → f (get_or hs i no_held) ≡ value_or f other (lowest (those p hs))
  value_found o i e h =
      let w : lowest (those p hs) ≡ Some (get_or hs (place_of p hs) no_held) = lowest_found p below 0 hs o (omega arith) in
      ap (λ j. f (get_or hs j no_held)) e ∙ ap (value_or f other) (sym w)

  pub value_none : place_of p hs ≡ length hs → other ≡ value_or f other (lowest (those p hs))
  value_none e = ap (value_or f other) (sym (lowest_none p hs (omega arith)))

place_by : {A : Type 0} (p : A → Bool) (x : A) (xs : List A) (b : Bool) → p x ≡ b → place_of p xs ≤ length xs → place_of p (x ∷ xs) ≤ length (x ∷ xs)
place_by p x xs true e h = rw e (omega arith)
place_by p x xs false e h = rw e (omega arith)

pub place_le : {A : Type 0} (p : A → Bool) (xs : List A) → place_of p xs ≤ length xs
place_le p [] = omega arith
place_le p (x ∷ xs) = place_by p x xs (p x) refl (place_le p xs)

-- the place of an element that passes
module _ {A : Type 0} (p : A → Bool) (d : A) where
  there_by : (x : A) (xs : List A) (b : Bool) → p x ≡ b → any p (x ∷ xs) ≡ true
      → (any p xs ≡ true → (place_of p xs < length xs) × (p (get_or xs (place_of p xs) d) ≡ true))
      → (place_of p (x ∷ xs) < length (x ∷ xs)) × (p (get_or (x ∷ xs) (place_of p (x ∷ xs)) d) ≡ true)
  there_by x xs true e o k = (rw e (omega arith), rw e e)
  there_by x xs false e o k =
      let w = k (rw e at o) in
      let l = w.0 in
      (rw e (omega arith), rw e w.1)

  pub place_there : (xs : List A) → any p xs ≡ true → (place_of p xs < length xs) × (p (get_or xs (place_of p xs) d) ≡ true)
  place_there [] o = never (cc)
  place_there (x ∷ xs) o = there_by x xs (p x) refl o (place_there xs)

-- what holds of each holds at a place
pub each_at : {A : Type 0} (P : A → Type 0) (d : A) (xs : List A) (i : ℕ) → Each P xs → i < length xs → P (get_or xs i d)
each_at P d [] i o h = absurd (omega arith)
each_at P d (x ∷ xs) zero o h = o.0
each_at P d (x ∷ xs) (suc i) o h = each_at P d xs i o.1 (omega arith)

pub fit_at : (hs : List Held) (i : ℕ) → all phase_fits hs ≡ true → i < length hs → (get_or hs i no_held).phase < gone
fit_at hs i f h = ltb-true _ _ (each_at Fit no_held hs i (each_true phase_fits hs f) h)
