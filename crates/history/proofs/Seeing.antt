-- The held writes as the tale tells them: each entry of the ring, in the state that the numbers reported good and the numbers of the batch give it.
-- What the calls do to the held writes, and what is asked of them, is said again of the ring's writes and those numbers.
-- Document 01, "Moves", paragraphs "Pins", "Letting go", "Flush", "Fill" and "Ticket".
use Rattle.std.specs.Prelude.{Option, None, Some}
use Prim.Native.Nat.{ℕ, zero, suc, ◌+◌, ◌*◌, ◌<◌}
use mathlib.Core.Path.{◌≡◌, refl, sym, ◌∙◌, ap}
use mathlib.Core.Bool.{Bool, true, false, not}
use mathlib.Core.List.{List, [], ◌∷◌, ◌++◌, map, map-map, map-append, map_congr_left}
use native.Mathlib.Omega.{arith}
use borrow.Author.Tests.{le-leb, eq-eqb, ne_eqb, ltb-true}
use lib.ListN.{take}
use lib.Dec.{eqb, ltb, leb}
use Rattle.layout.specs.Sizes.{slot_size, head_size}
use Rattle.layout.specs.Bytes.{both}
use Rattle.layout.proofs.Tests.{never, both_left, both_right}
use Rattle.layout.proofs.Views.{bytes_length}
use Rattle.walk.specs.declared.Entry.{Entry}
use Rattle.walk.specs.Walk.{Rising, Write, write_of}
use Rattle.state.specs.declared.Pin.{Pin}
use Rattle.state.specs.declared.Held.{Held}
use Rattle.state.specs.Lists.{pick, any, all, carry, unflushed, in_flight, flushed, comes_back, those}
use Rattle.state.specs.Moves.{taken, good as M·good, bad, move_of, moved_by, reported}
use Rattle.state.specs.Pins.{is_flushed, lower, lowest, value_or, number_of_held, mark_of, keeps, is_due, leaving, staying, waits_in}
use Rattle.state.specs.Asks.{is_unflushed, waits_for, ticket_done, larger, later_end, cached_end}
use Rattle.state.specs.Batch.{most_batch, is_waiting, batch_of, take_first, taken_of}
use Rattle.state.proofs.Pairs.{any_append}
use Rattle.state.proofs.Finding.{Each, each_by}
use Rattle.sheet.specs.Sheet.{end_of}
use Rattle.state.proofs.Extremes.{larger_max}
use Rattle.history.specs.Tale.{among, numbers_of, in_reach, is_of, least, is_pinned, leave}

-- the state that the numbers give: Flushed if reported good, else In flight if in the batch
abbrev pub phase_in : List ℕ → List ℕ → ℕ → ℕ
phase_in good batch k = pick (among k good) flushed (pick (among k batch) in_flight unflushed)

abbrev pub seen : List ℕ → List ℕ → Entry → Held
seen good batch e = record { entry = e; phase = phase_in good batch e.number }

-- the numbers of held writes
abbrev pub numbers_in : List Held → List ℕ
numbers_in hs = map (λ h. h.entry.number) hs

-- ---- lists, element by element

module _ {A B C : Type 0} (s : A → B) (g : A → C) (p : B → Bool) (q : C → Bool) (k : (x : A) → p (s x) ≡ q (g x)) where
  any_seen : (xs : List A) → any p (map s xs) ≡ any q (map g xs)
  any_seen [] = refl
  any_seen (x ∷ xs) = rw (k x, any_seen xs)

map_take : {A B : Type 0} (g : A → B) (m : ℕ) (xs : List A) → map g (take m xs) ≡ take m (map g xs)
map_take g zero xs = refl
map_take g (suc m) [] = refl
map_take g (suc m) (x ∷ xs) = ap (◌∷◌ (g x)) (map_take g m xs)

-- ---- one write, reported good or not, and in the batch or not

module _ (e : Entry) where
  abbrev by : Bool → Bool → Held
  by a b = record { entry = e; phase = pick a flushed (pick b in_flight unflushed) }

  good_by : (a b : Bool) → reported M·good (by a b) ≡ by (pick a true b) false
  unfolding reported move_of
  good_by true b = refl
  good_by false true = refl
  good_by false false = refl

  bad_by : (a b : Bool) → reported bad (by a b) ≡ by a false
  unfolding reported move_of
  bad_by true b = refl
  bad_by false true = refl
  bad_by false false = refl

  flushed_by : (a b : Bool) → is_flushed (by a b) ≡ a
  flushed_by true b = refl
  flushed_by false true = refl
  flushed_by false false = refl

  waits_by : (a : Bool) → is_unflushed (by a false) ≡ not a
  waits_by true = refl
  waits_by false = refl

  moved_by_law : (a b : Bool) → is_unflushed (by a false) ≡ true → b ≡ true → moved_by taken (by a false) ≡ by a b
  unfolding move_of
  moved_by_law true b w k = never (cc)
  moved_by_law false b w k = rw k

-- ---- reports, restarts and a new write

module _ (good batch : List ℕ) where
  good_one : (e : Entry) → reported M·good (seen good batch e) ≡ seen (good ++ batch) [] e
  good_one e =
      good_by e (among e.number good) (among e.number batch)
      ∙ ap (λ a. by e a false) (sym (any_append (λ n. eqb n e.number) good batch))

  pub reported_good_seen : (es : List Entry) → map (reported M·good) (map (seen good batch) es) ≡ map (seen (good ++ batch) []) es
  reported_good_seen es = map-map (reported M·good) (seen good batch) es ∙ map_congr_left {l = es} (λ e _. good_one e)

  pub reported_bad_seen : (es : List Entry) → map (reported bad) (map (seen good batch) es) ≡ map (seen good []) es
  reported_bad_seen es =
      map-map (reported bad) (seen good batch) es
      ∙ map_congr_left {l = es} (λ e _. bad_by e (among e.number good) (among e.number batch))

  -- a write under a new number
  pub written_seen : (es : List Entry) (e : Entry) → among e.number good ≡ false → among e.number batch ≡ false
      → map (seen good batch) es ++ record { entry = e; phase = unflushed } ∷ [] ≡ map (seen good batch) (es ++ e ∷ [])
  written_seen es e a b =
      let k : record { entry = e; phase = unflushed } ≡ seen good batch e = rw (a, b) in
      ap (λ h. map (seen good batch) es ++ h ∷ []) k ∙ sym (map-append (seen good batch) es (e ∷ []))

pub back_seen : (es : List Entry) → map comes_back es ≡ map (seen [] []) es
back_seen es = refl

-- ---- what is asked

-- the value of the lowest, where one more comes to the front
lower_value : (own : ℕ) (h : Held) (x : Option Held) → h.entry.number < own
    → value_or number_of_held own (lower h x) ≡ pick (leb h.entry.number (value_or number_of_held own x)) h.entry.number (value_or number_of_held own x)
lower_value own h None l = rw (le-leb h.entry.number own (omega arith))
lower_value own h (Some k) l = at (leb h.entry.number k.entry.number)
  where
    at : (b : Bool) → value_or number_of_held own (pick b (Some h) (Some k)) ≡ pick b h.entry.number k.entry.number
    at true = refl
    at false = refl

-- numbers below another, of the held writes and of their entries
pub below_seen : (own : ℕ) (good batch : List ℕ) (es : List Entry) → all (λ h. ltb h.entry.number own) (map (seen good batch) es) ≡ true → Each (λ e. e.number < own) es
below_seen own good batch [] o = tt
below_seen own good batch (e ∷ es) o = (ltb-true _ _ (both_left _ _ o), below_seen own good batch es (both_right (ltb e.number own) _ o))

module _ (f : ℕ → ℕ) (good batch : List ℕ) where
  flushed_seen : (e : Entry) → is_flushed (seen good batch e) ≡ among e.number good
  flushed_seen e = flushed_by e (among e.number good) (among e.number batch)

  waits_seen : (node : ℕ) (e : Entry) → waits_in node (seen good batch e) ≡ both (in_reach node (write_of f e)) (not (among e.number good))
  waits_seen node e = ap (λ b. both (in_reach node (write_of f e)) (not b)) (flushed_seen e)

  -- the mark of a pin whose number is above every write's
  pub mark_seen : (node own : ℕ) (es : List Entry) → Each (λ e. e.number < own) es
      → mark_of node own (map (seen good batch) es) ≡ least own (those (λ w. both (in_reach node w) (not (among w.number good))) (map (write_of f) es))
  unfolding mark_of
  mark_seen node own [] o = refl
  mark_seen node own (e ∷ es) o =
      ap (λ b. value_or number_of_held own (lowest (pick b (seen good batch e ∷ hs) hs))) (waits_seen node e)
      ∙ at (both (in_reach node (write_of f e)) (not (among e.number good))) (mark_seen node own es o.1)
    where
      hs : List Held
      hs = those (waits_in node) (map (seen good batch) es)

      ws : List Write
      ws = those (λ w. both (in_reach node w) (not (among w.number good))) (map (write_of f) es)

      at : (b : Bool) → value_or number_of_held own (lowest hs) ≡ least own ws
          → value_or number_of_held own (lowest (pick b (seen good batch e ∷ hs) hs)) ≡ least own (pick b (write_of f e ∷ ws) ws)
      at true k = lower_value own (seen good batch e) (lowest hs) o.0 ∙ ap (λ m. pick (leb e.number m) e.number m) k
      at false k = k

  pub ticket_seen : (t node : ℕ) (es : List Entry)
      → ticket_done t node (map (seen good batch) es)
      ≡ not (any (λ w. both (ltb w.number t) (both (in_reach node w) (not (among w.number good)))) (map (write_of f) es))
  unfolding ticket_done
  ticket_seen t node es =
      ap not
      (any_seen (seen good batch) (write_of f) (waits_for t node) (λ w. both (ltb w.number t) (both (in_reach node w) (not (among w.number good))))
      (λ e. ap (both (ltb e.number t)) (waits_seen node e)) es)

-- ---- the batch, where none is out

rising_above : (last : ℕ) (es : List Entry) → Rising last es → Each (λ e. last < e.number) es
rising_above last [] r = tt
rising_above last (e ∷ es) r =
    let l = r.0 in
    (l, each_by (λ x. e.number < x.number) (λ x. last < x.number) es (λ x h. omega arith) (rising_above e.number es r.2))

module _ (node : ℕ) (good : List ℕ) where
  -- a write of the node, not yet reported good
  abbrev pub is_open : Write → Bool
  is_open w = both (is_of node w) (not (among w.number good))

  open_seen : (f : ℕ → ℕ) (e : Entry) → is_waiting node (seen good [] e) ≡ is_open (write_of f e)
  open_seen f e = ap (both (eqb e.node node)) (waits_by e (among e.number good))

  those_seen : (f : ℕ → ℕ) (es : List Entry) → map (λ h. write_of f h.entry) (those (is_waiting node) (map (seen good []) es)) ≡ those is_open (map (write_of f) es)
  those_seen f [] = refl
  those_seen f (e ∷ es) =
      ap (λ b. map (λ h. write_of f h.entry) (pick b (seen good [] e ∷ hs) hs)) (open_seen f e) ∙ at (is_open (write_of f e)) (those_seen f es)
    where
      hs : List Held
      hs = those (is_waiting node) (map (seen good []) es)

      ws : List Write
      ws = those is_open (map (write_of f) es)

      at : (b : Bool) → map (λ h. write_of f h.entry) hs ≡ ws → map (λ h. write_of f h.entry) (pick b (seen good [] e ∷ hs) hs) ≡ pick b (write_of f e ∷ ws) ws
      at true k = ap (◌∷◌ (write_of f e)) k
      at false k = k

  pub batch_seen : (f : ℕ → ℕ) (es : List Entry) → map (λ h. write_of f h.entry) (batch_of node (map (seen good []) es)) ≡ take most_batch (those is_open (map (write_of f) es))
  unfolding batch_of
  batch_seen f es =
      map_take (λ h. write_of f h.entry) most_batch (those (is_waiting node) (map (seen good []) es)) ∙ ap (take most_batch) (those_seen f es)

  -- the numbers of the first so many that wait
  abbrev firsts : ℕ → List Entry → List ℕ
  firsts m es = numbers_in (take m (those (is_waiting node) (map (seen good []) es)))

  -- a number below all isn't among them
  firsts_none : (k m : ℕ) (es : List Entry) → Each (λ e. k < e.number) es → among k (firsts m es) ≡ false
  firsts_none k zero es o = refl
  firsts_none k (suc m) [] o = refl
  firsts_none k (suc m) (e ∷ es) o = at (is_waiting node (seen good [] e)) (firsts_none k m es o.1) (firsts_none k (suc m) es o.1)
    where
      hs : List Held
      hs = those (is_waiting node) (map (seen good []) es)

      at : (b : Bool) → among k (firsts m es) ≡ false → among k (firsts (suc m) es) ≡ false → among k (numbers_in (take (suc m) (pick b (seen good [] e ∷ hs) hs))) ≡ false
      at true x y = let l = o.0 in rw (ne_eqb e.number k (λ z. let w : ⊥ = omega arith in w)) x
      at false x y = y

  -- a number that no write has changes none
  more_batch : (k : ℕ) (batch : List ℕ) (es : List Entry) → Each (λ e. k < e.number) es → map (seen good batch) es ≡ map (seen good (k ∷ batch)) es
  more_batch k batch [] o = refl
  more_batch k batch (e ∷ es) o =
      let l = o.0 in
      rw (ne_eqb k e.number (λ z. let w : ⊥ = omega arith in w), more_batch k batch es o.1)

  first_seen : (m last : ℕ) (es : List Entry) → Rising last es → take_first m node (map (seen good []) es) ≡ map (seen good (firsts m es)) es
  unfolding take_first
  first_seen zero last es r = refl
  first_seen (suc m) last [] r = refl
  first_seen (suc m) last (e ∷ es) r = at (is_waiting node (seen good [] e)) refl (first_seen m e.number es r.2) (first_seen (suc m) e.number es r.2)
    where
      hs : List Held
      hs = those (is_waiting node) (map (seen good []) es)

      at : (b : Bool) → is_waiting node (seen good [] e) ≡ b → take_first m node (map (seen good []) es) ≡ map (seen good (firsts m es)) es
          → take_first (suc m) node (map (seen good []) es) ≡ map (seen good (firsts (suc m) es)) es
          → pick b (moved_by taken (seen good [] e) ∷ take_first m node (map (seen good []) es)) (seen good [] e ∷ take_first (suc m) node (map (seen good []) es))
          ≡ map (seen good (numbers_in (take (suc m) (pick b (seen good [] e ∷ hs) hs)))) (e ∷ es)
      at true w x y =
          ap (λ h. h ∷ take_first m node (map (seen good []) es))
          (moved_by_law e (among e.number good) (among e.number (e.number ∷ firsts m es)) (both_right (eqb e.node node) _ w) (rw (eq-eqb e.number e.number refl)))
          ∙ ap (◌∷◌ (seen good (e.number ∷ firsts m es) e)) (x ∙ more_batch e.number (firsts m es) es (rising_above e.number es r.2))
      at false w x y =
          ap (λ b. by e (among e.number good) b ∷ take_first (suc m) node (map (seen good []) es)) (sym (firsts_none e.number (suc m) es (rising_above e.number es r.2)))
          ∙ ap (◌∷◌ (seen good (firsts (suc m) es) e)) y

  -- taking the batch puts its numbers out
  pub taken_seen : (last : ℕ) (es : List Entry) → Rising last es → taken_of node (map (seen good []) es) ≡ map (seen good (numbers_in (batch_of node (map (seen good []) es)))) es
  unfolding batch_of
  taken_seen last es r = first_seen most_batch last es r

  -- the same by the tale's batch
  pub taken_told : (f : ℕ → ℕ) (last : ℕ) (es : List Entry) → Rising last es
      → taken_of node (map (seen good []) es) ≡ map (seen good (numbers_of (take most_batch (those is_open (map (write_of f) es))))) es
  taken_told f last es r =
      taken_seen last es r
      ∙ ap (λ ns. map (seen good ns) es)
      (sym (map-map (λ w. w.number) (λ h. write_of f h.entry) (batch_of node (map (seen good []) es))) ∙ ap numbers_of (batch_seen f es))

-- ---- letting go

-- the entries from the first that fails a test on, and those before it
abbrev pub rest_of : (Entry → Bool) → List Entry → List Entry
rest_of q [] = []
rest_of q (e ∷ es) = pick (q e) (rest_of q es) (e ∷ es)

abbrev pub gone_of : (Entry → Bool) → List Entry → List Entry
gone_of q [] = []
gone_of q (e ∷ es) = pick (q e) (e ∷ gone_of q es) []

pub gone_rest : (q : Entry → Bool) (es : List Entry) → es ≡ gone_of q es ++ rest_of q es
gone_rest q [] = refl
gone_rest q (e ∷ es) = at (q e) (gone_rest q es)
  where
    at : (b : Bool) → es ≡ gone_of q es ++ rest_of q es → e ∷ es ≡ pick b (e ∷ gone_of q es) [] ++ pick b (rest_of q es) (e ∷ es)
    at true k = ap (◌∷◌ e) k
    at false k = refl

pub gone_each : (q : Entry → Bool) (es : List Entry) → Each (λ e. q e ≡ true) (gone_of q es)
gone_each q [] = tt
gone_each q (e ∷ es) = at (q e) refl (gone_each q es)
  where
    at : (b : Bool) → q e ≡ b → Each (λ e. q e ≡ true) (gone_of q es) → Each (λ e. q e ≡ true) (pick b (e ∷ gone_of q es) [])
    at true k o = (k, o)
    at false k o = tt

-- reported good, and kept by no live pin
abbrev pub goes : (ℕ → ℕ) → List ℕ → List Pin → Entry → Bool
goes f good live e = both (among e.number good) (not (is_pinned live (write_of f e)))

pub leave_seen : (f : ℕ → ℕ) (good : List ℕ) (live : List Pin) (es : List Entry) → leave good live (map (write_of f) es) ≡ map (write_of f) (rest_of (goes f good live) es)
leave_seen f good live [] = refl
leave_seen f good live (e ∷ es) = at (goes f good live e) (leave_seen f good live es)
  where
    at : (b : Bool) → leave good live (map (write_of f) es) ≡ map (write_of f) (rest_of (goes f good live) es)
        → pick b (leave good live (map (write_of f) es)) (map (write_of f) (e ∷ es)) ≡ map (write_of f) (pick b (rest_of (goes f good live) es) (e ∷ es))
    at true k = k
    at false k = refl

module _ (f : ℕ → ℕ) (good batch : List ℕ) (ps live : List Pin) (k : (h : Held) → any (keeps h) ps ≡ is_pinned live (write_of f h.entry)) where
  due_seen : (e : Entry) → is_due ps (seen good batch e) ≡ goes f good live e
  unfolding is_due
  due_seen e = rw (flushed_seen f good batch e, k (seen good batch e))

  pub staying_seen : (es : List Entry) → staying ps (map (seen good batch) es) ≡ map (seen good batch) (rest_of (goes f good live) es)
  unfolding staying
  staying_seen [] = refl
  staying_seen (e ∷ es) = rw (due_seen e) (at (goes f good live e) (staying_seen es))
    where
      at : (b : Bool) → staying ps (map (seen good batch) es) ≡ map (seen good batch) (rest_of (goes f good live) es)
          → pick b (staying ps (map (seen good batch) es)) (map (seen good batch) (e ∷ es)) ≡ map (seen good batch) (pick b (rest_of (goes f good live) es) (e ∷ es))
      at true k = k
      at false k = refl

  pub leaving_seen : (es : List Entry) → leaving ps (map (seen good batch) es) ≡ map (seen good batch) (gone_of (goes f good live) es)
  unfolding leaving
  leaving_seen [] = refl
  leaving_seen (e ∷ es) = rw (due_seen e) (at (goes f good live e) (leaving_seen es))
    where
      at : (b : Bool) → leaving ps (map (seen good batch) es) ≡ map (seen good batch) (gone_of (goes f good live) es)
          → pick b (seen good batch e ∷ leaving ps (map (seen good batch) es)) [] ≡ map (seen good batch) (pick b (e ∷ gone_of (goes f good live) es) [])
      at true k = ap (◌∷◌ (seen good batch e)) k
      at false k = refl

-- ---- the cached end: the largest offset + length of the node's writes, 0 if none

larger_by : (a b c : ℕ) → larger (larger a b) c ≡ larger a (larger b c)
larger_by a b c =
    let x = larger_max (larger a b) c in
    let y = larger_max a b in
    let z = larger_max a (larger b c) in
    let w = larger_max b c in
    omega arith

larger_none : (a : ℕ) → a ≡ larger a 0
larger_none a =
    let x = larger_max a 0 in
    omega arith

larger_zero : (a : ℕ) → larger 0 a ≡ a
larger_zero a = rw (le-leb 0 a (omega arith))

module _ (f : ℕ → ℕ) (good batch : List ℕ) (node : ℕ) where
  end_seen : (a : ℕ) (es : List Entry) → carry (later_end node) a (map (seen good batch) es) ≡ larger a (end_of (those (is_of node) (map (write_of f) es)))
  unfolding later_end
  end_seen a [] = larger_none a
  end_seen a (e ∷ es) = end_seen (later_end node a (seen good batch e)) es ∙ at (eqb e.node node)
    where
      ws : List Write
      ws = those (is_of node) (map (write_of f) es)

      at : (b : Bool) → larger (pick b (larger a (e.offset + e.length)) a) (end_of ws) ≡ larger a (end_of (pick b (write_of f e ∷ ws) ws))
      at true =
          larger_by a (e.offset + e.length) (end_of ws)
          ∙ ap (λ n. larger a (larger (e.offset + n) (end_of ws))) (sym (bytes_length f (e.slot * slot_size + head_size) e.length))
      at false = refl

  pub cached_seen : (es : List Entry) → cached_end node (map (seen good batch) es) ≡ end_of (those (is_of node) (map (write_of f) es))
  cached_seen es = end_seen 0 es ∙ larger_zero (end_of (those (is_of node) (map (write_of f) es)))
