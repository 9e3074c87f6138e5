-- The pass that takes the batch: what is taken so far, and what the rest would still give.
use Prim.Native.Nat.{ℕ, zero, suc, ◌+◌, ◌-◌, ◌≤◌, ◌<◌}
use mathlib.Core.Path.{◌≡◌, refl, sym, ap, ◌∙◌}
use mathlib.Core.Bool.{Bool, true, false}
use mathlib.Core.List.{List, [], ◌∷◌, ◌++◌, map, map-append, append_assoc, append-nil}
use native.Mathlib.Omega.{arith}
use native.Mathlib.Numerals.{add-one}
use borrow.Author.Tests.{eqb-true, ltb-true, ltb-false}
use lib.ListN.{length, take, drop, get_or, set, length-append, length-map}
use Rattle.std.proofs.lemmas.List.{drop_all}
use lib.Seq.{drop-cons, get_or_at, set_at}
use lib.Dec.{eqb, ltb}
use Rattle.layout.specs.Bytes.{both}
use Rattle.layout.proofs.Tests.{both_left, both_right}
use Rattle.walk.specs.declared.Entry.{Entry}
use Rattle.state.specs.declared.Held.{Held}
use Rattle.state.specs.Lists.{unflushed, no_held, entry_of, those}
use Rattle.state.specs.Moves.{taken, move_of, moved_by}
use Rattle.state.specs.Batch.{most_batch, is_waiting, batch_of, take_first, taken_of}
use Rattle.state.proofs.Bools.{both_fails}

-- a write joins a batch of so many
abbrev pub joins_by : ℕ → ℕ → Held → Bool
joins_by node many h = both (ltb many most_batch) (is_waiting node h)

pub record Taking (node : ℕ) (l out : List Held) (entries : List Entry) (i : ℕ) : Type 0 where
  pub front : List Held
  pub batch : List Held
  pub placed : length front ≡ i
  pub standing : out ≡ front ++ drop i l
  pub stored : entries ≡ map entry_of batch
  pub few : length batch ≤ most_batch
  pub moved : taken_of node l ≡ front ++ take_first (most_batch - length batch) node (drop i l)
  pub rest : batch_of node l ≡ batch ++ take (most_batch - length batch) (those (is_waiting node) (drop i l))

module _ (node : ℕ) where
  first_yes : (m : ℕ) (h : Held) (hs : List Held) → is_waiting node h ≡ true → take_first (suc m) node (h ∷ hs) ≡ moved_by taken h ∷ take_first m node hs
  unfolding take_first
  first_yes m h hs e = rw e

  first_no : (m : ℕ) (h : Held) (hs : List Held) → is_waiting node h ≡ false → take_first m node (h ∷ hs) ≡ h ∷ take_first m node hs
  unfolding take_first
  first_no zero h hs e = refl
  first_no (suc m) h hs e = rw e

  first_none : (h : Held) (hs : List Held) → take_first 0 node (h ∷ hs) ≡ h ∷ take_first 0 node hs
  unfolding take_first
  first_none h hs = refl

  those_yes : (h : Held) (hs : List Held) → is_waiting node h ≡ true → those (is_waiting node) (h ∷ hs) ≡ h ∷ those (is_waiting node) hs
  those_yes h hs e = rw e

  those_no : (h : Held) (hs : List Held) → is_waiting node h ≡ false → those (is_waiting node) (h ∷ hs) ≡ those (is_waiting node) hs
  those_no h hs e = rw e

  module _ (l : List Held) where
    pub taking_start : (entries : List Entry) → entries ≡ [] → Taking node l l entries 0
    unfolding batch_of
    taking_start entries e =
        record {
          front = [];
          batch = [];
          placed = refl;
          standing = refl;
          stored = e;
          few = omega arith;
          moved = refl;
          rest = refl;
        }

    module _ (out : List Held) (entries : List Entry) (i : ℕ) (k : Taking node l out entries i) (h : i < length l) where
      abbrev x : Held
      x = get_or l i no_held

      abbrev many : ℕ
      many = length k.batch

      -- what stands behind it
      abbrev ys : List Held
      ys = drop (i + 1) l

      -- what the pass reads is what stood there
      pub taking_read : get_or out i no_held ≡ get_or l i no_held
      taking_read =
          ap (λ o. get_or o i no_held) k.standing ∙ ap (λ d. get_or (k.front ++ d) i no_held) (drop-cons l i no_held h)
          ∙ get_or_at k.front x (drop (suc i) l) no_held i k.placed

      behind : drop i l ≡ x ∷ ys
      behind = drop-cons l i no_held h ∙ ap (λ j. x ∷ drop j l) (sym (add-one i))

      ahead : (y : Held) → length (k.front ++ y ∷ []) ≡ i + 1
      ahead y = length-append k.front (y ∷ []) ∙ let p = k.placed in omega arith

      pub taking_many : length entries ≡ many
      taking_many = ap length k.stored ∙ length-map k.batch entry_of

      pub taking_room : joins_by node (length entries) x ≡ true → length entries < most_batch
      taking_room e = ltb-true (length entries) most_batch (both_left _ _ e)

      taking_yes : (y : Held) → joins_by node many x ≡ true → y ≡ record { entry = x.entry; phase = move_of unflushed taken }
          → Taking node l (set out i y) (entries ++ x.entry ∷ []) (i + 1)
      taking_yes y e z =
          let w : is_waiting node x ≡ true = both_right (ltb many most_batch) _ e in
          let r : many < most_batch = ltb-true many most_batch (both_left _ _ e) in
          let m : most_batch - many ≡ suc (most_batch - (many + 1)) = omega arith in
          let p : x.phase ≡ unflushed = eqb-true _ _ (both_right (eqb x.entry.node node) _ w) in
          let v : y ≡ moved_by taken x = z ∙ ap (λ q. record { entry = x.entry; phase = move_of q taken }) (sym p) in
          let u : length (k.batch ++ x ∷ []) ≡ many + 1 = length-append k.batch (x ∷ []) in
          record {
            front = k.front ++ y ∷ [];
            batch = k.batch ++ x ∷ [];
            placed = ahead y;
            standing =
                ap (λ o. set o i y) (k.standing ∙ ap (◌++◌ k.front) behind) ∙ set_at k.front x ys y i k.placed ∙ sym (append_assoc k.front (y ∷ []) ys);
            stored = ap (λ es. es ++ x.entry ∷ []) k.stored ∙ sym (map-append entry_of k.batch (x ∷ []));
            few = omega arith;
            moved =
                rw u
                (k.moved ∙ ap (λ hs. k.front ++ take_first (most_batch - many) node hs) behind ∙ ap (λ j. k.front ++ take_first j node (x ∷ ys)) m
                ∙ ap (◌++◌ k.front) (first_yes (most_batch - (many + 1)) x ys w)
                ∙ ap (λ q. k.front ++ (q ∷ take_first (most_batch - (many + 1)) node ys)) (sym v)
                ∙ sym (append_assoc k.front (y ∷ []) (take_first (most_batch - (many + 1)) node ys)));
            rest =
                rw u
                (k.rest ∙ ap (λ hs. k.batch ++ take (most_batch - many) (those (is_waiting node) hs)) behind
                ∙ ap (λ j. k.batch ++ take j (those (is_waiting node) (x ∷ ys))) m
                ∙ ap (λ hs. k.batch ++ take (suc (most_batch - (many + 1))) hs) (those_yes x ys w)
                ∙ sym (append_assoc k.batch (x ∷ []) (take (most_batch - (many + 1)) (those (is_waiting node) ys))));
          }

      -- one that doesn't wait, or behind a full batch, is passed over
      passed_held : joins_by node many x ≡ false → take_first (most_batch - many) node (x ∷ ys) ≡ x ∷ take_first (most_batch - many) node ys
      passed_held e = at (ltb many most_batch) refl
        where
          at : (b : Bool) → ltb many most_batch ≡ b → take_first (most_batch - many) node (x ∷ ys) ≡ x ∷ take_first (most_batch - many) node ys
          at true t = first_no (most_batch - many) x ys (both_fails _ _ e t)
          at false t =
              let f = ltb-false many most_batch t in
              let z : most_batch - many ≡ 0 = omega arith in
              rw z (first_none x ys)

      passed_batch : joins_by node many x ≡ false → take (most_batch - many) (those (is_waiting node) (x ∷ ys)) ≡ take (most_batch - many) (those (is_waiting node) ys)
      passed_batch e = at (ltb many most_batch) refl
        where
          at : (b : Bool) → ltb many most_batch ≡ b → take (most_batch - many) (those (is_waiting node) (x ∷ ys)) ≡ take (most_batch - many) (those (is_waiting node) ys)
          at true t = ap (take (most_batch - many)) (those_no x ys (both_fails _ _ e t))
          at false t =
              let f = ltb-false many most_batch t in
              let z : most_batch - many ≡ 0 = omega arith in
              rw z refl

      taking_no : joins_by node many x ≡ false → Taking node l out entries (i + 1)
      taking_no e =
          record {
            front = k.front ++ x ∷ [];
            batch = k.batch;
            placed = ahead x;
            standing = k.standing ∙ ap (◌++◌ k.front) behind ∙ sym (append_assoc k.front (x ∷ []) ys);
            stored = k.stored;
            few = k.few;
            moved =
                k.moved ∙ ap (λ hs. k.front ++ take_first (most_batch - many) node hs) behind ∙ ap (◌++◌ k.front) (passed_held e)
                ∙ sym (append_assoc k.front (x ∷ []) (take_first (most_batch - many) node ys));
            rest = k.rest ∙ ap (λ hs. k.batch ++ take (most_batch - many) (those (is_waiting node) hs)) behind ∙ ap (◌++◌ k.batch) (passed_batch e);
          }

      -- the same of what the code reads and stores
      pub taken_one : (p : ℕ) (out' : List Held) (entries' : List Entry) → joins_by node (length entries) (get_or out i no_held) ≡ true → p ≡ move_of unflushed taken
          → out' ≡ set out i (record { entry = (get_or out i no_held).entry; phase = p }) → entries' ≡ entries ++ (get_or out i no_held).entry ∷ []
          → Taking node l out' entries' (i + 1)
      taken_one p out' entries' e v a b =
          let r = taking_read in
          rw (a, b, r) (taking_yes (record { entry = x.entry; phase = p }) (rw (r, taking_many) at e) (ap (λ q. record { entry = x.entry; phase = q }) v))

      pub passed_one : (out' : List Held) (entries' : List Entry) → joins_by node (length entries) (get_or out i no_held) ≡ false → out' ≡ out → entries' ≡ entries
          → Taking node l out' entries' (i + 1)
      passed_one out' entries' e a b = rw (a, b) (taking_no (rw (taking_read, taking_many) at e))

    take_none : (m : ℕ) → take {A = Held} m [] ≡ []
    take_none zero = refl
    take_none (suc m) = refl

    first_end : (m : ℕ) → take_first m node [] ≡ []
    unfolding take_first
    first_end zero = refl
    first_end (suc m) = refl

    module _ (out : List Held) (entries : List Entry) (i : ℕ) (k : Taking node l out entries i) (h : length l ≤ i) where
      none_left : drop i l ≡ []
      none_left = drop_all i l h

      pub taking_held : out ≡ taken_of node l
      taking_held =
          k.standing ∙ ap (◌++◌ k.front) none_left ∙ append-nil k.front
          ∙ sym (k.moved ∙ ap (λ hs. k.front ++ take_first (most_batch - length k.batch) node hs) none_left ∙ ap (◌++◌ k.front) (first_end (most_batch - length k.batch)) ∙ append-nil k.front)

      pub taking_entries : entries ≡ map entry_of (batch_of node l)
      taking_entries =
          k.stored
          ∙ ap (map entry_of)
          (sym (k.rest ∙ ap (λ hs. k.batch ++ take (most_batch - length k.batch) (those (is_waiting node) hs)) none_left ∙ ap (◌++◌ k.batch) (take_none (most_batch - length k.batch)) ∙ append-nil k.batch))
