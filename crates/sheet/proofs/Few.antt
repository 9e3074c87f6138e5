-- There are never more pieces than writes: each piece has a write that covers its start and begins behind the start of the piece before.
use Prim.Native.Nat.{ℕ, zero, suc, ◌+◌, ◌≤◌, ◌<◌}
use native.Mathlib.Nat.{eq-or-lt_of_le}
use native.Mathlib.Omega.{arith}
use mathlib.Core.Path.{◌≡◌, refl, subst}
use mathlib.Core.Bool.{Bool, true, false}
use mathlib.Core.Logic.{⊎_elim}
use mathlib.Core.List.{List, [], ◌∷◌}
use borrow.Author.Tests.{ltb-true, eq-eqb, lt-ltb, le-ltb}
use lib.ListN.{length, get_or}
use lib.Dec.{ltb}
use Rattle.std.specs.Prelude.{Option, Some}
use Rattle.layout.specs.Sizes.{largest}
use Rattle.layout.specs.Bytes.{both}
use Rattle.layout.proofs.Tests.{never, true_not_false, lt_or_le}
use Rattle.walk.specs.declared.Entry.{Entry}
use Rattle.walk.specs.Walk.{no_entry}
use Rattle.state.specs.Lists.{pick}
use Rattle.shore.proofs.Covering.{spans_in, spans_out}
use Rattle.sheet.specs.declared.Piece.{Piece}
use Rattle.sheet.specs.Sheet.{piece_size, goes_on}
use Rattle.sheet.specs.Places.{overlies, top_of, key_at, key_by, is_short, grow}
use Rattle.sheet.proofs.Right.{Last, AreThose, right}

module _ (es : List Entry) where
  abbrev off : ℕ → ℕ
  off i = (get_or es i no_entry).offset

  -- how many of the first n writes begin below p
  unfoldable below : ℕ → ℕ → ℕ
  below zero p = 0
  below (suc n) p = pick (ltb (off n) p) (suc (below n p)) (below n p)

  pick_at : (b : Bool) (m : ℕ) → (m ≤ pick b (suc m) m) × (pick b (suc m) m ≤ suc m)
  pick_at true m = (omega arith, omega arith)
  pick_at false m = (omega arith, omega arith)

  below_most : (n p : ℕ) → below n p ≤ n
  unfolding below
  below_most zero p = omega arith
  below_most (suc n) p = omega (arith, below_most n p, (pick_at (ltb (off n) p) (below n p)).1)

  -- a test that held at p holds at r
  pick_more : (a b : Bool) (m k d : ℕ) → (a ≡ true → b ≡ true) → m + d ≤ k → pick a (suc m) m + d ≤ pick b (suc k) k
  pick_more false b m k d f h = omega (arith, (pick_at b k).0)
  pick_more true true m k d f h = omega arith
  pick_more true false m k d f h = never (let z : false ≡ true = f refl in cc)

  below_up : (n p r : ℕ) → p ≤ r → below n p + 0 ≤ below n r
  unfolding below
  below_up zero p r h = omega arith
  below_up (suc n) p r h =
      pick_more (ltb (off n) p) (ltb (off n) r) (below n p) (below n r) 0 (λ e. lt-ltb (off n) r (omega (arith, ltb-true (off n) p e))) (below_up n p r h)

  -- one more where a write begins between
  below_more : (n i p r : ℕ) → i < n → p ≤ off i → off i < r → below n p + 1 ≤ below n r
  unfolding below
  below_more zero i p r h a b = absurd (let k : i < 0 = h in omega arith)
  below_more (suc n) i p r h a b =
      ⊎_elim here
      (λ k. pick_more (ltb (off n) p) (ltb (off n) r) (below n p) (below n r) 1 (λ e. lt-ltb (off n) r (omega (arith, ltb-true (off n) p e))) (below_more n i p r k a b))
      (eq-or-lt_of_le (let k : i ≤ n = omega arith in k))
    where
      here : i ≡ n → pick (ltb (off n) p) (suc (below n p)) (below n p) + 1 ≤ pick (ltb (off n) r) (suc (below n r)) (below n r)
      here e =
          let x : p ≤ off n = subst (λ m. p ≤ off m) e a in
          let y : off n < r = subst (λ m. off m < r) e b in
          rw (le-ltb (off n) p x, lt-ltb (off n) r y) (omega (arith, below_up n p r (omega arith)))

-- one of the first n entries covers p
pub record Hit (es : List Entry) (n p : ℕ) : Type 0 where
  pub i : ℕ
  pub is : i < n
  pub low : (get_or es i no_entry).offset ≤ p
  pub high : p < (get_or es i no_entry).offset + (get_or es i no_entry).length

module _ (es : List Entry) (p : ℕ) where
  hit_more : (n : ℕ) → Hit es n p → Hit es (suc n) p
  hit_more n w = record { i = w.i; is = omega (arith, w.is); low = w.low; high = w.high }

  hit_by : (n : ℕ) (b : Bool) → overlies p (get_or es n no_entry) ≡ b → (0 < key_at (top_of es n p) → Hit es n p) → 0 < key_at (pick b (Some n) (top_of es n p)) → Hit es (suc n) p
  hit_by n true e k h = let s = spans_out _ _ p e in record { i = n; is = omega arith; low = s.0; high = s.1 }
  hit_by n false e k h = hit_more n (k h)

  -- the newest that was found covers the place
  top_hit : (n : ℕ) → 0 < key_at (top_of es n p) → Hit es n p
  unfolding top_of
  top_hit zero h = absurd (let k : 0 < 0 = h in omega arith)
  top_hit (suc n) h = hit_by n (overlies p (get_or es n no_entry)) refl (top_hit n) h

  pick_one : (b : Bool) (n : ℕ) (o : Option ℕ) → key_at o ≡ 1 → key_at (pick b (Some n) o) ≡ 1
  pick_one true n o e = refl
  pick_one false n o e = e

  -- where one covers the place, one is found
  hit_top : (n i : ℕ) → i < n → overlies p (get_or es i no_entry) ≡ true → key_at (top_of es n p) ≡ 1
  unfolding top_of
  hit_top zero i h e = absurd (let k : i < 0 = h in omega arith)
  hit_top (suc n) i h e =
      ⊎_elim (λ x. let y : overlies p (get_or es n no_entry) ≡ true = subst (λ m. overlies p (get_or es m no_entry) ≡ true) x e in rw y refl)
      (λ x. pick_one (overlies p (get_or es n no_entry)) n (top_of es n p) (hit_top n i x e))
      (eq-or-lt_of_le (let k : i ≤ n = omega arith in k))

module _ (es : List Entry) (short : (i : ℕ) → i < length es → (get_or es i no_entry).length ≤ largest) where
  abbrev n : ℕ
  n = length es

  hit : (p : ℕ) → 0 < key_by es p → Hit es n p
  hit p h = top_hit es p n h

  hold : (p : ℕ) → Hit es n p → key_by es p ≡ 1
  hold p w = hit_top es p n w.i w.is (spans_in _ _ p w.low w.high)

  -- the write that covers a piece's start begins behind the start of the piece before
  apart : (q r : Piece) (e : ℕ) → Last (key_by es) e q → Last (key_by es) q.start r → goes_on is_short r q.start q.key ≡ false
      → (w : Hit es n q.start) → r.start < (get_or es w.i no_entry).offset
  unfolding goes_on both
  apart q r e tq tr j w = ⊎_elim (λ x. x) (λ x. absurd (⊎_elim (touch x) (gap x) (eq-or-lt_of_le tr.ends))) (lt_or_le r.start (get_or es w.i no_entry).offset)
    where
      gap : (get_or es w.i no_entry).offset ≤ r.start → r.start + r.size < q.start → ⊥
      gap x y =
          let z : key_by es (r.start + r.size) ≡ 0 = tr.bare (r.start + r.size) (omega arith) y in
          let v : key_by es (r.start + r.size) ≡ 1 = hold (r.start + r.size) (record { i = w.i; is = w.is; low = omega arith; high = omega (arith, w.high) }) in
          omega arith

      touch : (get_or es w.i no_entry).offset ≤ r.start → r.start + r.size ≡ q.start → ⊥
      touch x y =
          let m : r.size < piece_size = omega (arith, w.high, short w.i w.is) in
          let kq : key_by es q.start ≡ 1 = hold q.start w in
          let kq1 : key_by es q.start ≡ q.key = tq.held q.start (omega arith) (omega (arith, tq.some)) in
          let kr : key_by es r.start ≡ 1 = hold r.start (record { i = w.i; is = w.is; low = x; high = omega (arith, w.high, tr.some) }) in
          let kr1 : key_by es r.start ≡ r.key = tr.held r.start (omega arith) (omega (arith, tr.some)) in
          let same : r.key ≡ q.key = omega arith in
          true_not_false (goes_on is_short r q.start q.key) (rw (eq-eqb (r.start + r.size) q.start y, lt-ltb r.size piece_size m, eq-eqb r.key q.key same)) j

  few_below : (q : Piece) (qs : List Piece) (e : ℕ) → AreThose (key_by es) e (q ∷ qs) → length (q ∷ qs) ≤ below es n (q.start + 1)
  few_below q [] e g =
      let w : Hit es n q.start = hit q.start (omega (arith, g.0.held q.start (omega arith) (omega (arith, g.0.some)), g.0.keyed)) in
      omega (arith, below_more es n w.i 0 (q.start + 1) w.is (omega arith) (omega (arith, w.low)))
  few_below q (r ∷ qs) e g =
      let w : Hit es n q.start = hit q.start (omega (arith, g.0.held q.start (omega arith) (omega (arith, g.0.some)), g.0.keyed)) in
      let a = apart q r e g.0 g.2.0 g.1 w in
      omega (arith, few_below r qs q.start g.2, below_more es n w.i (r.start + 1) (q.start + 1) w.is (omega arith) (omega (arith, w.low)))

  few_of : (qs : List Piece) (e : ℕ) → AreThose (key_by es) e qs → length qs ≤ n
  few_of [] e g = omega arith
  few_of (q ∷ qs) e g = omega (arith, few_below q qs e g, below_most es n (q.start + 1))

  pub few_pieces : (e : ℕ) → length (grow (key_by es) e) ≤ n
  few_pieces e = few_of (grow (key_by es) e) e (right (key_by es) e)
