-- The paper's definition and the handier one are the same: runs cut into pieces are the pieces that grow at once.
use Prim.Native.Nat.{ℕ, zero, suc, ◌+◌, ◌-◌, ◌≤◌, ◌<◌}
use native.Mathlib.Numerals.{add-one}
use native.Mathlib.Omega.{arith}
use mathlib.Core.Path.{◌≡◌, refl, sym, ap, ◌∙◌}
use mathlib.Core.Bool.{Bool, true, false}
use mathlib.Core.Logic.{◌⊎◌, inl, inr}
use mathlib.Core.List.{List, [], ◌∷◌, ◌++◌, append_assoc}
use borrow.Author.Tests.{eqb-true, le-leb, lt-leb, eq-eqb, lt-ltb, le-ltb}
use lib.Dec.{eqb}
use Rattle.layout.specs.Bytes.{both}
use Rattle.layout.proofs.Tests.{both_left, both_right, lt_or_le}
use Rattle.walk.specs.Walk.{Write}
use Rattle.state.specs.Lists.{pick}
use Rattle.state.proofs.Bools.{no_both, both_no}
use Rattle.sheet.specs.declared.Piece.{Piece}
use Rattle.sheet.specs.Sheet.{piece_size, piece, key_of, end_of, goes_on, join, gather, always, runs, cut_in, cut_all, pieces_of}
use Rattle.std.proofs.lemmas.List.{reverse-append, reverse-reverse}
use Rattle.sheet.specs.Places.{is_short, grow, in_order}

-- ---- a list turned round

order_snoc : (qs : List Piece) (q : Piece) → in_order (qs ++ q ∷ []) ≡ q ∷ in_order qs
order_snoc qs q = reverse-append qs (q ∷ [])

-- ---- a run cut, and the run with one byte more

abbrev longer : Piece → Piece
longer q = piece q.start (q.size + 1) q.key

-- the last piece ends where the run ends; one byte more lengthens it, or begins a piece behind it when it is full
record Cut (m : ℕ) (q : Piece) : Type 0 where
  front : List Piece
  last : Piece
  are : cut_in m q ≡ front ++ last ∷ []
  ends : last.start + last.size ≡ q.start + q.size
  keyed : last.key ≡ q.key
  short : last.size < piece_size → cut_in (suc m) (longer q) ≡ front ++ longer last ∷ []
  full : piece_size ≤ last.size → cut_in (suc m) (longer q) ≡ (front ++ last ∷ []) ++ piece (q.start + q.size) 1 q.key ∷ []

cut_whole : (m : ℕ) (q : Piece) → q.size ≤ piece_size → cut_in (suc m) q ≡ q ∷ []
unfolding cut_in
cut_whole m q h = rw (le-leb q.size piece_size h)

-- the rest of a run that is longer than a piece
abbrev rest_of : Piece → Piece
rest_of q = piece (q.start + piece_size) (q.size - piece_size) q.key

cut_more : (m : ℕ) (q : Piece) → piece_size < q.size → cut_in (suc m) q ≡ piece q.start piece_size q.key ∷ cut_in m (rest_of q)
unfolding cut_in
cut_more m q h = rw (lt-leb q.size piece_size h)

cut_of : (m : ℕ) (q : Piece) → 0 < q.size → q.size ≤ m → Cut m q
cut_of zero q s h = absurd (let w : ⊥ = omega arith in w)
cut_of (suc m) q s h = at (lt_or_le piece_size q.size) (cut_of m (rest_of q))
  where
    at : (piece_size < q.size) ⊎ (q.size ≤ piece_size) → (0 < q.size - piece_size → q.size - piece_size ≤ m → Cut m (rest_of q)) → Cut (suc m) q
    at (inr l) k =
        record {
          front = [];
          last = q;
          are = cut_whole m q l;
          ends = refl;
          keyed = refl;
          short = λ x. cut_whole (suc m) (longer q) (omega arith);
          full = λ x.
              let e : q.size ≡ piece_size = omega arith in
              let d : q.size + 1 - piece_size ≡ 1 = omega arith in
              cut_more (suc m) (longer q) (omega arith)
              ∙ ap (λ (l : List Piece). piece q.start piece_size q.key ∷ l) (cut_whole m (rest_of (longer q)) (omega arith))
              ∙ ap (λ (n : ℕ). piece q.start piece_size q.key ∷ piece (q.start + piece_size) n q.key ∷ []) d
              ∙ ap (λ (n : ℕ). piece q.start n q.key ∷ piece (q.start + n) 1 q.key ∷ []) (sym e);
        }
    at (inl l) k =
        let c = k (omega arith) (omega arith) in
        let d : q.size + 1 - piece_size ≡ q.size - piece_size + 1 = omega arith in
        let a : q.start + piece_size + (q.size - piece_size) ≡ q.start + q.size = omega arith in
        let first = piece q.start piece_size q.key in
        let more : cut_in (suc (suc m)) (longer q) ≡ first ∷ cut_in (suc m) (longer (rest_of q)) =
        cut_more (suc m) (longer q) (omega arith)
        ∙ ap (λ (n : ℕ). first ∷ cut_in (suc m) (piece (q.start + piece_size) n q.key)) d in
        record {
          front = first ∷ c.front;
          last = c.last;
          are = cut_more m q l ∙ ap (λ (l : List Piece). first ∷ l) c.are;
          ends = c.ends ∙ a;
          keyed = c.keyed;
          short = λ x. more ∙ ap (λ (l : List Piece). first ∷ l) (c.short x);
          full = λ x. more ∙ ap (λ (l : List Piece). first ∷ l) (c.full x)
              ∙ ap (λ (n : ℕ). first ∷ ((c.front ++ c.last ∷ []) ++ piece n 1 q.key ∷ [])) a;
        }

-- ---- runs, and their pieces last first

abbrev pieces : List Piece → List Piece
pieces rs = in_order (cut_all rs)

-- a run that is cut in two parts, the second of one piece
pieces_by : (r : Piece) (rs front : List Piece) (last : Piece) → cut_in r.size r ≡ front ++ last ∷ [] → pieces (r ∷ rs) ≡ last ∷ in_order (cut_all rs ++ front)
unfolding cut_all
pieces_by r rs front last e =
    ap (λ (l : List Piece). in_order (cut_all rs ++ l)) e
    ∙ ap in_order (sym (append_assoc (cut_all rs) front (last ∷ [])))
    ∙ order_snoc (cut_all rs ++ front) last

-- a byte that begins a run
pieces_new : (p k : ℕ) (rs : List Piece) → pieces (piece p 1 k ∷ rs) ≡ piece p 1 k ∷ pieces rs
unfolding cut_all
pieces_new p k rs =
    ap (λ (l : List Piece). in_order (cut_all rs ++ l)) (cut_whole 0 (piece p 1 k) (omega arith)) ∙ order_snoc (cut_all rs) (piece p 1 k)

-- the last run has a byte
abbrev Some : List Piece → Type 0
Some [] = Unit {0}
Some (r ∷ rs) = 0 < r.size

joined_some : (k p : ℕ) (rs : List Piece) → Some rs → Some (join always k p rs)
joined_some zero p rs o = o
joined_some (suc k) p [] o = omega arith
joined_some (suc k) p (r ∷ rs) o = at (goes_on always r p (suc k))
  where
    at : (b : Bool) → Some (pick b (longer r ∷ rs) (piece p 1 (suc k) ∷ r ∷ rs))
    at true = omega arith
    at false = omega arith

runs_some : (key : ℕ → ℕ) (p : ℕ) → Some (runs key p)
unfolding gather
runs_some key zero = tt
runs_some key (suc p) = joined_some (key p) p (runs key p) (runs_some key p)

-- a test that fails though its middle part holds
both_middle : (a b c : Bool) → both a (both true c) ≡ false → both a (both b c) ≡ false
unfolding both
both_middle false b c e = refl
both_middle true true c e = e
both_middle true false c e = refl

goes_full : (q : Piece) (p k : ℕ) → piece_size ≤ q.size → goes_on is_short q p k ≡ false
unfolding goes_on
goes_full q p k h =
    ap (λ (b : Bool). both (eqb (q.start + q.size) p) (both b (eqb q.key k))) (le-ltb q.size piece_size h)
    ∙ ap (both (eqb (q.start + q.size) p)) (no_both (eqb q.key k)) ∙ both_no (eqb (q.start + q.size) p)

goes_short : (q : Piece) (p k : ℕ) → q.size < piece_size → q.start + q.size ≡ p → q.key ≡ k → goes_on is_short q p k ≡ true
unfolding goes_on both
goes_short q p k h e f = rw (eq-eqb _ _ e, lt-ltb _ _ h, eq-eqb _ _ f)

-- the last piece doesn't go on where its run doesn't
goes_neither : (r q : Piece) (p k : ℕ) → q.start + q.size ≡ r.start + r.size → q.key ≡ r.key → goes_on always r p k ≡ false → goes_on is_short q p k ≡ false
unfolding goes_on
goes_neither r q p k e f z =
    ap (λ (n : ℕ). both (eqb n p) (both (is_short q.size) (eqb q.key k))) e
    ∙ ap (λ (n : ℕ). both (eqb (r.start + r.size) p) (both (is_short q.size) (eqb n k))) f
    ∙ both_middle (eqb (r.start + r.size) p) (is_short q.size) (eqb r.key k) z

-- ---- one byte more: the pieces grow as the runs do

module _ (r : Piece) (rs : List Piece) (p k : ℕ) (c : Cut r.size r) where
  abbrev before : List Piece
  before = in_order (cut_all rs ++ c.front)

  -- how the last piece goes on
  grows : (b : Bool) → goes_on is_short c.last p (suc k) ≡ b
      → join is_short (suc k) p (pieces (r ∷ rs)) ≡ pick b (longer c.last ∷ before) (piece p 1 (suc k) ∷ c.last ∷ before)
  grows b e = ap (join is_short (suc k) p) (pieces_by r rs c.front c.last c.are) ∙ ap (λ (t : Bool). pick t (longer c.last ∷ before) (piece p 1 (suc k) ∷ c.last ∷ before)) e

  goes : r.start + r.size ≡ p → r.key ≡ suc k → join is_short (suc k) p (pieces (r ∷ rs)) ≡ pieces (longer r ∷ rs)
  goes e f = at (lt_or_le c.last.size piece_size)
    where
      one : cut_in (r.size + 1) (longer r) ≡ cut_in (suc r.size) (longer r)
      one = ap (λ (n : ℕ). cut_in n (longer r)) (add-one r.size)

      at : (c.last.size < piece_size) ⊎ (piece_size ≤ c.last.size) → join is_short (suc k) p (pieces (r ∷ rs)) ≡ pieces (longer r ∷ rs)
      at (inl l) =
          grows true (goes_short c.last p (suc k) l (c.ends ∙ e) (c.keyed ∙ f))
          ∙ sym (pieces_by (longer r) rs c.front (longer c.last) (one ∙ c.short l))
      at (inr l) =
          grows false (goes_full c.last p (suc k) l)
          ∙ sym
          (pieces_by (longer r) rs (c.front ++ c.last ∷ []) (piece p 1 (suc k))
          (one ∙ c.full l
          ∙ ap (λ (n : ℕ). (c.front ++ c.last ∷ []) ++ piece n 1 r.key ∷ []) e
          ∙ ap (λ (n : ℕ). (c.front ++ c.last ∷ []) ++ piece p 1 n ∷ []) f)
          ∙ ap (λ (l : List Piece). piece p 1 (suc k) ∷ l)
          (ap in_order (sym (append_assoc (cut_all rs) c.front (c.last ∷ []))) ∙ order_snoc (cut_all rs ++ c.front) c.last))

  stays : goes_on always r p (suc k) ≡ false → join is_short (suc k) p (pieces (r ∷ rs)) ≡ pieces (piece p 1 (suc k) ∷ r ∷ rs)
  stays e =
      grows false (goes_neither r c.last p (suc k) c.ends c.keyed e)
      ∙ sym (pieces_new p (suc k) (r ∷ rs) ∙ ap (λ (l : List Piece). piece p 1 (suc k) ∷ l) (pieces_by r rs c.front c.last c.are))

  join_by : (b : Bool) → goes_on always r p (suc k) ≡ b → join is_short (suc k) p (pieces (r ∷ rs)) ≡ pieces (pick b (longer r ∷ rs) (piece p 1 (suc k) ∷ r ∷ rs))
  unfolding goes_on
  join_by true e =
      goes (eqb-true _ _ (both_left _ _ e)) (eqb-true _ _ (both_right true _ (both_right (eqb (r.start + r.size) p) _ e)))
  join_by false e = stays e

join_cut : (k p : ℕ) (rs : List Piece) → Some rs → join is_short k p (pieces rs) ≡ pieces (join always k p rs)
unfolding cut_all
join_cut zero p rs o = refl
join_cut (suc k) p [] o = sym (pieces_new p (suc k) [])
join_cut (suc k) p (r ∷ rs) o = join_by r rs p k (cut_of r.size r o (omega arith)) (goes_on always r p (suc k)) refl

grown_cut : (key : ℕ → ℕ) (p : ℕ) → grow key p ≡ pieces (runs key p)
unfolding gather cut_all
grown_cut key zero = refl
grown_cut key (suc p) = ap (join is_short (key p) p) (grown_cut key p) ∙ join_cut (key p) p (runs key p) (runs_some key p)

pub cut_grown : (key : ℕ → ℕ) (p : ℕ) → cut_all (runs key p) ≡ in_order (grow key p)
cut_grown key p = sym (reverse-reverse (cut_all (runs key p))) ∙ ap in_order (sym (grown_cut key p))

pub pieces_grown : (ws : List Write) → pieces_of ws ≡ in_order (grow (key_of ws) (end_of ws))
unfolding pieces_of
pieces_grown ws = cut_grown (key_of ws) (end_of ws)
