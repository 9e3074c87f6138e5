-- Painting: a piece's bytes as the writes are laid over each other, oldest first.
use Prim.Native.Nat.{ℕ, ◌+◌, ◌-◌, ◌*◌, ◌≤◌, ◌<◌, min, max}
use native.Mathlib.Omega.{arith}
use mathlib.Core.Path.{◌≡◌, refl, sym, ap, ◌∙◌}
use mathlib.Core.Bool.{Bool, true, false}
use mathlib.Core.Logic.{◌⊎◌, inl, inr}
use mathlib.Core.List.{List, ◌++◌}
use lib.ListN.{length, get_or, take, drop, length-append, length-drop, get_or-append}
use borrow.Rule.Slice.PartMut.{put_mid}
use Rattle.sheet.proofs.Storing.{part_back, part_long}
use lib.Seq.{ext_get_or, get_or-take, get_or-drop, get_or-append-add, length-take-le}
use Rattle.layout.specs.Sizes.{slot_size, head_size}
use Rattle.layout.specs.Bytes.{bytes_at}
use Rattle.layout.proofs.Tests.{lt_or_le}
use Rattle.layout.proofs.Views.{bytes_get, bytes_length}
use Rattle.walk.specs.declared.Entry.{Entry}
use Rattle.walk.specs.Entry.{data_of}
use Rattle.walk.specs.Walk.{no_entry}
use Rattle.state.specs.Lists.{pick}
use Rattle.shore.proofs.Covering.{spans_in, spans_before, spans_after}
use Rattle.sheet.specs.Places.{overlies, top_of, key_at, byte_from, byte_by, Covered, Painted}
use Rattle.sheet.proofs.Walking.{top_over, top_under}

-- ---- one write

-- a list with its bytes from a up to b replaced
module _ (d m : List ℕ) (a b : ℕ) (h : a ≤ b) (n : b ≤ length d) (l : length m ≡ b - a) where
  abbrev put : List ℕ
  put = take a d ++ m ++ drop b d

  front : length (take a d) ≡ a
  front = length-take-le a d (omega arith)

  both_long : length (take a d ++ m) ≡ b
  both_long = length-append (take a d) m ∙ omega (arith, front)

  span_long : length put ≡ length d
  span_long = length-append (take a d ++ m) (drop b d) ∙ omega (arith, both_long, length-drop b d)

  span_before : (k : ℕ) → k < a → get_or put k 0 ≡ get_or d k 0
  span_before k o =
      get_or-append (take a d ++ m) (drop b d) 0 k (omega (arith, both_long)) ∙ get_or-append (take a d) m 0 k (omega (arith, front)) ∙ get_or-take a d k 0 o

  span_in : (k : ℕ) → a ≤ k → k < b → get_or put k 0 ≡ get_or m (k - a) 0
  span_in k o p =
      let z : k ≡ length (take a d) + (k - a) = omega (arith, front) in
      get_or-append (take a d ++ m) (drop b d) 0 k (omega (arith, both_long))
      ∙ ap (λ i. get_or (take a d ++ m) i 0) z ∙ get_or-append-add (take a d) m (k - a) 0

  span_after : (k : ℕ) → b ≤ k → get_or put k 0 ≡ get_or d k 0
  span_after k o =
      let z : k ≡ length (take a d ++ m) + (k - b) = omega (arith, both_long) in
      let y : b + (k - b) ≡ k = omega arith in
      ap (λ i. get_or put i 0) z ∙ get_or-append-add (take a d ++ m) (drop b d) (k - b) 0 ∙ get_or-drop b d (k - b) 0 ∙ ap (λ i. get_or d i 0) y

-- byte k of the places is that byte of the write
there : (offset start from k : ℕ) → offset ≤ from → start ≤ from → from - start ≤ k → from - offset + (k - (from - start)) ≡ start + k - offset
there offset start from k h l o = omega arith

module _ (f : ℕ → ℕ) (e : Entry) (start : ℕ) (d : List ℕ) where
  -- where the write and the places don't overlap, all stays
  pub paint_none : min (e.offset + e.length) (start + length d) ≤ max e.offset start → Painted f e start d d
  paint_none h = record { same = refl; each = λ k l. at k l (lt_or_le (start + k) e.offset) }
    where
      at : (k : ℕ) → k < length d → (start + k < e.offset) ⊎ (e.offset ≤ start + k)
          → get_or d k 0 ≡ pick (overlies (start + k) e) (get_or (data_of f e) (start + k - e.offset) 0) (get_or d k 0)
      at k l (inl o) = rw (spans_before e.offset e.length (start + k) o)
      at k l (inr o) = rw (spans_after e.offset e.length (start + k) (omega arith))

  -- and where they do, the overlap gets the write's bytes
  module _ (from until : ℕ) (x : from ≡ max e.offset start) (y : until ≡ min (e.offset + e.length) (start + length d)) (h : from < until) where
    abbrev a : ℕ
    a = from - start

    abbrev b : ℕ
    b = until - start

    abbrev m : List ℕ
    m = take (b - a) (drop (from - e.offset) (data_of f e))

    low : a ≤ b
    low = omega arith

    high : b ≤ length d
    high = omega arith

    size : b - a ≡ until - from
    size = omega arith

    room : until - from ≤ e.length - (from - e.offset)
    room = omega arith

    long : length m ≡ b - a
    long =
        length-take-le (b - a) (drop (from - e.offset) (data_of f e))
        (rw (length-drop (from - e.offset) (data_of f e), bytes_length f (e.slot * slot_size + head_size) e.length, size) room)

    pub paint_span : (part : List ℕ) → part ≡ take (length (take (b - a) (drop a d))) (drop (from - e.offset) (data_of f e)) → Painted f e start d (put_mid a (b - a) d part)
    paint_span part p =
        let z = part_back a b d part m low (p ∙ ap (λ n. take n (drop (from - e.offset) (data_of f e))) (part_long a b d low high)) in
        record { same = ap length z ∙ span_long d m a b low high long; each = λ k l. ap (λ q. get_or q k 0) z ∙ at k l (lt_or_le k a) (lt_or_le k b) }
      where
        at : (k : ℕ) → k < length d → (k < a) ⊎ (a ≤ k) → (k < b) ⊎ (b ≤ k)
            → get_or (take a d ++ m ++ drop b d) k 0 ≡ pick (overlies (start + k) e) (get_or (data_of f e) (start + k - e.offset) 0) (get_or d k 0)
        at k l (inl o) p = rw (spans_before e.offset e.length (start + k) (omega arith)) (span_before d m a b low high long k o)
        at k l (inr o) (inl p) =
            rw (spans_in e.offset e.length (start + k) (omega arith) (omega arith))
            (span_in d m a b low high long k o p ∙ get_or-take (b - a) (drop (from - e.offset) (data_of f e)) (k - a) 0 (omega arith)
            ∙ get_or-drop (from - e.offset) (data_of f e) (k - a) 0 ∙ ap (λ i. get_or (data_of f e) i 0) (there e.offset start from k (omega arith) (omega arith) o))
        at k l (inr o) (inr p) = rw (spans_after e.offset e.length (start + k) (omega arith)) (span_after d m a b low high long k p)

-- ---- the first i writes, one over the other: each byte that they cover is that of the newest

pub record Painting (f : ℕ → ℕ) (es : List Entry) (start : ℕ) (out₀ out : List ℕ) (i : ℕ) : Type 0 where
  pub same : length out ≡ length out₀
  pub each : (k : ℕ) → k < length out₀ → 0 < key_at (top_of es i (start + k)) → get_or out k 0 ≡ byte_from f es (start + k) (top_of es i (start + k))

module _ (f : ℕ → ℕ) (es : List Entry) (start : ℕ) (out₀ : List ℕ) where
  pub paint_start : Painting f es start out₀ out₀ 0
  unfolding top_of
  paint_start = record { same = refl; each = λ k h t. absurd (let z : 0 < 0 = t in omega arith) }

  module _ (out : List ℕ) (i : ℕ) (o : Painting f es start out₀ out i) where
    pub paint_on : (new : List ℕ) → Painted f (get_or es i no_entry) start out new → Painting f es start out₀ new (i + 1)
    paint_on new p =
        record {
          same = p.same ∙ o.same;
          each = λ k h t. p.each k (omega (arith, o.same)) ∙ at k h (overlies (start + k) (get_or es i no_entry)) refl t;
        }
      where
        at : (k : ℕ) → k < length out₀ → (b : Bool) → overlies (start + k) (get_or es i no_entry) ≡ b → 0 < key_at (top_of es (i + 1) (start + k))
            → pick b (get_or (data_of f (get_or es i no_entry)) (start + k - (get_or es i no_entry).offset) 0) (get_or out k 0)
            ≡ byte_from f es (start + k) (top_of es (i + 1) (start + k))
        at k h true e t = ap (byte_from f es (start + k)) (top_over es i (start + k) e)
        at k h false e t = let z = top_under es i (start + k) e in o.each k h (rw z t) ∙ ap (byte_from f es (start + k)) z

    -- every place of a piece is covered
    pub paint_done : Covered es start (length out₀) → i ≡ length es → out ≡ bytes_at (byte_by f es) start (length out₀)
    unfolding byte_by
    paint_done c z =
        ext_get_or 0 _ _ (o.same ∙ sym (bytes_length (byte_by f es) start (length out₀)))
        (λ k h.
        let h' : k < length out₀ = omega (arith, o.same) in
        o.each k h' (rw z (c.each (start + k) (omega arith) (omega arith))) ∙ ap (λ j. byte_from f es (start + k) (top_of es j (start + k))) z
        ∙ sym (bytes_get (length out₀) (byte_by f es) start k h'))
