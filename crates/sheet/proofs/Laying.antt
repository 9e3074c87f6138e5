-- A sheet read back from its bytes and laid on any file gives what the batch laid in number order gives.
use Prim.Native.Nat.{ℕ, zero, suc, ◌+◌, ◌-◌, ◌≤◌, ◌<◌}
use native.Mathlib.Omega.{arith}
use mathlib.Core.Path.{◌≡◌, refl, sym, ap, ◌∙◌}
use mathlib.Core.Bool.{Bool, true, false}
use mathlib.Core.Logic.{◌⊎◌, inl, inr}
use mathlib.Core.List.{List, [], ◌∷◌, ◌++◌}
use borrow.Author.Tests.{lt-ltb, le-ltb}
use lib.ListN.{length, get_or}
use lib.Dec.{eqb, ltb}
use Rattle.layout.specs.Sizes.{file_end}
use Rattle.layout.specs.Bytes.{both, bytes_at}
use Rattle.layout.proofs.Tests.{lt_or_le}
use Rattle.layout.proofs.Views.{bytes_length, bytes_get}
use Rattle.walk.specs.Walk.{Write}
use Rattle.state.specs.Lists.{pick, any, all}
use Rattle.state.proofs.Bools.{both_no, yes_both}
use Rattle.state.proofs.Pairs.{any_append}
use Rattle.state.proofs.Finding.{Each, each_join}
use Rattle.shore.specs.File.{Put, lay, puts, puts_all}
use Rattle.shore.specs.Cover.{spans, covers}
use Rattle.shore.proofs.Files.{look, touches, look_append, touched_settles, alike, alike_lay}
use Rattle.shore.proofs.Covering.{spans_in, spans_before, spans_after, spans_out, look_puts, touch_puts, look_all, touch_all}
use Rattle.sheet.specs.declared.Piece.{Piece}
use Rattle.sheet.specs.Sheet.{byte_of, key_of, end_of, pieces_of, sheet_by, sheet_of, node_in, puts_in}
use Rattle.sheet.specs.Places.{grow, in_order}
use Rattle.sheet.proofs.Right.{AreThose, right}
use Rattle.sheet.proofs.Cutting.{pieces_grown}
use Rattle.std.proofs.lemmas.List.{length-reverse, reverse-append}
use Rattle.sheet.proofs.Covered.{ends_by, end_within, grow_few, covered_key, bare_key, covered_below}
use Rattle.sheet.proofs.Reading.{word_end, Fits, puts_for, read_node, read_back}

-- ---- what pieces lay, at a place

module _ (b : ℕ → ℕ) (i : ℕ) where
  piece_byte : (s n d : ℕ) → look (puts s (bytes_at b s n)) i d ≡ pick (touches i (puts s (bytes_at b s n))) (b i) d
  piece_byte s n d = look_puts (bytes_at b s n) s i d ∙ at (spans s (length (bytes_at b s n)) i) refl
      ∙ ap (λ (t : Bool). pick t (b i) d) (sym (touch_puts (bytes_at b s n) s i))
    where
      at : (t : Bool) → spans s (length (bytes_at b s n)) i ≡ t → pick t (get_or (bytes_at b s n) (i - s) 0) d ≡ pick t (b i) d
      at false e = refl
      at true e =
          let h = spans_out s (length (bytes_at b s n)) i e in
          let l = bytes_length b s n in
          let z : s + (i - s) ≡ i = omega (arith, h.0) in
          bytes_get n b s (i - s) (omega (arith, h.0, h.1)) ∙ ap b z

  -- what is laid there is the byte of the place
  pub for_looks : (qs : List Piece) (d : ℕ) → look (puts_for b qs) i d ≡ pick (touches i (puts_for b qs)) (b i) d
  unfolding puts_for look
  for_looks [] d = refl
  for_looks (q ∷ qs) d =
      let ps = puts q.start (bytes_at b q.start q.size) in
      look_append ps (puts_for b qs) i d
      ∙ for_looks qs (look ps i d)
      ∙ ap (pick (touches i (puts_for b qs)) (b i)) (piece_byte q.start q.size d)
      ∙ at (touches i ps) (touches i (puts_for b qs))
      ∙ ap (λ (t : Bool). pick t (b i) d) (sym (any_append (λ p. eqb p.place i) ps (puts_for b qs)))
    where
      at : (t u : Bool) → pick u (b i) (pick t (b i) d) ≡ pick (pick t true u) (b i) d
      at true true = refl
      at true false = refl
      at false u = refl

  -- and places are laid where a piece has them
  pub for_touches : (qs : List Piece) → touches i (puts_for b qs) ≡ any (λ q. spans q.start q.size i) qs
  unfolding puts_for
  for_touches [] = refl
  for_touches (q ∷ qs) =
      let bs = bytes_at b q.start q.size in
      any_append (λ p. eqb p.place i) (puts q.start bs) (puts_for b qs)
      ∙ ap (λ (t : Bool). pick t true (touches i (puts_for b qs)))
      (touch_puts bs q.start i ∙ ap (λ (n : ℕ). spans q.start n i) (bytes_length b q.start q.size))
      ∙ ap (pick (spans q.start q.size i) true) (for_touches qs)

-- ---- the pieces of a key have the places that it covers

module _ (key : ℕ → ℕ) (i : ℕ) where
  abbrev held : Piece → Bool
  held q = spans q.start q.size i

  pub those_cover : (e : ℕ) (qs : List Piece) → AreThose key e qs → any held qs ≡ both (ltb i e) (ltb 0 (key i))
  unfolding both
  those_cover e [] g = at (lt_or_le i e)
    where
      at : (i < e) ⊎ (e ≤ i) → false ≡ both (ltb i e) (ltb 0 (key i))
      at (inl h) = rw (lt-ltb i e h, g i h)
      at (inr h) = rw (le-ltb i e h)
  those_cover e (q ∷ qs) g = at (lt_or_le i q.start) (lt_or_le i (q.start + q.size)) (lt_or_le i e) (those_cover q.start qs g.2)
    where
      ends : q.start + q.size ≤ e
      ends = g.0.ends

      at : (i < q.start) ⊎ (q.start ≤ i) → (i < q.start + q.size) ⊎ (q.start + q.size ≤ i) → (i < e) ⊎ (e ≤ i)
          → any held qs ≡ both (ltb i q.start) (ltb 0 (key i)) → any held (q ∷ qs) ≡ both (ltb i e) (ltb 0 (key i))
      at (inl h) k l r = rw (spans_before q.start q.size i h, r, lt-ltb i q.start h, lt-ltb i e (omega (arith, ends)))
      at (inr h) (inl k) l r =
          rw (spans_in q.start q.size i h k, lt-ltb i e (omega (arith, ends)), g.0.held i h k) (sym (lt-ltb 0 q.key g.0.keyed))
      at (inr h) (inr k) (inl l) r = rw (spans_after q.start q.size i k, r, le-ltb i q.start h, lt-ltb i e l, g.0.bare i k l)
      at (inr h) (inr k) (inr l) r = rw (spans_after q.start q.size i k, r, le-ltb i q.start h, le-ltb i e l)

-- they fit a sheet's bytes
those_fit : (key : ℕ → ℕ) (e : ℕ) (qs : List Piece) → AreThose key e qs → e ≤ file_end → Each Fits qs
those_fit key e [] g h = tt
those_fit key e (q ∷ qs) g h =
    let a : q.start + q.size ≤ e = g.0.ends in
    (record { start = omega arith; size = omega arith }, those_fit key q.start qs g.2 (omega arith))

-- ---- a list turned round has the same pieces

order_any : (p : Piece → Bool) (qs : List Piece) → any p (in_order qs) ≡ any p qs
order_any p [] = refl
order_any p (q ∷ qs) = ap (any p) (reverse-append (q ∷ []) qs) ∙ any_append p (in_order qs) (q ∷ []) ∙ ap (λ (t : Bool). pick t true (any p (q ∷ []))) (order_any p qs) ∙ at (p q) (any p qs)
  where
    at : (t u : Bool) → pick u true (pick t true false) ≡ pick t true u
    at true true = refl
    at true false = refl
    at false true = refl
    at false false = refl

each_snoc : (P : Piece → Type 0) (qs : List Piece) (q : Piece) → Each P qs → P q → Each P (qs ++ q ∷ [])
each_snoc P [] q o k = (k, tt)
each_snoc P (r ∷ qs) q o k = (o.0, each_snoc P qs q o.1 k)

pub order_each : (P : Piece → Type 0) (qs : List Piece) → Each P qs → Each P (in_order qs)
order_each P [] o = tt
order_each P (q ∷ qs) o = rw (reverse-append (q ∷ []) qs) (each_snoc P (in_order qs) q (order_each P qs o.1) o.0)

-- ---- the sheet of a batch

module _ (ws : List Write) where
  -- a key is above 0 below the end exactly where a write covers the place
  key_tells : (i : ℕ) → both (ltb i (end_of ws)) (ltb 0 (key_of ws i)) ≡ any (covers i) ws
  key_tells i = at (any (covers i) ws) refl
    where
      at : (t : Bool) → any (covers i) ws ≡ t → both (ltb i (end_of ws)) (ltb 0 (key_of ws i)) ≡ t
      at true e = rw (lt-ltb i (end_of ws) (covered_below ws i e), covered_key ws i e) (yes_both true)
      at false e = rw (bare_key ws i e) (both_no (ltb i (end_of ws)))

  module _ (within : all (ends_by file_end) ws ≡ true) (node : ℕ) (tail : List ℕ) where
    ends : end_of ws ≤ file_end
    ends = end_within file_end ws within

    sheet_puts : puts_in (sheet_of node ws ++ tail) ≡ puts_for (byte_of ws) (in_order (grow (key_of ws) (end_of ws)))
    unfolding sheet_of
    sheet_puts =
        let gs = grow (key_of ws) (end_of ws) in
        ap (λ (qs : List Piece). puts_in (sheet_by (byte_of ws) node qs ++ tail)) (pieces_grown ws)
        ∙ read_back (byte_of ws) node (in_order gs) tail (omega (arith, length-reverse gs, grow_few (key_of ws) (end_of ws), ends))
        (order_each Fits gs (those_fit (key_of ws) (end_of ws) gs (right (key_of ws) (end_of ws)) ends))

    pub sheet_touches : (i : ℕ) → touches i (puts_in (sheet_of node ws ++ tail)) ≡ any (covers i) ws
    sheet_touches i =
        let gs = grow (key_of ws) (end_of ws) in
        ap (touches i) sheet_puts
        ∙ for_touches (byte_of ws) i (in_order gs)
        ∙ order_any (λ q. spans q.start q.size i) gs
        ∙ those_cover (key_of ws) i (end_of ws) gs (right (key_of ws) (end_of ws))
        ∙ key_tells i

    pub sheet_looks : (i : ℕ) → touches i (puts_in (sheet_of node ws ++ tail)) ≡ true → (d : ℕ) → look (puts_in (sheet_of node ws ++ tail)) i d ≡ look (puts_all ws) i d
    sheet_looks i t d =
        let gs = in_order (grow (key_of ws) (end_of ws)) in
        let c : touches i (puts_all ws) ≡ true = touch_all ws i ∙ sym (sheet_touches i) ∙ t in
        ap (λ (ps : List Put). look ps i d) sheet_puts
        ∙ for_looks (byte_of ws) i gs d
        ∙ ap (λ (b : Bool). pick b (byte_of ws i) d) (ap (touches i) (sym sheet_puts) ∙ t)
        ∙ sym (touched_settles (puts_all ws) i c d 0 ∙ look_all ws i 0)

    pub sheet_lays : (f : List ℕ) → lay f (puts_in (sheet_of node ws ++ tail)) ≡ lay f (puts_all ws)
    sheet_lays =
        alike_lay (puts_in (sheet_of node ws ++ tail)) (puts_all ws)
        (alike (puts_in (sheet_of node ws ++ tail)) (puts_all ws) (λ i. sheet_touches i ∙ sym (touch_all ws i)) sheet_looks)

    -- each put has the byte of the newest write at its place
    puts_bytes : (p n : ℕ) → Each (λ q. q.byte ≡ byte_of ws q.place) (puts p (bytes_at (byte_of ws) p n))
    unfolding puts bytes_at
    puts_bytes p zero = tt
    puts_bytes p (suc n) = (refl, puts_bytes (suc p) n)

    for_bytes : (qs : List Piece) → Each (λ q. q.byte ≡ byte_of ws q.place) (puts_for (byte_of ws) qs)
    unfolding puts_for
    for_bytes [] = tt
    for_bytes (q ∷ qs) = each_join _ (puts q.start (bytes_at (byte_of ws) q.start q.size)) (puts_for (byte_of ws) qs) (puts_bytes q.start q.size) (for_bytes qs)

    pub sheet_bytes : Each (λ q. q.byte ≡ byte_of ws q.place) (puts_in (sheet_of node ws ++ tail))
    sheet_bytes = rw sheet_puts (for_bytes (in_order (grow (key_of ws) (end_of ws))))

    pub sheet_node : node < word_end → node_in (sheet_of node ws ++ tail) ≡ node
    unfolding sheet_of
    sheet_node h = read_node (byte_of ws) node (pieces_of ws) tail h
