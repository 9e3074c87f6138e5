-- The bytes of a fill, beside a file: what was fetched from a shore file, with the held writes laid over it.
-- Document 01, "Moves", paragraph "Fill".
use Prim.Native.Nat.{ℕ, zero, suc, ◌+◌, ◌-◌, ◌≤◌, ◌<◌, max, min}
use native.Mathlib.Nat.{add-zero}
use mathlib.Core.Path.{◌≡◌, refl, sym, ap, ◌∙◌}
use mathlib.Core.Logic.{◌⊎◌, inl, inr}
use mathlib.Core.List.{List, [], ◌∷◌}
use native.Mathlib.Omega.{arith}
use borrow.Author.Tests.{lt-ltb, le-ltb}
use lib.ListN.{length, get_or}
use lib.Dec.{ltb}
use Rattle.layout.proofs.Tests.{lt_or_le}
use Rattle.walk.specs.Walk.{Write}
use Rattle.state.specs.Lists.{pick}
use Rattle.state.specs.Asks.{lesser}
use Rattle.state.proofs.Extremes.{larger_max, lesser_min}
use Rattle.state.proofs.Finding.{Each}
use Rattle.shore.specs.File.{puts, puts_of, puts_all, lay}
use Rattle.shore.specs.Cover.{byte_over}
use Rattle.shore.proofs.Files.{top, top_append, lay_length, lay_get}
use Rattle.shore.proofs.Covering.{look_all}
use Rattle.sheet.specs.Sheet.{end_of}
use Rattle.rules.specs.Fill.{fill_count, filled_from, filled}

-- ---- a byte of the buffer

get_d_filled : (ws : List Write) (offset g r j : ℕ) (bs : List ℕ) (i : ℕ) → i < length bs
    → get_or (filled_from ws offset g r j bs) i 0 ≡ pick (ltb (j + i) r) (byte_over (offset + (j + i)) (pick (ltb (j + i) g) (get_or bs i 0) 0) ws) (get_or bs i 0)
unfolding filled_from
get_d_filled ws offset g r j [] i h = absurd (let k : i < 0 = h in omega arith)
get_d_filled ws offset g r j (b ∷ bs) zero h = rw (add-zero j) refl
get_d_filled ws offset g r j (b ∷ bs) (suc i) h =
    let e : suc j + i ≡ j + suc i = omega arith in
    get_d_filled ws offset g r (suc j) bs i (omega arith) ∙ rw e refl

-- ---- the end of what is laid

top_puts : (bs : List ℕ) (o n : ℕ) → 0 < length bs → top (puts o bs) n ≡ max n (o + length bs)
unfolding top puts
top_puts [] o n h = absurd (omega arith)
top_puts (b ∷ []) o n h = omega arith
top_puts (b ∷ c ∷ bs) o n h = top_puts (c ∷ bs) (suc o) (max n (suc o)) (omega arith) ∙ omega arith

top_all : (ws : List Write) (n : ℕ) → Each (λ w. 0 < length w.bytes) ws → top (puts_all ws) n ≡ max n (end_of ws)
unfolding puts_all top
top_all [] n o = omega arith
top_all (w ∷ ws) n o =
    top_append (puts_of w) (puts_all ws) n ∙ ap (top (puts_all ws)) (top_puts w.bytes w.offset n o.0) ∙ top_all ws (max n (w.offset + length w.bytes)) o.1
    ∙ (let e = larger_max (w.offset + length w.bytes) (end_of ws) in omega arith)

-- ---- the lesser of two, and the count

count_by : (n l e : ℕ) → max (min n l) (min n e) ≡ min n (max l e)
count_by n l e = at (lt_or_le l e)
  where
    at : (l < e) ⊎ (e ≤ l) → max (min n l) (min n e) ≡ min n (max l e)
    at (inl h) = omega arith
    at (inr h) = omega arith

pub count_is : (n l e offset : ℕ) → fill_count n (lesser n (l - offset)) offset e ≡ lesser n (max l e - offset)
count_is n l e offset =
    larger_max (lesser n (l - offset)) (lesser n (e - offset)) ∙ ap (λ x. max x (lesser n (e - offset))) (lesser_min n (l - offset))
    ∙ ap (max (min n (l - offset))) (lesser_min n (e - offset)) ∙ count_by n (l - offset) (e - offset)
    ∙ ap (min n) (let w : max (l - offset) (e - offset) ≡ max l e - offset = apart (lt_or_le l e) in w) ∙ sym (lesser_min n (max l e - offset))
  where
    apart : (l < e) ⊎ (e ≤ l) → max (l - offset) (e - offset) ≡ max l e - offset
    apart (inl h) = omega arith
    apart (inr h) = omega arith

-- ---- the claim, of a file S and writes laid over it

module _ (S : List ℕ) (ws : List Write) (some_bytes : Each (λ w. 0 < length w.bytes) ws) (offset g : ℕ) (buffer : List ℕ) (lesser_is : g ≡ lesser (length buffer) (length S - offset))
    (fetched : (i : ℕ) → i < g → get_or buffer i 0 ≡ get_or S (offset + i) 0) where
  abbrev file : List ℕ
  file = lay S (puts_all ws)

  file_length : length file ≡ max (length S) (end_of ws)
  file_length = lay_length (puts_all ws) S ∙ top_all ws (length S) some_bytes

  -- r is the lesser of n and what that file has from the offset
  pub claim_count : fill_count (length buffer) g offset (end_of ws) ≡ lesser (length buffer) (length (lay S (puts_all ws)) - offset)
  claim_count = ap (λ x. fill_count (length buffer) x offset (end_of ws)) lesser_is ∙ count_is (length buffer) (length S) (end_of ws) offset ∙ ap (λ x. lesser (length buffer) (x - offset)) (sym file_length)

  -- past what was fetched and short of the buffer's end, the shore's file has ended
  ended : (i : ℕ) → g ≤ i → i < length buffer → get_or S (offset + i) 0 ≡ 0
  ended i h k = get_d_out S (offset + i) (let e = lesser_is ∙ lesser_min (length buffer) (length S - offset) in omega arith)
    where
      get_d_out : (l : List ℕ) (j : ℕ) → length l ≤ j → get_or l j 0 ≡ 0
      get_d_out [] j z = refl
      get_d_out (x ∷ l) zero z = absurd (omega arith)
      get_d_out (x ∷ l) (suc j) z = get_d_out l j (omega arith)

  under : (i : ℕ) → i < length buffer → pick (ltb i g) (get_or buffer i 0) 0 ≡ get_or S (offset + i) 0
  under i h = at (lt_or_le i g)
    where
      at : (i < g) ⊎ (g ≤ i) → pick (ltb i g) (get_or buffer i 0) 0 ≡ get_or S (offset + i) 0
      at (inl k) = ap (λ b. pick b (get_or buffer i 0) 0) (lt-ltb i g k) ∙ fetched i k
      at (inr k) = ap (λ b. pick b (get_or buffer i 0) 0) (le-ltb i g k) ∙ sym (ended i k h)

  -- and the r bytes are those of the file
  pub claim_bytes : (r i : ℕ) → i < r → i < length buffer → get_or (filled ws offset g r buffer) i 0 ≡ get_or (lay S (puts_all ws)) (offset + i) 0
  claim_bytes r i h k =
      get_d_filled ws offset g r 0 buffer i k
      ∙ (let e : 0 + i ≡ i = omega arith in rw e (ap (λ b. pick b (byte_over (offset + i) (pick (ltb i g) (get_or buffer i 0) 0) ws) (get_or buffer i 0)) (lt-ltb i r h)
      ∙ ap (λ x. byte_over (offset + i) x ws) (under i k) ∙ sym (look_all ws (offset + i) (get_or S (offset + i) 0)) ∙ sym (lay_get (puts_all ws) S (offset + i))))
