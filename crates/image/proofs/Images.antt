-- The slots of an entry as the code makes them: the head and the first bytes, or the bytes from a place on, and zeros.
use Prim.Native.Nat.{ℕ, ◌+◌, ◌-◌, ◌*◌, ◌≤◌, ◌<◌, min}
use mathlib.Core.Path.{◌≡◌, sym, ap, ◌∙◌}
use mathlib.Core.Logic.{◌⊎◌, inl, inr}
use mathlib.Core.List.{List, ◌++◌, append-nil}
use native.Mathlib.Omega.{arith}
use native.Mathlib.Nat.{sub_self}
use lib.ListN.{length, take, drop, replicate, length-drop}
use lib.Seq.{take_all, take-append-le, drop-append-le, take-append-add, drop-append-add, take_at, drop_at}
use Rattle.std.proofs.lemmas.List.{take-replicate, drop-replicate}
use borrow.Rule.Slice.PartMut.{put_mid}
use Rattle.layout.specs.Sizes.{slot_size, head_size, slots_of, filler_of}
use Rattle.std.proofs.lemmas.Bool.{cases_lt}
use Rattle.walk.specs.declared.Entry.{Entry}
use Rattle.image.specs.Image.{head_bytes, entry_bytes, slot_bytes}
use Rattle.image.proofs.Stored.{head_length}

abbrev zeros : ℕ → List ℕ
zeros m = replicate m 0

-- m bytes from place a on, of bytes with zeros behind them
window : (bs : List ℕ) (a m fill count : ℕ) → a ≤ length bs → count ≡ min (length bs - a) m → m ≤ length bs - a + fill → take m (drop a (bs ++ zeros fill)) ≡ take count (drop a bs) ++ zeros (m - count)
window bs a m fill count h o r =
    let d = length-drop a bs in
    let open' : take m (drop a (bs ++ zeros fill)) ≡ take m (drop a bs ++ zeros fill) = ap (take m) (drop-append-le a bs (zeros fill) h) in
    open' ∙ at (cases_lt (length bs - a) m)
  where
    at : (length bs - a < m) ⊎ (m ≤ length bs - a) → take m (drop a bs ++ zeros fill) ≡ take count (drop a bs) ++ zeros (m - count)
    at (inr l) =
        let d = length-drop a bs in
        let e : count ≡ m = omega arith in
        take-append-le m (drop a bs) (zeros fill) (omega arith) ∙ sym (append-nil (take m (drop a bs)))
        ∙ ap (λ x. take m (drop a bs) ++ zeros x) (sym (sub_self m)) ∙ ap (λ x. take x (drop a bs) ++ zeros (m - x)) (sym e)
    at (inl l) =
        let d = length-drop a bs in
        let e : count ≡ length bs - a = omega arith in
        let w : m ≡ length (drop a bs) + (m - count) = omega arith in
        ap (λ x. take x (drop a bs ++ zeros fill)) w ∙ take-append-add (drop a bs) (zeros fill) (m - count)
        ∙ ap (λ x. drop a bs ++ x) (take-replicate (m - count) fill 0 (omega arith))
        ∙ ap (λ x. x ++ zeros (m - count)) (sym (take_all count (drop a bs) (omega arith)))

module _ (e : Entry) (bs : List ℕ) (l : e.length ≡ length bs) where
  abbrev fill : ℕ
  fill = filler_of e.length

  -- the head, the first bytes, zeros
  first_slot : (count : ℕ) → count ≡ min (length bs) 232 → slot_bytes e bs 0 ≡ head_bytes e ++ (take count bs ++ zeros (232 - count))
  unfolding slot_bytes entry_bytes
  first_slot count o =
      let h = head_length e in
      let w : slot_size ≡ length (head_bytes e) + 232 = omega arith in
      ap (λ x. take x (head_bytes e ++ (bs ++ zeros fill))) w ∙ take-append-add (head_bytes e) (bs ++ zeros fill) 232
      ∙ ap (◌++◌ (head_bytes e)) (window bs 0 232 fill count (omega arith) (omega arith) (omega arith))

  -- the bytes from there on, zeros
  later_slot : (i count : ℕ) → 0 < i → i < slots_of e.length → count ≡ min (length bs - (i * slot_size - head_size)) slot_size
      → slot_bytes e bs i ≡ take count (drop (i * slot_size - head_size) bs) ++ zeros (slot_size - count)
  unfolding slot_bytes entry_bytes
  later_slot i count some few o =
      let h = head_length e in
      let w : i * slot_size ≡ length (head_bytes e) + (i * slot_size - head_size) = omega arith in
      ap (take slot_size) (ap (λ x. drop x (head_bytes e ++ (bs ++ zeros fill))) w ∙ drop-append-add (head_bytes e) (bs ++ zeros fill) (i * slot_size - head_size))
      ∙ window bs (i * slot_size - head_size) slot_size fill count (omega arith) o (omega arith)

  -- what the code leaves in its array
  pub first_made : (count k : ℕ) (h ys : List ℕ) → count ≡ min (length bs) 232 → k ≡ count → h ≡ head_bytes e → ys ≡ take count bs
      → put_mid head_size k (h ++ drop head_size (zeros slot_size)) ys ≡ slot_bytes e bs 0
  first_made count k h ys o ek eh ey =
      let n : length h ≡ head_size = ap length eh ∙ head_length e in
      rw (ek, ey)
      (ap (λ x. x ++ (take count bs ++ drop count (drop head_size (h ++ zeros 232)))) (take_at h (zeros 232) head_size n)
      ∙ ap (λ x. h ++ (take count bs ++ drop count x)) (drop_at h (zeros 232) head_size n)
      ∙ ap (λ x. h ++ (take count bs ++ x)) (drop-replicate count 232 0) ∙ ap (λ x. x ++ (take count bs ++ zeros (232 - count))) eh)
      ∙ sym (first_slot count o)

  pub later_made : (i count k : ℕ) (ys : List ℕ) → 0 < i → i < slots_of e.length → count ≡ min (length bs - (i * slot_size - head_size)) slot_size
      → k ≡ count → ys ≡ take k (drop (i * slot_size - head_size) bs) → ys ++ drop count (zeros slot_size) ≡ slot_bytes e bs i
  later_made i count k ys some few o ek ey =
      rw (ey, ek, drop-replicate count slot_size) (sym (later_slot i count some few o))
