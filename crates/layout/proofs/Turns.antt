-- Copies round the ring's end in two moves: up to the end, and then the rest.
use Prim.Native.Nat.{ℕ, ◌+◌, ◌-◌, ◌%◌, ◌≤◌, ◌<◌, min}
use mathlib.Core.Path.{◌≡◌, sym, ap, ◌∙◌}
use mathlib.Core.Logic.{⊎_elim}
use mathlib.Core.List.{List, [], ◌++◌, append-nil}
use native.Mathlib.Omega.{arith}
use native.Mathlib.Nat.{mod-lt, mod-add-mod, mod_self}
use Rattle.std.proofs.lemmas.List.{take-replicate, drop-replicate}
use borrow.Rule.Slice.PartMut.{put_mid}
use lib.ListN.{length, take, drop, replicate, length-drop, length-replicate, drop_of_length-le, take-append-drop}
use lib.Seq.{length-take-le, take_at}
use Rattle.layout.specs.Sizes.{header_size, span_of}
use Rattle.layout.specs.Bytes.{Sized, round, bytes_at, put}
use Rattle.std.proofs.lemmas.Bool.{cases_lt}
use Rattle.layout.proofs.Views.{bytes_length, bytes_append, round_bytes}
use Rattle.layout.proofs.Puts.{put_append, put_run, length_put, sized_as}

-- ---- behind the part up to the end stands the ring's start

turned : (p m : ℕ) → 0 < m → (p + (m - (p % m))) % m ≡ 0
turned p m some =
    let l = mod-lt p some in
    let w : (p % m) + (m - (p % m)) ≡ m = omega arith in
    sym (mod-add-mod p m (m - (p % m))) ∙ ap (λ x. x % m) w ∙ mod_self m

-- ---- taking: the two parts that were lent, filled

module _ (r : List ℕ) (n p : ℕ) (l : List ℕ) (start left : ℕ) (z : Sized r n) (fits : (p % span_of n) + length l ≤ span_of n + span_of n)
    (b : start ≡ header_size + (p % span_of n)) (q : left ≡ min (length l) (span_of n - (p % span_of n))) where
  first_taken : take left (drop start r) ≡ bytes_at (round r n) p left
  first_taken =
      let m = mod-lt p (let w : 0 < span_of n = omega (arith, z.low) in w) in
      ap (λ s. take left (drop s r)) b ∙ round_bytes r n p left z (omega arith)

  rest_taken : take (length l - left) (drop header_size r) ≡ bytes_at (round r n) (p + left) (length l - left)
  unfolding bytes_at
  rest_taken =
      ⊎_elim
      (λ h.
      let e : left ≡ span_of n - (p % span_of n) = omega arith in
      let t : (p + left) % span_of n ≡ 0 = ap (λ x. (p + x) % span_of n) e ∙ turned p (span_of n) (omega (arith, z.low)) in
      let s : header_size + ((p + left) % span_of n) ≡ header_size = omega arith in
      ap (λ x. take (length l - left) (drop x r)) (sym s) ∙ round_bytes r n (p + left) (length l - left) z (omega arith))
      (λ h. let e : length l - left ≡ 0 = omega arith in rw e)
      (cases_lt (span_of n - (p % span_of n)) (length l))

  pub taken_two : (j k : ℕ) (ys zs : List ℕ) → j ≡ left → k ≡ length l - left → ys ≡ take j (drop start r) → zs ≡ take k (drop header_size r)
      → put_mid left (length (ys ++ drop left l) - left) (put_mid 0 left l ys) zs ≡ bytes_at (round r n) p (length l)
  taken_two j k ys zs ej ek one two =
      let f = round r n in
      let y : ys ≡ bytes_at f p left = one ∙ ap (λ x. take x (drop start r)) ej ∙ first_taken in
      let w : zs ≡ bytes_at f (p + left) (length l - left) = two ∙ ap (λ x. take x (drop header_size r)) ek ∙ rest_taken in
      let whole = ys ++ drop left l in
      let back : drop (length whole - left) (drop left whole) ≡ [] = drop_of_length-le (drop left whole) (let g = length-drop left whole in omega arith) in
      let e : left + (length l - left) ≡ length l = omega arith in
      ap (λ x. x ++ (zs ++ drop (length whole - left) (drop left whole))) (take_at ys (drop left l) left (ap length y ∙ bytes_length f p left))
      ∙ ap (λ x. ys ++ (zs ++ x)) back ∙ ap (◌++◌ ys) (append-nil zs)
      ∙ rw (y, w) (sym (bytes_append left (length l - left) f p) ∙ ap (bytes_at f p) e)

-- ---- storing: one move after the other is both

module _ (bs r : List ℕ) (n p start left : ℕ) (z : Sized r n) (fits : length bs ≤ span_of n)
    (b : start ≡ header_size + (p % span_of n)) (q : left ≡ min (length bs) (span_of n - (p % span_of n))) where
  first_put : (j : ℕ) (ys : List ℕ) → j ≡ left → ys ≡ take left bs → put_mid start j r ys ≡ put r n p (take left bs)
  first_put j ys ej ey =
      let k = length-take-le left bs (omega arith) in
      let m = mod-lt p (let w : 0 < span_of n = omega (arith, z.low) in w) in
      rw (ej, ey) (put_run (take left bs) r n p start left z b (sym k) (omega arith))

  rest_put : put_mid header_size (length bs - left) (put r n p (take left bs)) (drop left bs) ≡ put (put r n p (take left bs)) n (p + left) (drop left bs)
  unfolding put
  rest_put =
      ⊎_elim
      (λ l.
      let e : left ≡ span_of n - (p % span_of n) = omega arith in
      let t : (p + left) % span_of n ≡ 0 = ap (λ x. (p + x) % span_of n) e ∙ turned p (span_of n) (omega (arith, z.low)) in
      let d = length-drop left bs in
      put_run (drop left bs) (put r n p (take left bs)) n (p + left) header_size (length bs - left) (sized_as _ z (length_put (take left bs) r n p)) (omega arith) (sym d) (omega arith))
      (λ l.
      let e : length bs - left ≡ 0 = omega arith in
      let d : drop left bs ≡ [] = drop_of_length-le bs (omega arith) in
      rw (e, d) (take-append-drop header_size (put r n p (take left bs))))
      (cases_lt (span_of n - (p % span_of n)) (length bs))

  pub put_two : (j k : ℕ) (ys zs : List ℕ) → j ≡ left → k ≡ length bs - left → ys ≡ take left bs → zs ≡ drop left bs
      → put_mid header_size k (put_mid start j r ys) zs ≡ put r n p bs
  put_two j k ys zs ej ek ey ez =
      let l = length-take-le left bs (omega arith) in
      ap (λ x. put_mid header_size k x zs) (first_put j ys ej ey) ∙ rw (ek, ez) rest_put
      ∙ ap (λ x. put (put r n p (take left bs)) n (p + x) (drop left bs)) (sym l)
      ∙ sym (put_append (take left bs) (drop left bs) r n p) ∙ ap (put r n p) (take-append-drop left bs)

-- and so of zeros

front_zeros : (m c d : ℕ) (ys : List ℕ) → ys ≡ replicate m 0 → m ≡ d → d ≤ c → ys ≡ take d (replicate c 0)
front_zeros m c d ys e q h = e ∙ ap (λ x. replicate x 0) q ∙ sym (take-replicate d c 0 h)

rest_zeros : (m c d : ℕ) (zs : List ℕ) → zs ≡ replicate m 0 → m ≡ c - d → zs ≡ drop d (replicate c 0)
rest_zeros m c d zs e q = e ∙ ap (λ x. replicate x 0) q ∙ sym (drop-replicate d c 0)

pub zeros_two : (r : List ℕ) (n p c start left : ℕ) → Sized r n → c ≤ span_of n → start ≡ header_size + (p % span_of n) → left ≡ min c (span_of n - (p % span_of n))
    → (j k : ℕ) (ys zs : List ℕ) → j ≡ left → k ≡ c - left → ys ≡ replicate (length (take j (drop start r))) 0
    → zs ≡ replicate (length (take k (drop header_size (put_mid start j r ys)))) 0 → put_mid header_size k (put_mid start j r ys) zs ≡ put r n p (replicate c 0)
zeros_two r n p c start left z fits b q j k ys zs ej ek ey ez =
    let bs : List ℕ = replicate c 0 in
    let whole = put_mid start j r ys in
    let all = length-replicate {A = ℕ} c 0 in
    let m = mod-lt p (let w : 0 < span_of n = omega (arith, z.low) in w) in
    let d = length-drop start r in
    let one : length (take j (drop start r)) ≡ left = omega (arith, ej, length-take-le j (drop start r) (omega (arith, z.len))) in
    let y : ys ≡ take left bs = front_zeros _ c left ys ey one (omega arith) in
    let first : whole ≡ put r n p (take left bs) = first_put bs r n p start left z (omega arith) b (omega arith) j ys ej y in
    let long : length whole ≡ length r = omega (arith, ap length first, length_put (take left bs) r n p) in
    let e = length-drop header_size whole in
    let rest = drop header_size whole in
    let two : length (take k rest) ≡ c - left = omega (arith, ek, length-take-le k rest (omega (arith, z.len))) in
    let w : zs ≡ drop left bs = rest_zeros _ c left zs ez two in
    put_two bs r n p start left z (omega arith) b (omega arith) j k ys zs ej (omega arith) y w
