-- Laws of storing in a buffer: in two parts, byte by byte, and as a part that was lent on.
use Prim.Native.Nat.{ℕ, ◌+◌, ◌-◌, ◌*◌, ◌/◌, ◌%◌, ◌≤◌, ◌<◌}
use native.Mathlib.Nat.{add-zero, zero-add}
use native.Mathlib.Omega.{arith}
use mathlib.Core.Path.{◌≡◌, refl, sym, ap, ◌∙◌}
use mathlib.Core.List.{List, [], ◌∷◌, ◌++◌, append_assoc, append-nil}
use lib.ListN.{length, get_or, take, drop, length-append, length-take, length-drop, take-append-drop}
use lib.Seq.{take_at, length-take-le, drop-drop, drop-append-add}
use borrow.Rule.Slice.PartMut.{put_mid}
use Rattle.std.proofs.lemmas.List.{take_more}
use Rattle.std.specs.Int.{w64, to_le_bytes}
use Rattle.std.proofs.Math.Nat.{div-div-eq-div-mul}
use Rattle.layout.specs.Bytes.{bytes2, bytes4, bytes_at}
use Rattle.layout.proofs.Views.{bytes_length}
use Rattle.sheet.specs.declared.Piece.{Piece}
use Rattle.sheet.specs.Sheet.{list_of, data_by, laid_at}
use Rattle.sheet.specs.Places.{no_piece, total}

pub laid_none : (d : List ℕ) (a : ℕ) → d ≡ laid_at d a []
unfolding laid_at
laid_none d a = sym (rw add-zero (take-append-drop a d))

-- one store behind another is one of both
pub laid_more : (d : List ℕ) (a : ℕ) (u v : List ℕ) → a + length u ≤ length d → laid_at (laid_at d a u) (a + length u) v ≡ laid_at d a (u ++ v)
unfolding laid_at
laid_more d a u v h =
    let P : List ℕ = take a d ++ u in
    let R : List ℕ = drop (a + length u) d in
    let lp : length P ≡ a + length u = simp (length-append, length-take) (omega arith) in
    let whole : take a d ++ (u ++ R) ≡ P ++ R = sym (append_assoc (take a d) u R) in
    let sum : a + length u + length v ≡ a + length (u ++ v) = omega (arith, length-append u v) in
    let tail : drop (a + length u + length v) (P ++ R) ≡ drop (a + length (u ++ v)) d =
    ap (λ n. drop (n + length v) (P ++ R)) (sym lp) ∙ drop-append-add P R (length v) ∙ drop-drop (length v) (a + length u) d
    ∙ ap (λ n. drop n d) sum in
    ap (λ l. take (a + length u) l ++ (v ++ drop (a + length u + length v) l)) whole
    ∙ ap (λ l. l ++ (v ++ drop (a + length u + length v) (P ++ R))) (take_at P R (a + length u) lp)
    ∙ ap (λ l. P ++ (v ++ l)) tail
    ∙ simp append_assoc

-- the same, where the place is known as a sum
pub laid_then : (d : List ℕ) (a p : ℕ) (u v : List ℕ) → p ≡ a + length u → p ≤ length d → laid_at (laid_at d a u) p v ≡ laid_at d a (u ++ v)
laid_then d a p u v e h = ap (λ n. laid_at (laid_at d a u) n v) e ∙ laid_more d a u v (omega arith)

-- the lowest four bytes of a number
pub four_low : (x : ℕ) → take 4 (to_le_bytes w64 x) ≡ bytes4 x
unfolding bytes4 bytes2
four_low x = ap (λ y. x % 256 ∷ x / 256 % 256 ∷ x / 65536 % 256 ∷ y % 256 ∷ []) (sym (div-div-eq-div-mul x 65536 256))

pub four_long : (x : ℕ) → length (bytes4 x) ≡ 4
unfolding bytes4 bytes2
four_long x = refl

-- from the front, the rest stands behind it
pub laid_front : (d vs : List ℕ) → laid_at d 0 vs ≡ vs ++ drop (length vs) d
unfolding laid_at
laid_front d vs = ap (λ n. vs ++ drop n d) (zero-add (length vs))

-- what came back in a part that was lent on, said of the whole
pub part_back : (a e : ℕ) (d ys zs : List ℕ) → a ≤ e → ys ≡ zs → put_mid a (e - a) d ys ≡ take a d ++ zs ++ drop e d
part_back a e d ys zs h z =
    let w : a + (e - a) ≡ e = omega arith in
    rw (drop-drop, w, z, append_assoc)

pub part_long : (a e : ℕ) (d : List ℕ) → a ≤ e → e ≤ length d → length (take (e - a) (drop a d)) ≡ e - a
part_long a e d h k = length-take-le (e - a) (drop a d) (let l = length-drop a d in omega arith)

-- ---- the list of pieces and their bytes, one piece more

list_snoc : (qs : List Piece) (q : Piece) → list_of (qs ++ q ∷ []) ≡ list_of qs ++ (bytes4 q.start ++ bytes4 q.size)
unfolding list_of
list_snoc [] q = append-nil (bytes4 q.start ++ bytes4 q.size)
list_snoc (r ∷ qs) q =
    ap (◌++◌ (bytes4 r.start ++ bytes4 r.size)) (list_snoc qs q)
    ∙ sym (append_assoc (bytes4 r.start ++ bytes4 r.size) (list_of qs) (bytes4 q.start ++ bytes4 q.size))

pub list_long : (qs : List Piece) → length (list_of qs) ≡ 8 * length qs
unfolding list_of
list_long [] = refl
list_long (q ∷ qs) = simp (length-append, four_long, list_long qs) (omega arith)

data_snoc : (b : ℕ → ℕ) (qs : List Piece) (q : Piece) → data_by b (qs ++ q ∷ []) ≡ data_by b qs ++ bytes_at b q.start q.size
unfolding data_by
data_snoc b [] q = append-nil (bytes_at b q.start q.size)
data_snoc b (r ∷ qs) q =
    ap (◌++◌ (bytes_at b r.start r.size)) (data_snoc b qs q)
    ∙ sym (append_assoc (bytes_at b r.start r.size) (data_by b qs) (bytes_at b q.start q.size))

pub data_long : (b : ℕ → ℕ) (qs : List Piece) → length (data_by b qs) ≡ total qs
unfolding data_by
data_long b [] = refl
data_long b (q ∷ qs) = simp (length-append, bytes_length b q.start q.size, data_long b qs)

pub total_append : (qs rs : List Piece) → total (qs ++ rs) ≡ total qs + total rs
total_append [] rs = omega arith
total_append (q ∷ qs) rs = let e = total_append qs rs in omega arith

module _ (d : List ℕ) (list : List Piece) (k : ℕ) (h : k < length list) where
  abbrev q : Piece
  q = get_or list k no_piece

  -- the list: two numbers more
  pub list_more : (x y : List ℕ) → 8 + 8 * (k + 1) ≤ length d → x ≡ laid_at (laid_at d 8 (list_of (take k list))) (8 + 8 * k) (bytes4 q.start)
      → y ≡ laid_at x (12 + 8 * k) (bytes4 q.size) → y ≡ laid_at d 8 (list_of (take (k + 1) list))
  list_more x y m e f =
      let l = list_long (take k list) in
      let t = length-take-le k list (omega arith) in
      let a = four_long q.start in
      let s = length-append (list_of (take k list)) (bytes4 q.start) in
      f ∙ ap (λ z. laid_at z (12 + 8 * k) (bytes4 q.size)) (e ∙ laid_then d 8 (8 + 8 * k) (list_of (take k list)) (bytes4 q.start) (omega arith) (omega arith))
      ∙ laid_then d 8 (12 + 8 * k) (list_of (take k list) ++ bytes4 q.start) (bytes4 q.size) (omega arith) (omega arith)
      ∙ ap (laid_at d 8) (append_assoc (list_of (take k list)) (bytes4 q.start) (bytes4 q.size) ∙ sym (list_snoc (take k list) q) ∙ ap list_of (sym (take_more list k no_piece h)))

  -- the bytes: a piece more
  pub data_more : (b : ℕ → ℕ) (from at : ℕ) (y : List ℕ) → at ≡ from + total (take k list) → at ≤ length d
      → y ≡ laid_at (laid_at d from (data_by b (take k list))) at (bytes_at b q.start q.size) → y ≡ laid_at d from (data_by b (take (k + 1) list))
  data_more b from at y e m f =
      let l = data_long b (take k list) in
      f ∙ laid_then d from at (data_by b (take k list)) (bytes_at b q.start q.size) (omega arith) m
      ∙ ap (laid_at d from) (sym (data_snoc b (take k list) q) ∙ ap (data_by b) (sym (take_more list k no_piece h)))

  pub total_more : total (take (k + 1) list) ≡ total (take k list) + q.size
  total_more = ap total (take_more list k no_piece h) ∙ total_append (take k list) (q ∷ []) ∙ omega arith

pub part_laid : (a e : ℕ) (d ys zs : List ℕ) → a ≤ e → length zs ≡ e - a → ys ≡ zs → put_mid a (e - a) d ys ≡ laid_at d a zs
unfolding laid_at
part_laid a e d ys zs h l z =
    let w : a + length zs ≡ e = omega arith in
    part_back a e d ys zs h z ∙ rw w (append_assoc (take a d) zs (drop e d))

-- there is room for a piece more
pub total_room : (list : List Piece) (k : ℕ) → k < length list → total (take k list) + (get_or list k no_piece).size ≤ total list
total_room list k h =
    let e = ap total (take-append-drop (k + 1) list) in
    let s = total_append (take (k + 1) list) (drop (k + 1) list) in
    let x = total_more [] list k h in
    omega arith
