-- A sheet read back from its bytes: its node, and the puts of its pieces, whatever stands behind it in the buffer.
use Prim.Native.Nat.{ℕ, ◌+◌, ◌*◌, ◌/◌, ◌<◌}
use native.Mathlib.Nat.{zero-add}
use native.Mathlib.Omega.{arith}
use mathlib.Core.Path.{◌≡◌, refl, sym, ap, ◌∙◌}
use mathlib.Core.List.{List, [], ◌∷◌, ◌++◌, map}
use lib.ListN.{length, get_or, length-append, get_or-append}
use lib.Seq.{get_or-append-add}
use Rattle.layout.specs.Bytes.{flat, number4, bytes_at, bytes2, bytes4, Same}
use Rattle.layout.proofs.Views.{number4_same, bytes_length, bytes_are}
use Rattle.layout.proofs.Numbers.{number2_of, number4_of}
use Rattle.state.proofs.Finding.{Each}
use Rattle.shore.specs.File.{Put, puts}
use Rattle.sheet.specs.declared.Piece.{Piece}
use Rattle.sheet.specs.Sheet.{piece, list_of, data_by, sheet_by, node_in, pieces_at, puts_at, puts_by, puts_in}
use Rattle.sheet.specs.Places.{total}
use Rattle.sheet.proofs.Storing.{four_long, list_long, data_long}

-- ---- bytes that stand at a place of a view

abbrev Stands : (ℕ → ℕ) → ℕ → List ℕ → Type 0
Stands f p bs = Same f p (flat bs) 0 (length bs)

module _ (f : ℕ → ℕ) (p : ℕ) (bs : List ℕ) where
  stands_by : ((i : ℕ) → i < length bs → f (p + i) ≡ get_or bs i 0) → Stands f p bs
  stands_by k = record { at = λ i l. k i l ∙ ap (flat bs) (sym (zero-add i)) }

  stands_at : Stands f p bs → (i : ℕ) → i < length bs → f (p + i) ≡ get_or bs i 0
  stands_at k i l = k.at i l ∙ ap (flat bs) (zero-add i)

stands_first : (xs ys : List ℕ) → Stands (flat (xs ++ ys)) 0 xs
stands_first xs ys = stands_by (flat (xs ++ ys)) 0 xs (λ i l. ap (flat (xs ++ ys)) (zero-add i) ∙ get_or-append xs ys 0 i l)

module _ (f : ℕ → ℕ) (p : ℕ) (xs ys : List ℕ) (k : Stands f p (xs ++ ys)) where
  stands_left : Stands f p xs
  stands_left = stands_by f p xs (λ i l. stands_at f p (xs ++ ys) k i (omega (arith, length-append xs ys)) ∙ get_or-append xs ys 0 i l)

  stands_right : (q : ℕ) → p + length xs ≡ q → Stands f q ys
  stands_right q e =
      stands_by f q ys
      (λ i l.
      let a : q + i ≡ p + (length xs + i) = omega arith in
      ap f a ∙ stands_at f p (xs ++ ys) k (length xs + i) (omega (arith, length-append xs ys)) ∙ get_or-append-add xs ys i 0)

-- ---- numbers of four bytes

-- below this, four bytes hold a number
abbrev pub word_end : ℕ
word_end = 4294967296

words_length : (x y : ℕ) → length (bytes4 x ++ bytes4 y) ≡ 8
unfolding bytes4 bytes2
words_length x y = refl

word_here : (x : ℕ) → x < word_end → number4 (flat (bytes4 x)) 0 ≡ x
unfolding bytes4 bytes2
word_here x h =
    let f = flat (bytes4 x) in
    let w = number4_of f 0 x (number2_of f 0 x refl refl) (number2_of f 2 (x / 65536) refl refl) in
    omega arith

word_read : (f : ℕ → ℕ) (p x : ℕ) → x < word_end → Stands f p (bytes4 x) → number4 f p ≡ x
word_read f p x h k = number4_same k (omega (arith, four_long x)) ∙ word_here x h

-- ---- the list of pieces, and their bytes

-- what a sheet holds of a piece fits its bytes
pub record Fits (q : Piece) : Type 0 where
  pub start : q.start < word_end
  pub size : q.size < word_end

-- a sheet doesn't tell a key
abbrev unkeyed : Piece → Piece
unkeyed q = piece q.start q.size 0

-- what the pieces lay, with the byte b at each place
unfoldable pub puts_for : (ℕ → ℕ) → List Piece → List Put
puts_for b [] = []
puts_for b (q ∷ qs) = puts q.start (bytes_at b q.start q.size) ++ puts_for b qs

list_read : (f : ℕ → ℕ) (qs : List Piece) (p : ℕ) → Each Fits qs → Stands f p (list_of qs) → pieces_at f p (length qs) ≡ map unkeyed qs
unfolding list_of pieces_at
list_read f [] p o k = refl
list_read f (q ∷ qs) p o k =
    let s = bytes4 q.start in
    let z = bytes4 q.size in
    let pair : Stands f p (s ++ z) = stands_left f p (s ++ z) (list_of qs) k in
    let a : number4 f p ≡ q.start = word_read f p q.start o.0.start (stands_left f p s z pair) in
    let b : number4 f (p + 4) ≡ q.size = word_read f (p + 4) q.size o.0.size (stands_right f p s z pair (p + 4) (ap (◌+◌ p) (four_long q.start))) in
    rw (a, b, list_read f qs (p + 8) o.1 (stands_right f p (s ++ z) (list_of qs) k (p + 8) (ap (◌+◌ p) (words_length q.start q.size))))

data_read : (f b : ℕ → ℕ) (qs : List Piece) (p : ℕ) → Stands f p (data_by b qs) → puts_at f p (map unkeyed qs) ≡ puts_for b qs
unfolding data_by puts_at puts_for
data_read f b [] p k = refl
data_read f b (q ∷ qs) p k =
    let bs = bytes_at b q.start q.size in
    let l : length bs ≡ q.size = bytes_length b q.start q.size in
    let a : bytes_at f p q.size ≡ bs = ap (bytes_at f p) (sym l) ∙ bytes_are f bs p (stands_left f p bs (data_by b qs) k) in
    rw (a, data_read f b qs (p + q.size) (stands_right f p bs (data_by b qs) k (p + q.size) (ap (◌+◌ p) l)))

-- ---- the sheet

module _ (b : ℕ → ℕ) (node : ℕ) (qs : List Piece) where
  abbrev heads : List ℕ
  heads = bytes4 (length qs) ++ bytes4 node

  pub sheet_length : length (sheet_by b node qs) ≡ 8 + 8 * length qs + total qs
  unfolding sheet_by
  sheet_length =
      length-append heads (list_of qs ++ data_by b qs)
      ∙ omega (arith, words_length (length qs) node, length-append (list_of qs) (data_by b qs), list_long qs, data_long b qs)

  module _ (tail : List ℕ) where
    abbrev view : ℕ → ℕ
    view = flat (sheet_by b node qs ++ tail)

    whole : Stands view 0 (heads ++ (list_of qs ++ data_by b qs))
    unfolding sheet_by
    whole = stands_first (sheet_by b node qs) tail

    front : Stands view 0 heads
    front = stands_left view 0 heads (list_of qs ++ data_by b qs) whole

    rest : Stands view 8 (list_of qs ++ data_by b qs)
    rest = stands_right view 0 heads (list_of qs ++ data_by b qs) whole 8 (ap (◌+◌ 0) (words_length (length qs) node))

    pub read_node : node < word_end → node_in (sheet_by b node qs ++ tail) ≡ node
    unfolding node_in
    read_node h = word_read view 4 node h (stands_right view 0 (bytes4 (length qs)) (bytes4 node) front 4 (ap (◌+◌ 0) (four_long (length qs))))

    pub read_back : length qs < word_end → Each Fits qs → puts_in (sheet_by b node qs ++ tail) ≡ puts_for b qs
    unfolding puts_in
    read_back h o =
        let count : number4 view 0 ≡ length qs = word_read view 0 (length qs) h (stands_left view 0 (bytes4 (length qs)) (bytes4 node) front) in
        let l : 8 + length (list_of qs) ≡ 8 + 8 * length qs = ap (◌+◌ 8) (list_long qs) in
        ap (puts_by view) count
        ∙ ap (puts_at view (8 + 8 * length qs)) (list_read view qs 8 o (stands_left view 8 (list_of qs) (data_by b qs) rest))
        ∙ data_read view b qs (8 + 8 * length qs) (stands_right view 8 (list_of qs) (data_by b qs) rest (8 + 8 * length qs) l)
