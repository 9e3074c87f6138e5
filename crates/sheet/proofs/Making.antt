-- The whole sheet: its parts stored one behind the other, and its length.
use Prim.Native.Nat.{ℕ, ◌+◌, ◌*◌, ◌≤◌, ◌<◌}
use native.Mathlib.Omega.{arith}
use mathlib.Core.Path.{◌≡◌, refl, ap, ◌∙◌}
use mathlib.Core.List.{List, [], ◌∷◌, ◌++◌, map, append_assoc}
use borrow.Author.Tests.{lt-ltb, le-ltb}
use lib.ListN.{length, length-append}
use Rattle.layout.specs.Sizes.{file_end}
use Rattle.layout.specs.Bytes.{bytes4}
use Rattle.layout.specs.Rack.{items}
use Rattle.layout.proofs.Racks.{items_of}
use Rattle.walk.specs.declared.Entry.{Entry}
use Rattle.walk.specs.Walk.{write_of}
use Rattle.state.specs.Batch.{most_batch}
use Rattle.sheet.specs.declared.Piece.{Piece}
use Rattle.sheet.specs.declared.Pieces.{Pieces}
use Rattle.std.specs.Prelude.{Some, None}
use Rattle.sheet.specs.Sheet.{list_of, data_by, sheet_by, sheet_of, laid_at}
use Rattle.sheet.specs.Places.{key_by, byte_by, grow, in_order, total, pieces_from, laid_if, made_from, no_piece, Batch}
use Rattle.sheet.proofs.Few.{few_pieces}
use Rattle.std.proofs.lemmas.List.{length-reverse, reverse-append}
use Rattle.sheet.proofs.Covered.{grow_total}
use Rattle.sheet.proofs.Storing.{laid_then, four_long, list_long, total_append}
use Rattle.sheet.proofs.Reading.{sheet_length}
use Rattle.sheet.proofs.Batches.{sheet_writes}

-- ---- the code's list of pieces

total_order : (qs : List Piece) → total (in_order qs) ≡ total qs
total_order [] = refl
total_order (q ∷ qs) = ap total (reverse-append (q ∷ []) qs) ∙ total_append (in_order qs) (q ∷ []) ∙ let e = total_order qs in omega arith

module _ (es : List Entry) (x : Pieces) (l : x ≡ pieces_from (in_order (grow (key_by es) file_end))) where
  pub pieces_listed : items x.list ≡ in_order (grow (key_by es) file_end)
  pieces_listed = ap (λ (w : Pieces). items w.list) l ∙ items_of most_batch no_piece _

  pub pieces_few : Batch es → length (items x.list) ≤ most_batch
  pieces_few b = let gs = grow (key_by es) file_end in rw pieces_listed (omega (arith, length-reverse gs, few_pieces es b.most file_end, b.few))

  pub pieces_small : x.size ≤ file_end
  pieces_small = let gs = grow (key_by es) file_end in rw l (omega (arith, total_order gs, grow_total (key_by es) file_end))

-- ---- four stores make a sheet

pub laid_sheet : (d d₁ d₂ d₃ d₄ : List ℕ) (b : ℕ → ℕ) (node : ℕ) (qs : List Piece) → 8 + 8 * length qs + total qs ≤ length d
    → d₁ ≡ laid_at d 0 (bytes4 (length qs)) → d₂ ≡ laid_at d₁ 4 (bytes4 node) → d₃ ≡ laid_at d₂ 8 (list_of qs) → d₄ ≡ laid_at d₃ (8 + 8 * length qs) (data_by b qs)
    → d₄ ≡ laid_at d 0 (sheet_by b node qs)
unfolding sheet_by
laid_sheet d d₁ d₂ d₃ d₄ b node qs h e₁ e₂ e₃ e₄ =
    let count = length qs in
    let f = four_long count in
    let g = four_long node in
    let l = list_long qs in
    let hd : List ℕ = bytes4 count ++ bytes4 node in
    let k = length-append (bytes4 count) (bytes4 node) in
    let m = length-append hd (list_of qs) in
    let two : d₂ ≡ laid_at d 0 hd = e₂ ∙ ap (λ z. laid_at z 4 (bytes4 node)) e₁ ∙ laid_then d 0 4 (bytes4 count) (bytes4 node) (omega arith) (omega arith) in
    let three : d₃ ≡ laid_at d 0 (hd ++ list_of qs) = e₃ ∙ ap (λ z. laid_at z 8 (list_of qs)) two ∙ laid_then d 0 8 hd (list_of qs) (omega arith) (omega arith) in
    e₄ ∙ ap (λ z. laid_at z (8 + 8 * count) (data_by b qs)) three
    ∙ laid_then d 0 (8 + 8 * count) (hd ++ list_of qs) (data_by b qs) (omega arith) (omega arith)
    ∙ ap (laid_at d 0) (append_assoc hd (list_of qs) (data_by b qs))

-- ---- the answer

module _ (f : ℕ → ℕ) (es : List Entry) (b : Batch es) (node : ℕ) (x : Pieces) (count : ℕ) (l : x ≡ pieces_from (in_order (grow (key_by es) file_end))) (c : count ≡ length (items x.list)) where
  abbrev sheet : List ℕ
  sheet = sheet_of node (map (write_of f) es)

  pub made_length : 8 + 8 * count + x.size ≡ length sheet
  made_length =
      let s = sheet_length (byte_by f es) node (in_order (grow (key_by es) file_end)) in
      let w = ap length (sheet_writes f es b node) in
      rw (c, pieces_listed es x l, l) (omega arith)

  -- so its length fits a number
  pub made_small : 8 + 8 * count + x.size ≤ 8 + 8 * most_batch + file_end
  made_small = rw c (omega (arith, pieces_few es x l b, pieces_small es x l))

  module _ (d : List ℕ) where
    pub made_short : length d < 8 + 8 * count + x.size → (None ≡ made_from (length d) sheet) × (d ≡ laid_if d sheet)
    made_short h = let t = lt-ltb (length d) (length sheet) (let m = made_length in omega arith) in (rw t refl, rw t refl)

    pub made_whole : (y : List ℕ) → 8 + 8 * count + x.size ≤ length d → y ≡ laid_at d 0 sheet
        → (Some (8 + 8 * count + x.size) ≡ made_from (length d) sheet) × (y ≡ laid_if d sheet)
    made_whole y h e = let t = le-ltb (length d) (length sheet) (let m = made_length in omega arith) in (rw t (ap Some made_length), rw t e)
