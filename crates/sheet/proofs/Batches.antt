-- From the code's entries to the batch's writes: the same newest write, key and byte at each place, and so the same sheet.
use Prim.Native.Nat.{ℕ, zero, suc, ◌+◌, ◌*◌, ◌≤◌, ◌<◌}
use native.Mathlib.Omega.{arith}
use mathlib.Core.Path.{◌≡◌, refl, sym, ap, ◌∙◌}
use mathlib.Core.Bool.{Bool, true, false}
use mathlib.Core.List.{List, [], ◌∷◌, ◌++◌, map, map-append}
use Rattle.std.specs.Prelude.{Some, None, Option}
use borrow.Author.Tests.{le-leb}
use lib.ListN.{length, get_or, take}
use lib.Seq.{take-suc, take_all}
use Rattle.layout.specs.Sizes.{slot_size, head_size, file_end}
use Rattle.layout.specs.Bytes.{bytes_at, bytes4}
use Rattle.layout.proofs.Views.{bytes_length, bytes_same}
use Rattle.walk.specs.declared.Entry.{Entry}
use Rattle.walk.specs.Entry.{data_of}
use Rattle.walk.specs.Walk.{no_entry, Write, write_of}
use Rattle.state.specs.Lists.{pick, all}
use Rattle.state.proofs.Finding.{Each, each_at}
use Rattle.state.proofs.Pairs.{all_snoc}
use Rattle.shore.specs.Cover.{spans, covers, newest, byte_in, byte_over}
use Rattle.shore.proofs.Covering.{last_snoc}
use Rattle.sheet.specs.declared.Piece.{Piece}
use Rattle.sheet.specs.Sheet.{byte_of, key_in, key_of, end_of, list_of, data_by, sheet_by, sheet_of}
use Rattle.sheet.specs.Places.{overlies, top_of, key_at, key_by, byte_from, byte_by, is_short, grow, in_order, no_piece, Batch, AllCovered}
use Rattle.sheet.proofs.Growing.{gather_same, skip_to}
use Rattle.sheet.proofs.Right.{AreThose, right}
use Rattle.sheet.proofs.Cutting.{pieces_grown}
use Rattle.sheet.proofs.Covered.{ends_by, end_within, behind_key}
use Rattle.sheet.proofs.Laying.{order_each}

-- ---- each piece lies within the end, and all of it is covered

pub record Within (key : ℕ → ℕ) (end : ℕ) (q : Piece) : Type 0 where
  pub ends : q.start + q.size ≤ end
  pub covered : (x : ℕ) → q.start ≤ x → x < q.start + q.size → 0 < key x

those_within : (key : ℕ → ℕ) (end e : ℕ) (qs : List Piece) → AreThose key e qs → e ≤ end → Each (Within key end) qs
those_within key end e [] g h = tt
those_within key end e (q ∷ qs) g h =
    let a = g.0.ends in (
      record { ends = omega arith; covered = λ x l r. let k = g.0.held x l r in let n = g.0.keyed in omega arith },
      those_within key end q.start qs g.2 (omega arith),
    )

pub all_within : (key : ℕ → ℕ) (end : ℕ) → Each (Within key end) (in_order (grow key end))
all_within key end = order_each (Within key end) (grow key end) (those_within key end end (grow key end) (right key end) (omega arith))

-- bytes that agree everywhere are the same bytes
data_same : (b d : ℕ → ℕ) → ((x : ℕ) → b x ≡ d x) → (qs : List Piece) → data_by b qs ≡ data_by d qs
unfolding data_by
data_same b d k [] = refl
data_same b d k (q ∷ qs) =
    ap (◌++ data_by b qs) (bytes_same q.size {f = b} {p = q.start} {g = d} {q = q.start} (record { at = λ i h. k (q.start + i) }))
    ∙ ap (◌++◌ (bytes_at d q.start q.size)) (data_same b d k qs)

pub all_covered : (es : List Entry) → AllCovered es (in_order (grow (key_by es) file_end))
all_covered es =
    let o = all_within (key_by es) file_end in
    let qs = in_order (grow (key_by es) file_end) in
    record {
      ends = λ k h. (each_at (Within (key_by es) file_end) no_piece qs k o h).ends;
      each = λ k h. record { each = (each_at (Within (key_by es) file_end) no_piece qs k o h).covered };
    }

-- ---- the newest write, its key and its byte

module _ (f : ℕ → ℕ) (es : List Entry) where
  covers_entry : (p : ℕ) (e : Entry) → covers p (write_of f e) ≡ overlies p e
  covers_entry p e = ap (λ l. spans e.offset l p) (bytes_length f (e.slot * slot_size + head_size) e.length)

  abbrev chosen : Option ℕ → Option Write
  chosen None = None
  chosen (Some i) = Some (write_of f (get_or es i no_entry))

  newest_by : (p n : ℕ) (b : Bool) → pick b (Some (write_of f (get_or es n no_entry))) (chosen (top_of es n p)) ≡ chosen (pick b (Some n) (top_of es n p))
  newest_by p n true = refl
  newest_by p n false = refl

  pub newest_is : (p n : ℕ) → n ≤ length es → newest p (map (write_of f) (take n es)) ≡ chosen (top_of es n p)
  unfolding top_of
  newest_is p zero h = refl
  newest_is p (suc n) h =
      let w = write_of f (get_or es n no_entry) in
      ap (λ xs. newest p (map (write_of f) xs)) (take-suc es n no_entry h)
      ∙ ap (newest p) (map-append (write_of f) (take n es) (get_or es n no_entry ∷ []))
      ∙ last_snoc (covers p) (map (write_of f) (take n es)) w
      ∙ ap (λ b. pick b (Some w) (newest p (map (write_of f) (take n es)))) (covers_entry p (get_or es n no_entry))
      ∙ ap (pick (overlies p (get_or es n no_entry)) (Some w)) (newest_is p n (omega arith))
      ∙ newest_by p n (overlies p (get_or es n no_entry))

  chosen_key : (o : Option ℕ) → key_in (chosen o) ≡ key_at o
  chosen_key None = refl
  chosen_key (Some i) = refl

  chosen_byte : (p : ℕ) (o : Option ℕ) → byte_in p 0 (chosen o) ≡ byte_from f es p o
  chosen_byte p None = refl
  chosen_byte p (Some i) = refl

  abbrev ws : List Write
  ws = map (write_of f) es

  newest_of : (p : ℕ) → newest p ws ≡ chosen (top_of es (length es) p)
  newest_of p = ap (λ xs. newest p (map (write_of f) xs)) (sym (take_all (length es) es (omega arith))) ∙ newest_is p (length es) (omega arith)

  pub key_writes : (p : ℕ) → key_of ws p ≡ key_by es p
  unfolding key_of
  key_writes p = ap key_in (newest_of p) ∙ chosen_key (top_of es (length es) p)

  pub byte_writes : (p : ℕ) → byte_of ws p ≡ byte_by f es p
  unfolding byte_over byte_by
  byte_writes p = ap (byte_in p 0) (newest_of p) ∙ chosen_byte p (top_of es (length es) p)

  module _ (b : Batch es) where
    ends_by_law : (m : ℕ) → m ≤ length es → all (ends_by file_end) (map (write_of f) (take m es)) ≡ true
    ends_by_law zero h = refl
    ends_by_law (suc m) h =
        let e : Entry = get_or es m no_entry in
        let l : length (data_of f e) ≡ e.length = bytes_length f (e.slot * slot_size + head_size) e.length in
        let k = b.ends m h in
        ap (λ xs. all (ends_by file_end) (map (write_of f) xs)) (take-suc es m no_entry h)
        ∙ ap (all (ends_by file_end)) (map-append (write_of f) (take m es) (e ∷ []))
        ∙ all_snoc (ends_by file_end) (map (write_of f) (take m es)) (write_of f e) (ends_by_law m (omega arith)) (le-leb (e.offset + length (data_of f e)) file_end (omega arith))

    -- every write of the batch ends within a file
    pub batch_ends : all (ends_by file_end) ws ≡ true
    batch_ends = ap (λ xs. all (ends_by file_end) (map (write_of f) xs)) (sym (take_all (length es) es (omega arith))) ∙ ends_by_law (length es) (omega arith)

    pieces_same : grow (key_of ws) (end_of ws) ≡ grow (key_by es) file_end
    pieces_same =
        sym (skip_to (key_of ws) (end_of ws) file_end (end_within file_end ws batch_ends) (λ q h _. behind_key ws q h))
        ∙ gather_same is_short (key_of ws) (key_by es) file_end (λ q _. key_writes q)

    pub sheet_writes : (node : ℕ) → sheet_by (byte_by f es) node (in_order (grow (key_by es) file_end)) ≡ sheet_of node ws
    unfolding sheet_of sheet_by
    sheet_writes node =
        let qs = in_order (grow (key_by es) file_end) in
        let same = data_same (byte_by f es) (byte_of ws) (λ x. sym (byte_writes x)) qs in
        ap (λ d. (bytes4 (length qs) ++ bytes4 node) ++ (list_of qs ++ d)) same
        ∙ ap (λ gs. sheet_by (byte_of ws) node (in_order gs)) (sym pieces_same) ∙ ap (sheet_by (byte_of ws) node) (sym (pieces_grown ws))
