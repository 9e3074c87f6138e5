-- What the code's walk over places finds: the newest write at a place, how far it stays the same, where a piece begins and ends.
-- Document 01, "Moves", paragraph "Sheet".
use Rattle.std.specs.Prelude.{ℕ, zero, suc, ◌+◌, ◌-◌, ◌≤◌, ◌<◌, ◌≡◌, Bool, List, [], ◌∷◌, length, get_or, reverse, ltb, Option, None, Some, MatchOption}
use Rattle.layout.specs.Sizes.{file_end, largest}
use Rattle.layout.specs.Rack.{rack_of}
use Rattle.walk.specs.declared.Entry.{Entry}
use Rattle.walk.specs.Entry.{data_of}
use Rattle.walk.specs.Walk.{no_entry}
use Rattle.state.specs.Lists.{pick}
use Rattle.state.specs.Batch.{most_batch}
use Rattle.shore.specs.Cover.{spans}
use Rattle.sheet.specs.declared.Piece.{Piece}
use Rattle.sheet.specs.declared.Pieces.{Pieces}
use Rattle.sheet.specs.declared.Found.{Found}
use Rattle.sheet.specs.declared.Start.{Start}
use Rattle.sheet.specs.Sheet.{piece_size, piece, gather, laid_at}

abbrev pub overlies : ℕ → Entry → Bool
overlies p e = spans e.offset e.length p

-- of the first n entries, where the newest that covers p stands in the list
unfoldable pub top_of : List Entry → ℕ → ℕ → Option ℕ
top_of es zero p = None
top_of es (suc n) p = pick (overlies p (get_or es n no_entry)) (Some n) (top_of es n p)

abbrev pub key_at : Option ℕ → ℕ
key_at None = 0
key_at (Some i) = 1

-- the key of a place of the batch: 0 where no write covers it
abbrev pub key_by : List Entry → ℕ → ℕ
key_by es p = key_at (top_of es (length es) p)

-- the pieces at once: a piece that isn't full goes on
abbrev pub is_short : ℕ → Bool
is_short size = ltb size piece_size

abbrev pub grow : (ℕ → ℕ) → ℕ → List Piece
grow key p = gather is_short key p

-- ascending
abbrev pub in_order : List Piece → List Piece
in_order qs = reverse qs

-- how many bytes the pieces have; not `sum_by`, which folds from the left and would ask each induction a step more
abbrev pub total : List Piece → ℕ
total [] = 0
total (q ∷ qs) = q.size + total qs

abbrev pub no_piece : Piece
no_piece = piece 0 0 0

-- a batch as the code has it: entries in number order, each within a file and no longer than a write may be
pub record Batch (es : List Entry) : Type 0 where
  pub few : length es ≤ most_batch
  pub some : (i : ℕ) → i < length es → 0 < (get_or es i no_entry).length
  pub most : (i : ℕ) → i < length es → (get_or es i no_entry).length ≤ largest
  pub ends : (i : ℕ) → i < length es → (get_or es i no_entry).offset + (get_or es i no_entry).length ≤ file_end

-- and with its bytes in a ring of so many slots
pub record Laid (slots : ℕ) (es : List Entry) : Type 0 where
  pub batch : Batch es
  pub inside : (i : ℕ) → i < length es → (get_or es i no_entry).slot < slots

-- every byte of a piece is covered
pub record Covered (es : List Entry) (start size : ℕ) : Type 0 where
  pub each : (p : ℕ) → start ≤ p → p < start + size → 0 < key_by es p

-- and so of all pieces
pub record AllCovered (es : List Entry) (qs : List Piece) : Type 0 where
  pub ends : (k : ℕ) → k < length qs → (get_or qs k no_piece).start + (get_or qs k no_piece).size ≤ file_end
  pub each : (k : ℕ) → k < length qs → Covered es (get_or qs k no_piece).start (get_or qs k no_piece).size

-- byte p of the entry that stands there in the list, from the slots of a ring; 0 of none
abbrev pub byte_from : (ℕ → ℕ) → List Entry → ℕ → Option ℕ → ℕ
byte_from f es p None = 0
byte_from f es p (Some i) = let e = get_or es i no_entry in get_or (data_of f e) (p - e.offset) 0

-- byte p of the batch laid in number order
unfoldable pub byte_by : (ℕ → ℕ) → List Entry → ℕ → ℕ
byte_by f es p = byte_from f es p (top_of es (length es) p)

-- a write laid on the bytes at start and behind it: its byte where it covers the place, else the one that was there
pub record Painted (f : ℕ → ℕ) (e : Entry) (start : ℕ) (was is : List ℕ) : Type 0 where
  pub same : length is ≡ length was
  pub each : (k : ℕ) → k < length was → get_or is k 0 ≡ pick (overlies (start + k) e) (get_or (data_of f e) (start + k - e.offset) 0) (get_or was k 0)

-- r is a place after p, at most e, and f is the same from p up to r
pub record Steady {A : Type 0} (f : ℕ → A) (p e r : ℕ) : Type 0 where
  pub after : p < r
  pub most : r ≤ e
  pub same : (q : ℕ) → p ≤ q → q < r → f q ≡ f p

-- what is found at p: the newest write, and a place up to which it stays the newest
pub record FoundAt (es : List Entry) (e p : ℕ) (r : Found) : Type 0 where
  pub newest : r.newest ≡ top_of es (length es) p
  pub until : Steady (top_of es (length es)) p e r.until

-- what is known of a piece's start: its key, and a place up to which the key stays so
pub record StartAt (key : ℕ → ℕ) (e : ℕ) (s : Start) : Type 0 where
  pub known : s.key ≡ key s.place
  pub until : Steady key s.place e s.until

-- r is the first covered place from a on, or e
pub record First (key : ℕ → ℕ) (a e r : ℕ) : Type 0 where
  pub from : a ≤ r
  pub most : r ≤ e
  pub bare : (q : ℕ) → a ≤ q → q < r → key q ≡ 0
  pub here : r < e → 0 < key r

-- the piece that starts first from a on, if one does before e
abbrev pub StartFrom : (ℕ → ℕ) → ℕ → ℕ → Option Start → Type 0
StartFrom key a e r = MatchOption r (First key a e e) (λ s. (s.place < e) × First key a e s.place × StartAt key e s)

-- a piece from s ends at r: all up to there has one key, and there it is full or the key is another
pub record Ends (key : ℕ → ℕ) (s e r : ℕ) : Type 0 where
  pub after : s < r
  pub most : r ≤ e
  pub held : (q : ℕ) → s ≤ q → q < r → key q ≡ key s
  pub fits : r ≤ s + piece_size
  pub bare : r < s + piece_size → r < e → key r ≡ key s → ⊥

-- the code's list of pieces, with their bytes counted
abbrev pub pieces_from : List Piece → Pieces
pieces_from qs = record { size = total qs; list = rack_of no_piece qs }

-- the sheet laid in the front of a buffer that is long enough
abbrev pub laid_if : List ℕ → List ℕ → List ℕ
laid_if d sheet = pick (ltb (length d) (length sheet)) d (laid_at d 0 sheet)

-- and its length, if the buffer is long enough
abbrev pub made_from : ℕ → List ℕ → Option ℕ
made_from size sheet = pick (ltb size (length sheet)) None (Some (length sheet))
