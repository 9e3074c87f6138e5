-- The flush sheet. Document 01, "Moves", paragraph "Sheet", in its order; and a sheet read back from its bytes.
use Rattle.std.specs.Prelude.{ℕ, zero, suc, ◌+◌, ◌-◌, ◌*◌, Bool, true, List, [], ◌∷◌, ◌++◌, length, take, drop, eqb, leb, Option, None, Some}
use Rattle.layout.specs.Bytes.{both, flat, number4, bytes_at, bytes4}
use Rattle.walk.specs.Walk.{Write}
use Rattle.state.specs.Lists.{pick}
use Rattle.state.specs.Asks.{larger}
use Rattle.shore.specs.File.{Put, puts}
use Rattle.shore.specs.Cover.{newest, byte_over}
use Rattle.sheet.specs.declared.Piece.{Piece}

-- "pieces of 4,096"
abbrev pub piece_size : ℕ
piece_size = 4096

-- ---- "Lay the batch in number order": at each place, the byte of the newest write that covers it

abbrev pub byte_of : List Write → ℕ → ℕ
byte_of ws p = byte_over p 0 ws

-- what the bytes of a run agree in: 0 where no write covers the place, 1 where one does
abbrev pub key_in : Option Write → ℕ
key_in None = 0
key_in (Some w) = 1

unfoldable pub key_of : List Write → ℕ → ℕ
key_of ws p = key_in (newest p ws)

-- no write covers this place or one behind it
abbrev pub end_of : List Write → ℕ
end_of [] = 0
end_of (w ∷ ws) = larger (w.offset + length w.bytes) (end_of ws)

-- ---- "take the maximal runs of consecutive covered bytes (touching runs join)"

abbrev pub piece : ℕ → ℕ → ℕ → Piece
piece start size key = record { start = start; size = size; key = key }

-- whether a byte at p goes on a run that may go on
unfoldable pub goes_on : (ℕ → Bool) → Piece → ℕ → ℕ → Bool
goes_on may q p key = both (eqb (q.start + q.size) p) (both (may q.size) (eqb q.key key))

-- a covered byte goes on the last run or begins one; the runs are listed last first
abbrev pub join : (ℕ → Bool) → ℕ → ℕ → List Piece → List Piece
join may zero p qs = qs
join may (suc k) p [] = piece p 1 (suc k) ∷ []
join may (suc k) p (q ∷ qs) = pick (goes_on may q p (suc k)) (piece q.start (q.size + 1) q.key ∷ qs) (piece p 1 (suc k) ∷ q ∷ qs)

-- of the places below p
unfoldable pub gather : (ℕ → Bool) → (ℕ → ℕ) → ℕ → List Piece
gather may key zero = []
gather may key (suc p) = join may (key p) p (gather may key p)

abbrev pub always : ℕ → Bool
always size = true

abbrev pub runs : (ℕ → ℕ) → ℕ → List Piece
runs key end = gather always key end

-- ---- "cut each run from its start into pieces of 4,096, the last one shorter"

-- in at most m cuts
unfoldable pub cut_in : ℕ → Piece → List Piece
cut_in zero q = []
cut_in (suc m) q =
    pick (leb q.size piece_size) (q ∷ [])
    (piece q.start piece_size q.key ∷ cut_in m (piece (q.start + piece_size) (q.size - piece_size) q.key))

-- of all runs, ascending; a piece has a byte at least, so a run's bytes are cuts enough
unfoldable pub cut_all : List Piece → List Piece
cut_all [] = []
cut_all (q ∷ qs) = cut_all qs ++ cut_in q.size q

unfoldable pub pieces_of : List Write → List Piece
pieces_of ws = cut_all (runs (key_of ws) (end_of ws))

-- ---- "Layout: count of pieces, node, then offset and length of each piece, ascending, all as 4-byte numbers; then the pieces' bytes in
-- that order."

unfoldable pub list_of : List Piece → List ℕ
list_of [] = []
list_of (q ∷ qs) = (bytes4 q.start ++ bytes4 q.size) ++ list_of qs

unfoldable pub data_by : (ℕ → ℕ) → List Piece → List ℕ
data_by b [] = []
data_by b (q ∷ qs) = bytes_at b q.start q.size ++ data_by b qs

unfoldable pub sheet_by : (ℕ → ℕ) → ℕ → List Piece → List ℕ
sheet_by b node qs = (bytes4 (length qs) ++ bytes4 node) ++ (list_of qs ++ data_by b qs)

unfoldable pub sheet_of : ℕ → List Write → List ℕ
sheet_of node ws = sheet_by (byte_of ws) node (pieces_of ws)

-- bytes laid in a lent buffer from a place on; all others stay
unfoldable pub laid_at : List ℕ → ℕ → List ℕ → List ℕ
laid_at d p bs = take p d ++ (bs ++ drop (p + length bs) d)

-- ---- a sheet read back from its bytes: its node, and what it lays on the node's file

unfoldable pub node_in : List ℕ → ℕ
node_in s = number4 (flat s) 4

-- so many pieces of the list from place p on; a sheet doesn't tell a key
unfoldable pub pieces_at : (ℕ → ℕ) → ℕ → ℕ → List Piece
pieces_at f p zero = []
pieces_at f p (suc m) = piece (number4 f p) (number4 f (p + 4)) 0 ∷ pieces_at f (p + 8) m

-- the pieces with their bytes from place p on
unfoldable pub puts_at : (ℕ → ℕ) → ℕ → List Piece → List Put
puts_at f p [] = []
puts_at f p (q ∷ qs) = puts q.start (bytes_at f p q.size) ++ puts_at f (p + q.size) qs

abbrev pub puts_by : (ℕ → ℕ) → ℕ → List Put
puts_by f count = puts_at f (8 + 8 * count) (pieces_at f 8 count)

unfoldable pub puts_in : List ℕ → List Put
puts_in s = puts_by (flat s) (number4 (flat s) 0)
