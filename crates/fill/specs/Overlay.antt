-- What a fill's helpers give: the pin and the writes that they look for, and bytes laid over. Document 01, "Moves", paragraph "Fill".
use Rattle.std.specs.Prelude.{ℕ, suc, Bool, List, [], ◌∷◌, eqb, ltb}
use Rattle.layout.specs.Bytes.{both}
use Rattle.walk.specs.Walk.{Write}
use Rattle.state.specs.declared.Held.{Held}
use Rattle.state.specs.declared.Pin.{Pin}
use Rattle.state.specs.Asks.{end_of}
use Rattle.shore.specs.Cover.{spans, byte_over}
use Rattle.rules.specs.Fill.{is_of}

-- "of that number for that very node"
abbrev pub is_named : ℕ → ℕ → Pin → Bool
is_named number node p = both (eqb p.number number) (eqb p.node node)

-- a write is the node's and covers a place
abbrev pub is_over : ℕ → ℕ → Held → Bool
is_over node p h = both (is_of node h) (spans h.entry.offset h.entry.length p)

-- a write is the node's and touches the places from one up to an end
abbrev pub is_near : ℕ → ℕ → ℕ → Held → Bool
is_near node from end h = both (is_of node h) (both (ltb h.entry.offset end) (ltb from (end_of h)))

-- "Each byte .. is that of the newest ring entry that covers it", else as it was: of bytes that stand in the file from place p on
unfoldable pub overlaid : List Write → ℕ → List ℕ → List ℕ
overlaid ws p [] = []
overlaid ws p (b ∷ bs) = byte_over p b ws ∷ overlaid ws (suc p) bs
