-- The batch of a flush. Document 01, "Moves", paragraph "Flush".
use Rattle.std.specs.Prelude.{ℕ, zero, suc, Bool, List, [], ◌∷◌, take, eqb}
use Rattle.layout.specs.Bytes.{both}
use Rattle.state.specs.declared.Held.{Held}
use Rattle.state.specs.Lists.{pick, those}
use Rattle.state.specs.Moves.{taken, moved_by}
use Rattle.state.specs.Asks.{is_unflushed}

abbrev pub most_batch : ℕ
most_batch = 32

-- a node's own, and Unflushed
abbrev pub is_waiting : ℕ → Held → Bool
is_waiting node h = both (eqb h.entry.node node) (is_unflushed h)

-- "For a node, the batch is its oldest 32 Unflushed writes, or all if fewer."
unfoldable pub batch_of : ℕ → List Held → List Held
batch_of node hs = take most_batch (those (is_waiting node) hs)

-- "the batch is In flight": the first so many that wait are moved by the table, the others stay
unfoldable pub take_first : ℕ → ℕ → List Held → List Held
take_first zero node hs = hs
take_first (suc m) node [] = []
take_first (suc m) node (h ∷ hs) = pick (is_waiting node h) (moved_by taken h ∷ take_first m node hs) (h ∷ take_first (suc m) node hs)

abbrev pub taken_of : ℕ → List Held → List Held
taken_of node hs = take_first most_batch node hs
