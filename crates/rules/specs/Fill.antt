-- What a fill answers, and each byte of its buffer. Document 01, "Moves", paragraph "Fill".
use Rattle.std.specs.Prelude.{ℕ, suc, ◌+◌, ◌-◌, Bool, List, [], ◌∷◌, map, eqb, ltb}
use Rattle.layout.specs.Bytes.{round}
use Rattle.layout.specs.declared.Ring.{Ring}
use Rattle.walk.specs.Walk.{Write, write_of}
use Rattle.state.specs.declared.Held.{Held}
use Rattle.state.specs.Lists.{pick, entry_of, those}
use Rattle.state.specs.Asks.{larger, lesser}
use Rattle.shore.specs.Cover.{byte_over}

-- "n above 65,536"
abbrev pub longest_fill : ℕ
longest_fill = 65536

-- the writes of a node that the ring holds, in number order, in whichever state
abbrev pub is_of : ℕ → Held → Bool
is_of node h = eqb h.entry.node node

-- of slots with the bytes f
abbrev pub writes_by : ℕ → (ℕ → ℕ) → List Held → List Write
writes_by node f hs = map (write_of f) (map entry_of (those (is_of node) hs))

abbrev pub writes_for : ℕ → List ℕ → Ring → List Held → List Write
writes_for node r g hs = writes_by node (round r g.n) hs

-- "The answer is the count r: the greater of g and min(n, E - offset), the latter 0 where E is below offset."
abbrev pub fill_count : ℕ → ℕ → ℕ → ℕ → ℕ
fill_count n g offset end = larger g (lesser n (end - offset))

-- "Each byte before r is that of the newest ring entry that covers it; else the fetched one before g; else zero. .. those from r on are
-- unchanged." Of the buffer's bytes from place i on.
unfoldable pub filled_from : List Write → ℕ → ℕ → ℕ → ℕ → List ℕ → List ℕ
filled_from ws offset g r i [] = []
filled_from ws offset g r i (b ∷ bs) = pick (ltb i r) (byte_over (offset + i) (pick (ltb i g) b 0) ws) b ∷ filled_from ws offset g r (suc i) bs

abbrev pub filled : List Write → ℕ → ℕ → ℕ → List ℕ → List ℕ
filled ws offset g r bs = filled_from ws offset g r 0 bs
