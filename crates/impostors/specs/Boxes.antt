-- A history run with another box in place of ours, and what the mission's third demand asks of it.
-- `crates/impostors/proofs/Runs.antt` shows that with our own box it is the history of crate `history`.
use Rattle.std.specs.Prelude.{ℕ, zero, suc, Bool, true, List, [], ◌∷◌, ◌++◌, length, replicate, Option, None, Some}
use Rattle.layout.specs.Bytes.{both}
use Rattle.walk.specs.Walk.{Write, writes_of}
use Rattle.state.specs.declared.State.{State}
use Rattle.state.specs.Lists.{pick, all, those}
use Rattle.shore.specs.File.{lay, puts_all}
use Rattle.sheet.specs.Sheet.{puts_in}
use Rattle.rules.specs.Call.{Call, reports, is_one}
use Rattle.rules.specs.Outcome.{Outcome}
use Rattle.history.specs.World.{World, Move, call, land, begins, called, after}
use Rattle.history.specs.Tale.{Tale, nothing_yet, among, is_of, tell, hear}

-- a box is what it makes of any call on any ring and state
abbrev pub Box : Type 0
Box = Call → List ℕ → State → Outcome

-- ---- its world and its tale

abbrev pub after_by : Box → World → Move → World
after_by box W (call c) = called W c (box c W.ring W.state)
after_by box W (land k) = after W (land k)

abbrev pub world_by : Box → World → List Move → World
world_by box W [] = W
world_by box W (m ∷ ms) = after_by box (world_by box W ms) m

abbrev pub told_by : Box → World → Move → Tale → Tale
told_by box W (call c) t = tell t c (box c W.ring W.state).said
told_by box W (land k) t = hear t k

abbrev pub tale_by : Box → World → List Move → Tale
tale_by box W [] = nothing_yet
tale_by box W (m ∷ ms) = told_by box (world_by box W ms) m (tale_by box W ms)

-- ---- the premises, as a test: every "good" comes when the whole sheet has landed

abbrev below : ℕ → List ℕ
below zero = []
below (suc k) = k ∷ below k

abbrev whole_landed : Option (List ℕ) → List ℕ → Bool
whole_landed None landed = true
whole_landed (Some sheet) landed = all (λ k. among k landed) (below (length (puts_in sheet)))

abbrev is_fair : World → Tale → Move → Bool
is_fair W t (call c) = pick (both (is_one c (reports ∷ [])) c.good) (whole_landed W.out t.landed) true
is_fair W t (land k) = true

abbrev pub all_fair : Box → World → List Move → Bool
all_fair box W [] = true
all_fair box W (m ∷ ms) = both (is_fair (world_by box W ms) (tale_by box W ms) m) (all_fair box W ms)

-- ---- what a demand asks and what a box gives, after moves from the least ring and a shore without a byte

abbrev pub bare : World
bare = begins (replicate 4624 0) (λ n. [])

abbrev pub held_in : Option (List Write) → List Write
held_in None = []
held_in (Some ws) = ws

-- "the shore file with the ring laid over it"
abbrev pub seen_file : Box → List Move → ℕ → List ℕ
seen_file box ms n = lay ((world_by box bare ms).shore n) (puts_all (those (is_of n) (held_in (writes_of (world_by box bare ms).ring))))

-- "the starting file with all accepted writes laid on in order"
abbrev pub accepted_file : Box → List Move → ℕ → List ℕ
accepted_file box ms n = lay [] (puts_all (those (is_of n) (tale_by box bare ms).accepted))

-- what a call says after the moves, and every byte of its buffer
abbrev pub said_after : Box → List Move → Call → List ℕ
said_after box ms c =
    let o = box c (world_by box bare ms).ring (world_by box bare ms).state in
    o.said.refusal ∷ (o.said.values ++ o.buffer)
