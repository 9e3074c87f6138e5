-- The box and the shore, and what a history of calls, restarts and landings makes of them.
-- The world after a move is what the definitions give that the calls' promises cite: ring bytes, state record, the sheet's bytes as they stand in
-- the lent buffer, refusals and all. Document 01, "What the box's cache does".
use Rattle.std.specs.Prelude.{ℕ, zero, suc, Bool, List, [], ◌∷◌, take, eqb, Option, None, Some}
use Rattle.store.specs.Store.{made}
use Rattle.state.specs.declared.State.{State}
use Rattle.state.specs.Lists.{pick, reopened}
use Rattle.shore.specs.File.{Put, put}
use Rattle.shore.specs.Cover.{or_else}
use Rattle.sheet.specs.Sheet.{node_in, puts_in}
use Rattle.rules.specs.Call.{Call, reopens, reports, starts, is_one}
use Rattle.rules.specs.Outcome.{Said, Outcome, outcome}

-- the ring's bytes, the state as the last call gave it back, the shore's files by node, and the bytes of the sheet that is out, if one is
pub record World : Type 0 where
  pub ring : List ℕ
  pub state : State
  pub shore : ℕ → List ℕ
  pub out : Option (List ℕ)

-- a call with its arguments, a reopen call being a restart; or byte k of those that the sheet lays, landing on shore
pub data Move : Type 0 where
  call : Call → Move
  land : ℕ → Move

-- "From an empty ring": one made in a buffer
abbrev pub begins : List ℕ → (ℕ → List ℕ) → World
begins r files = record { ring = made r; state = reopened []; shore = files; out = None }

-- ---- a call

abbrev pub is_done : Said → Bool
is_done said = eqb said.refusal 0

-- a start that answers number and length has sent so many bytes of the buffer's front
abbrev pub sent : List ℕ → List ℕ → Option (List ℕ)
sent [] b = None
sent (number ∷ []) b = None
sent (number ∷ length ∷ vs) b = Some (take length b)

-- the sheet that is out: a start sends one; a restart, or a report of it, ends it
abbrev pub out_after : Call → Outcome → Option (List ℕ) → Option (List ℕ)
out_after c o out =
    pick (is_one c (reopens ∷ [])) None
    (pick (is_done o.said)
    (pick (is_one c (reports ∷ [])) None
    (pick (is_one c (starts ∷ [])) (or_else (sent o.said.values o.buffer) out) out))
    out)

abbrev pub called : World → Call → Outcome → World
called W c o = record { ring = o.ring; state = o.state; shore = W.shore; out = out_after c o W.out }

-- ---- a landing

abbrev pub nth : ℕ → List Put → Option Put
nth k [] = None
nth zero (q ∷ qs) = Some q
nth (suc k) (q ∷ qs) = nth k qs

abbrev pub put_on : (ℕ → List ℕ) → ℕ → Option Put → ℕ → List ℕ
put_on shore node None n = shore n
put_on shore node (Some q) n = pick (eqb node n) (put (shore n) q.place q.byte) (shore n)

-- a byte lands only of the sheet that is out
abbrev pub landed : (ℕ → List ℕ) → Option (List ℕ) → ℕ → ℕ → List ℕ
landed shore None k n = shore n
landed shore (Some sheet) k n = put_on shore (node_in sheet) (nth k (puts_in sheet)) n

-- ---- a history: moves, the newest first

abbrev pub after : World → Move → World
after W (call c) = called W c (outcome c W.ring W.state)
after W (land k) = record { ring = W.ring; state = W.state; shore = landed W.shore W.out k; out = W.out }

abbrev pub world : World → List Move → World
world W [] = W
world W (m ∷ ms) = after (world W ms) m
