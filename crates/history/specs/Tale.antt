-- What a history tells by itself, from calls and their answers alone: accepted writes, live pins and their marks, batches reported good, and the writes that must
-- be held. No stored state is looked at. Document 01, "Moves", paragraphs "Pins", "Letting go" and "Flush".
use Rattle.std.specs.Prelude.{ℕ, ◌+◌, Bool, true, false, not, List, [], ◌∷◌, ◌++◌, map, length, take, eqb, leb}
use Rattle.layout.specs.Sizes.{slots_of}
use Rattle.layout.specs.Bytes.{both}
use Rattle.walk.specs.Walk.{Write}
use Rattle.state.specs.declared.Pin.{Pin}
use Rattle.state.specs.Lists.{pick, any, those}
use Rattle.state.specs.Batch.{most_batch}
use Rattle.rules.specs.Call.{Call, Kind, makes, reopens, writes, pins, unpins, asks_end, reports, starts, fills, takes_ticket, asks_ticket, asks_turn}
use Rattle.rules.specs.Outcome.{Said, outcome}
use Rattle.history.specs.World.{World, Move, call, land, is_done, world}

pub record Tale : Type 0 where
  -- all accepted writes, in order
  pub accepted : List Write
  -- those that must be held, in order
  pub held : List Write
  -- numbers of the writes that have been in a batch reported good since the last restart
  pub good : List ℕ
  -- the batch that is out
  pub batch : List Write
  -- the live pins, with their marks
  pub live : List Pin
  -- which bytes of the sheet that is out have landed
  pub landed : List ℕ
  -- the numbers given out since the last restart, the newest first
  pub given : List ℕ

abbrev tells : (accepted held : List Write) → (good : List ℕ) → (batch : List Write) → (live : List Pin) → (landed given : List ℕ) → Tale
tells accepted held good batch live landed given =
    record { accepted = accepted; held = held; good = good; batch = batch; live = live; landed = landed; given = given }

abbrev pub nothing_yet : Tale
nothing_yet = tells [] [] [] [] [] [] []

-- ---- tests

abbrev pub among : ℕ → List ℕ → Bool
among k ns = any (λ n. eqb n k) ns

abbrev pub numbers_of : List Write → List ℕ
numbers_of ws = map (λ w. w.number) ws

-- of one node, or of all (node 0)
abbrev pub in_reach : ℕ → Write → Bool
in_reach node w = pick (eqb node 0) true (eqb w.node node)

abbrev pub is_of : ℕ → Write → Bool
is_of node w = eqb w.node node

-- a write has been in a batch reported good since the last restart
abbrev pub is_good : Tale → Write → Bool
is_good t w = among w.number t.good

-- the slots that writes take
abbrev pub slots_taken : List Write → ℕ
slots_taken [] = 0
slots_taken (w ∷ ws) = slots_of (length w.bytes) + slots_taken ws

-- ---- what a call that isn't refused tells, with the number that it gave

-- "the least number among writes in its reach that are not yet Flushed, or its own number if there are none"; its own is above all of those
abbrev pub least : ℕ → List Write → ℕ
least own [] = own
least own (w ∷ ws) = pick (leb w.number (least own ws)) w.number (least own ws)

abbrev pub pin_of : Tale → ℕ → ℕ → Pin
pin_of t number node = record { number = number; mark = least number (those (λ w. both (in_reach node w) (not (is_good t w))) t.held); node = node }

-- "no live pin with it in reach has a mark at or below its number"
abbrev pub is_pinned : List Pin → Write → Bool
is_pinned ps w = any (λ p. both (in_reach p.node w) (leb p.mark w.number)) ps

-- "until the first good report or unpin after which it and every earlier accepted write still held meet two conditions, each write for itself"
abbrev pub leave : List ℕ → List Pin → List Write → List Write
leave good ps [] = []
leave good ps (w ∷ ws) = pick (both (among w.number good) (not (is_pinned ps w))) (leave good ps ws) (w ∷ ws)

-- a write is accepted, and must be held
abbrev wrote : Tale → Write → Tale
wrote t w = tells (t.accepted ++ w ∷ []) (t.held ++ w ∷ []) t.good t.batch t.live t.landed (w.number ∷ t.given)

abbrev pinned : Tale → ℕ → ℕ → Tale
pinned t number node = tells t.accepted t.held t.good t.batch (t.live ++ pin_of t number node ∷ []) t.landed (number ∷ t.given)

abbrev unpinned : Tale → ℕ → Tale
unpinned t number =
    let live = those (λ p. not (eqb p.number number)) t.live in
    tells t.accepted (leave t.good live t.held) t.good t.batch live t.landed t.given

-- "its oldest 32 Unflushed writes, or all if fewer"
abbrev started : Tale → ℕ → ℕ → Tale
started t number node =
    let batch = take most_batch (those (λ w. both (is_of node w) (not (is_good t w))) t.held) in
    tells t.accepted t.held t.good batch t.live [] (number ∷ t.given)

-- after a good report what is due leaves; after a bad one the batch waits again
abbrev reported_by : Bool → Tale → Tale
reported_by true t =
    let good = t.good ++ numbers_of t.batch in
    tells t.accepted (leave good t.live t.held) good [] t.live [] t.given
reported_by false t = tells t.accepted t.held t.good [] t.live [] t.given

abbrev restarted : Tale → Tale
restarted t = tells t.accepted t.held [] [] [] [] []

abbrev numbered : Tale → ℕ → Tale
numbered t number = tells t.accepted t.held t.good t.batch t.live t.landed (number ∷ t.given)

-- "nothing" starts no flush
abbrev started_if : List ℕ → Tale → ℕ → Tale
started_if [] t node = t
started_if (number ∷ vs) t node = started t number node

abbrev front : List ℕ → ℕ
front [] = 0
front (v ∷ vs) = v

abbrev pub tell_by : Kind → Call → List ℕ → Tale → Tale
tell_by makes c vs t = t
tell_by reopens c vs t = restarted t
tell_by writes c vs t = wrote t (record { number = front vs; node = c.node; handle = c.handle; offset = c.offset; bytes = c.bytes })
tell_by pins c vs t = pinned t (front vs) c.node
tell_by unpins c vs t = unpinned t c.number
tell_by asks_end c vs t = t
tell_by reports c vs t = reported_by c.good t
tell_by starts c vs t = started_if vs t c.node
tell_by fills c vs t = t
tell_by takes_ticket c vs t = numbered t (front vs)
tell_by asks_ticket c vs t = t
tell_by asks_turn c vs t = t

abbrev pub tell : Tale → Call → Said → Tale
tell t c said = pick (is_done said) (tell_by c.kind c said.values t) t

-- a byte landed
abbrev pub hear : Tale → ℕ → Tale
hear t k = tells t.accepted t.held t.good t.batch t.live (k ∷ t.landed) t.given

-- the tale of moves from a world on, the newest first
abbrev pub told : World → Move → Tale → Tale
told W (call c) t = tell t c (outcome c W.ring W.state).said
told W (land k) t = hear t k

abbrev pub tale : World → List Move → Tale
tale W [] = nothing_yet
tale W (m ∷ ms) = told (world W ms) m (tale W ms)
