-- The mission's premises, and nothing else is assumed. Only our sheets change the shore, nothing lands after a report or a restart, nobody else touches the ring,
-- and each call gets the state that the last gave back: that is so in every history, by what a move is (World.antt). What is left to ask stands here.
use Rattle.std.specs.Prelude.{ℕ, ◌<◌, ◌^◌, ◌≡◌, true, false, List, [], ◌∷◌, length, Some}
use Rattle.sheet.specs.Sheet.{puts_in}
use Rattle.rules.specs.Call.{Call, makes, reports, is_one}
use Rattle.rules.specs.Outcome.{outcome}
use Rattle.history.specs.World.{World, Move, call, land, is_done, world}
use Rattle.history.specs.Tale.{Tale, among, tale}

pub record FairCall (W : World) (t : Tale) (c : Call) : Type 0 where
  -- "none makes the ring anew"
  pub not_made : is_one c (makes ∷ []) ≡ false
  -- arguments are numbers of their types
  pub node : c.node < 2 ^ 32
  pub handle : c.handle < 2 ^ 32
  -- "good" means the whole sheet landed
  pub whole : is_one c (reports ∷ []) ≡ true → c.good ≡ true → is_done (outcome c W.ring W.state).said ≡ true
      → (sheet : List ℕ) → W.out ≡ Some sheet → (k : ℕ) → k < length (puts_in sheet) → among k t.landed ≡ true

abbrev pub Fair : World → Tale → Move → Type 0
Fair W t (call c) = FairCall W t c
Fair W t (land k) = Unit {0}

abbrev pub AllFair : World → List Move → Type 0
AllFair W [] = Unit {0}
AllFair W (m ∷ ms) = Fair (world W ms) (tale W ms) m × AllFair W ms
