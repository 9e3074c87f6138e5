-- The world and the tale side by side: what is true of them after every history. The steps keep it, the theorems read it off.
use Rattle.std.specs.Prelude.{Option, None, Some}
use Prim.Native.Nat.{ℕ, ◌<◌, ◌^◌}
use mathlib.Core.Path.{◌≡◌}
use mathlib.Core.Bool.{Bool, true, false}
use mathlib.Core.List.{List, [], ◌++◌, map}
use lib.ListN.{length, get_or}
use lib.Dec.{eqb}
use Rattle.layout.specs.Sizes.{file_end}
use Rattle.layout.specs.Bytes.{round}
use Rattle.walk.specs.Walk.{Write, write_of}
use Rattle.state.specs.Lists.{all, listed, holding}
use Rattle.state.proofs.Finding.{Each}
use Rattle.shore.specs.File.{Put}
use Rattle.sheet.specs.Sheet.{sheet_of, puts_in}
use Rattle.sheet.proofs.Covered.{ends_by}
use Rattle.rules.proofs.Standing.{Stands}
use Rattle.history.specs.World.{World, nth}
use Rattle.history.specs.Tale.{Tale, among, numbers_of, is_of}
use Rattle.history.proofs.Seeing.{seen}
use Rattle.history.proofs.Pinning.{PinsAre}
use Rattle.history.proofs.Shores.{OnShore, waiting}

-- a put of the sheet stands on shore
pub record Stood (file : List ℕ) (q : Put) : Type 0 where
  pub byte : get_or file q.place 0 ≡ q.byte
  pub inside : q.place < length file

-- the sheet that is out is the batch's; its writes are the node's oldest that wait, and what has landed of it stands
pub record SheetOut (sheet : List ℕ) (shore : ℕ → List ℕ) (t : Tale) : Type 0 where
  pub node : ℕ
  pub named : node < 2 ^ 32
  pub is : sheet ≡ sheet_of node t.batch
  pub ends : all (ends_by file_end) t.batch ≡ true
  pub rest : List Write
  pub front : waiting t.good node t.held ≡ t.batch ++ rest
  -- no other held write has a number of the batch
  pub apart : Each (λ w. among w.number (numbers_of t.batch) ≡ false) rest
  pub own : Each (λ w. among w.number (numbers_of t.batch) ≡ true → is_of node w ≡ true) t.held
  pub stood : (k : ℕ) → among k t.landed ≡ true → (q : Put) → nth k (puts_in sheet) ≡ Some q → Stood (shore node) q

abbrev pub OutFits : Option (List ℕ) → (ℕ → List ℕ) → Tale → Type 0
OutFits None shore t = t.batch ≡ []
OutFits (Some sheet) shore t = SheetOut sheet shore t

abbrev pub is_none : Option (List ℕ) → Bool
is_none None = true
is_none (Some sheet) = false

pub record Agrees (files : ℕ → List ℕ) (W : World) (t : Tale) : Type 0 where
  pub stands : Stands W.ring W.state
  -- the ring holds the writes that must be held, each in the state that the tale tells
  pub written : map (write_of (round W.ring stands.ring.n)) stands.entries ≡ t.held
  pub told : holding stands.entries (listed W.state) ≡ map (seen t.good (numbers_of t.batch)) stands.entries
  pub pinned : PinsAre W.state.pins t.live
  -- numbers given out are below the next
  pub below_good : Each (λ k. k < W.state.next) t.good
  pub below_batch : Each (λ k. k < W.state.next) (numbers_of t.batch)
  pub on_shore : OnShore files W.shore t.accepted t.held t.good
  -- a flush is under way exactly while a sheet is out
  pub flying : is_none W.out ≡ eqb W.state.flush 0
  pub out_fits : OutFits W.out W.shore t
