-- What a call knows once the judge has let it pass: the ring reads as g and its entries, the state fits, and the held writes are there.
use Rattle.std.specs.Prelude.{ℕ, ◌≡◌, true, List}
use Rattle.layout.specs.Rack.{items}
use Rattle.walk.specs.declared.Entry.{Entry}
use Rattle.walk.specs.Walk.{readable, reading_of}
use Rattle.state.specs.declared.State.{State}
use Rattle.state.specs.Lists.{holding, listed}
use Rattle.judge.specs.declared.Judged.{Judged}
use Rattle.judge.specs.Fits.{fits}

pub record Known (r : List ℕ) (s : State) (j : Judged) : Type 0 where
  pub entries : List Entry
  pub reading : reading_of r ≡ readable j.ring entries
  pub fit : fits entries s ≡ true
  pub held : items j.held ≡ holding entries (listed s)
