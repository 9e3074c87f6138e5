-- `state::find_pin` meets its contract: the library's place is the definitions' (`is_place`).
use Rattle.std.proofs.Common.{rules}
use borrow.Author.Tests.{tests}
use lib.Dec.{eqb}
use Rattle.std.proofs.lemmas.Iterator.{YieldsList-from_slice}
use Rattle.std.proofs.lemmas.Iterator.Search.{position_from_yields_List}
use Rattle.state.specs.declared.Pin.{Pin}
use Rattle.state.proofs.Library.{is_place}
use Rattle.state.proofs.find_pin.Goals as goal

pub returns : goal.returns
returns c = let p = λ (x : Pin). eqb x.number c.args.number in
    is_place p c.args.pins.now _
    (position_from_yields_List p _ _ _ c.position.ensures.ran (YieldsList-from_slice c.args.pins.now cc) (λ x b q k. search (rules, tests)))
