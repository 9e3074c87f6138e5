-- `state::find` meets its contract: the library's place is the definitions' (`is_place`).
use Rattle.std.proofs.Common.{rules}
use borrow.Author.Tests.{tests}
use Rattle.std.proofs.lemmas.Iterator.{YieldsList-from_slice}
use Rattle.std.proofs.lemmas.Iterator.Search.{position_from_yields_List}
use Rattle.state.specs.Asks.{seeks}
use Rattle.state.proofs.Library.{is_place}
use Rattle.state.proofs.find.Goals as goal

pub returns : goal.returns
returns c = let p = seeks c.args.query in
    is_place p c.args.held.now _
    (position_from_yields_List p _ _ _ c.position.ensures.ran (YieldsList-from_slice c.args.held.now cc) (λ x b q k. search (rules, tests)))
