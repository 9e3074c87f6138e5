-- `state::is_done` meets its contract: nothing is found exactly if nothing passes (`none_found`).
use mathlib.Core.Path.{subst}
use lib.ListN.{length}
use Rattle.state.specs.Lists.{IsPlaceOf}
use Rattle.state.specs.Asks.{waits_for, ticket_done}
use Rattle.state.proofs.Finding.{seek_ticket}
use Rattle.state.proofs.Library.{none_found}
use Rattle.state.proofs.is_done.Goals as goal

pub returns : goal.returns
unfolding ticket_done
returns c = let a = c.args in
    let hs = a.held.now in
    let place = subst (λ k. IsPlaceOf c.find.result k (length hs)) (seek_ticket a.ticket a.node hs c.requires) c.find.ensures in
    none_found (waits_for a.ticket a.node) hs c.find.result _ c.is_none.ensures place
