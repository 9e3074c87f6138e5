-- `judge::held_fits` meets its contract: its three clauses in a row.
use mathlib.Core.Path.{sym, ◌∙◌}
use Rattle.state.proofs.Library.{any_list}
use Rattle.judge.specs.Fits.{is_in_flight}
use Rattle.judge.proofs.Fitting.{flight_by}
use Rattle.layout.specs.Bytes.{both}
use Rattle.judge.proofs.held_fits.Goals as goal

pub returns-then-not-order_fits : goal.returns-then-not-order_fits
unfolding both
returns-then-not-order_fits c = rw (sym c.order_fits.ensures ∙ c.if-not-order_fits.true)

pub returns-then-not-flight_fits : goal.returns-then-not-flight_fits
unfolding both
returns-then-not-flight_fits c =
    let f = flight_by c.args.s.now.flush c.args.held.now _ _ (c.is_any_in_flight.ensures ∙ any_list is_in_flight c.args.held.now) c.flight_fits.ensures in
    rw (sym c.order_fits.ensures ∙ c.if-not-order_fits.false, sym f ∙ c.if-not-flight_fits.true)

pub returns : goal.returns
unfolding both
returns c =
    let f = flight_by c.args.s.now.flush c.args.held.now _ _ (c.is_any_in_flight.ensures ∙ any_list is_in_flight c.args.held.now) c.flight_fits.ensures in
    rw (sym c.order_fits.ensures ∙ c.if-not-order_fits.false, sym f ∙ c.if-not-flight_fits.false) c.head_stays.ensures
