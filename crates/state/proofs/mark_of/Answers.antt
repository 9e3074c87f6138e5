-- `state::mark_of` meets its contract: of rising numbers the first in reach is the lowest (`value_found`).
use mathlib.Core.Path.{sym, ◌∙◌}
use Rattle.state.specs.Pins.{waits_in, number_of_held, mark_of}
use Rattle.state.proofs.Finding.{rising_each, seek_waiting, value_found, value_none}
use Rattle.state.proofs.mark_of.Goals as goal

pub returns-in-Some : goal.returns-in-Some
unfolding mark_of
returns-in-Some c = let a = c.args in
    let hs = a.held.now in
    let o = c.requires in
    let e = c.in-Some.ensures in
    value_found (waits_in a.node) number_of_held a.own a.own hs o.0 _ (e.0 ∙ seek_waiting a.node a.own hs (rising_each a.own 0 hs o.0) o.1) e.1

pub returns-in-None : goal.returns-in-None
unfolding mark_of
returns-in-None c = let a = c.args in
    let hs = a.held.now in
    let o = c.requires in
    value_none (waits_in a.node) number_of_held a.own a.own hs (sym (seek_waiting a.node a.own hs (rising_each a.own 0 hs o.0) o.1) ∙ c.in-None.ensures)
