-- `state::turn_of` meets its contract: of rising numbers the first Unflushed is the lowest (`value_found`).
use mathlib.Core.Path.{sym, ◌∙◌}
use Rattle.layout.specs.Sizes.{number_limit}
use Rattle.state.specs.Lists.{unflushed}
use Rattle.state.specs.Asks.{is_unflushed, turn_of}
use Rattle.state.proofs.Finding.{rising_each, seek_phase, value_found, value_none}
use Rattle.state.proofs.turn_of.Goals as goal

pub returns-in-Some : goal.returns-in-Some
unfolding turn_of
returns-in-Some c = let hs = c.args.held.now in
    let o = c.requires in
    let e = c.in-Some.ensures in
    value_found is_unflushed (λ h. h.entry.node) 0 number_limit hs o _ (e.0 ∙ seek_phase unflushed hs (rising_each number_limit 0 hs o)) e.1

pub returns-in-None : goal.returns-in-None
unfolding turn_of
returns-in-None c = let hs = c.args.held.now in
    let o = c.requires in
    value_none is_unflushed (λ h. h.entry.node) 0 number_limit hs (sym (seek_phase unflushed hs (rising_each number_limit 0 hs o)) ∙ c.in-None.ensures)
