-- `state::list_back` meets its contract: the invariant `filled`: the entries so far, each as it comes back, and zeros behind them.
use mathlib.Core.List.{map-map, map}
use mathlib.Core.Path.{◌≡◌, sym, ap, ◌∙◌}
use native.Mathlib.Omega.{arith}
use lib.ListN.{get_or, take}
use Rattle.std.proofs.lemmas.List.{take_all}
use Rattle.walk.specs.Walk.{no_entry}
use Rattle.state.specs.Lists.{filled, no_listed, listed_of, comes_back}
use Rattle.state.proofs.Loops.{list_first}
use Rattle.state.proofs.Reopening.{back_listed}
use Rattle.state.proofs.list_back.Goals as goal

pub loop-i-preserved : goal.loop-i-preserved
loop-i-preserved c = let es = c.args.entries.now in
    let l = c.loop-i in
    let w = sym (back_listed (get_or es l.i no_entry)) in
    (c.move_of-phase.ensures, rw (l.invariant.1, c.move_of-phase.ensures, w) (list_first 254 no_listed (λ e. listed_of (comes_back e)) no_entry es l.i c.loop-i-test.true (omega arith)))

pub returns : goal.returns
returns c = let es = c.args.entries.now in
    let l = c.loop-i in
    let e : take l.i es ≡ es = take_all l.i es (omega arith) in
    l.invariant.1 ∙ ap (λ xs. filled 254 no_listed (map (λ x. listed_of (comes_back x)) xs)) e ∙ ap (filled 254 no_listed) (sym (map-map listed_of comes_back es))
