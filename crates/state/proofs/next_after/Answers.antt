-- `state::next_after` meets its contract: the last of the entries is the last that they have (`last_is`).
use mathlib.Core.Path.{sym, ap, ◌∙◌}
use Prim.Native.Nat.{◌+◌}
use native.Mathlib.Omega.{arith}
use Rattle.walk.specs.Walk.{no_entry}
use Rattle.walk.specs.declared.Entry.{Entry}
use Rattle.state.proofs.Reopening.{last_is, last_below}
use Rattle.state.proofs.next_after.Goals as goal

pub overflow_add-result : goal.overflow_add-result
overflow_add-result c = let es = c.args.entries.now in
    let e = c.in-Some.ensures.item.3 in
    let n = ap (λ (x : Entry). x.number) (e.1 no_entry) in
    let w = last_below es e.0 c.requires in
    omega arith

pub returns-in-Some : goal.returns-in-Some
returns-in-Some c = let es = c.args.entries.now in
    let e = c.in-Some.ensures.item.3 in
    ap (λ (x : Entry). x.number + 1) (e.1 no_entry) ∙ ap (λ n. n + 1) (sym (last_is es e.0))
