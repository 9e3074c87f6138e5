-- `change::let_go` meets its contract: those that leave, then those that stay (`leave_drop`). Named on the function, the laws leave five goals open.
use Prim.Native.Nat.{◌<◌, ◌+◌, ◌-◌, ◌%◌}
use mathlib.Core.Path.{◌≡◌, ◌∙◌, ap}
use native.Mathlib.Nat.{mod-lt}
use native.Mathlib.Omega.{arith}
use borrow.Author.Rules.{rules}
use Rattle.std.proofs.lemmas.Grind.{common_steps}
use lib.ListN.{length, take, drop}
use Rattle.state.specs.Lists.{with_held}
use Rattle.store.specs.Store.{head_moved}
use Rattle.ring.specs.Ring.{slot_after}
use Rattle.state.proofs.LettingGo.{leave_drop, leave_few, leave_slots}
use Rattle.change.proofs.let_go.Goals as goal

pub overflow_add-ring : goal.overflow_add-ring
overflow_add-ring c = let a = c.args in
    let z = c.requires.sized.high in
    let s = leave_slots a.s.now.pins a.held.now in
    let e = c.leave-leaving.ensures.1 in
    let b = c.requires.held_bound in
    omega arith

pub move_head-requires : goal.move_head-requires
move_head-requires c = let a = c.args in
    let z = c.requires.sized in
    let l = z.len in
    let h = z.high in
    let m : (a.ring.head + c.leave-leaving.result.slots) % a.ring.n < a.ring.n = mod-lt (a.ring.head + c.leave-leaving.result.slots) (omega arith) in
    (omega arith, omega arith)

pub offset_bounds-held-leaving : goal.offset_bounds-held-leaving
offset_bounds-held-leaving c =
    let e = c.leave-leaving.ensures.0 in
    let f = leave_few c.args.s.now.pins c.args.held.now in
    let m = c.requires.head_lt_n in
    omega arith

pub slice_bounds-relist-count : goal.slice_bounds-relist-count
slice_bounds-relist-count c =
    let e = c.leave-leaving.ensures.0 in
    let f = leave_few c.args.s.now.pins c.args.held.now in
    omega arith

pub slice_bounds-relist-start : goal.slice_bounds-relist-start
slice_bounds-relist-start c =
    let e = c.leave-leaving.ensures.0 in
    let f = leave_few c.args.s.now.pins c.args.held.now in
    search (rules, common_steps)

pub returns : goal.returns
returns c = let a = c.args in
    let hs = a.held.now in
    let left : take (length hs - c.leave-leaving.result.count) (drop c.leave-leaving.result.count hs) ≡ drop c.leave-leaving.result.count hs = search (rules, common_steps) in
    record {
      state = c.relist.ensures ∙ ap (with_held a.s.now) (left ∙ ap (λ k. drop k hs) c.leave-leaving.ensures.0 ∙ leave_drop a.s.now.pins hs);
      bytes = c.move_head.ensures ∙ ap (λ u. head_moved a.bytes.now (slot_after a.ring u)) c.leave-leaving.ensures.1;
    }
