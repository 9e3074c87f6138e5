-- `change::write_known` meets its contract: the laws of `Changing`.
-- Named on the function they close no goal: a tactic takes the fact `Known` apart, and doesn't see that a law wants it whole.
use Prim.Native.Nat.{◌<◌, ◌+◌, ◌%◌}
use mathlib.Core.Path.{refl}
use native.Mathlib.Nat.{mod-lt}
use native.Mathlib.Omega.{arith}
use lib.ListN.{length}
use Rattle.std.proofs.lemmas.Result.{err_from_is_err_and}
use Rattle.layout.proofs.Sizes.{slots_some}
use Rattle.rules.proofs.Owning.{sure}
use Rattle.change.proofs.Changing.{write_refused, writable, write_done_law}
use Rattle.change.proofs.write_known.Goals as goal

pub may_write-requires : goal.may_write-requires
may_write-requires c = (sure c.args.bytes.now c.args.s.now _ c.requires).free

pub returns-in_err-may_write : goal.returns-in_err-may_write
returns-in_err-may_write c = let a = c.args in
    let p = err_from_is_err_and c.from_residual.result c.from_residual.ensures.1 in
    rw (p.1, p.2) (write_refused a.bytes.now a.s.now _ c.requires a.node a.handle a.offset a.src.now _ c.in_err-may_write.ensures)

pub overflow_cast-entry : goal.overflow_cast-entry
overflow_cast-entry c = let a = c.args in
    let w = writable a.bytes.now a.s.now _ c.requires a.node a.handle a.offset a.src.now _ c.in_ok-may_write.ensures in
    let m = w.most in
    omega arith

pub overflow_add-entry : goal.overflow_add-entry
overflow_add-entry c = let a = c.args in
    let k = sure a.bytes.now a.s.now _ c.requires in
    let h = k.head in
    let f = k.free in
    let z = k.sized.high in
    omega arith

pub nonzero_rem-entry : goal.nonzero_rem-entry
nonzero_rem-entry c = let a = c.args in
    let k = sure a.bytes.now a.s.now _ c.requires in
    let h = k.head in
    omega arith

pub overflow_cast-entry-2 : goal.overflow_cast-entry-2
overflow_cast-entry-2 c = let a = c.args in
    let g = a.judged.ring in
    let k = sure a.bytes.now a.s.now _ c.requires in
    let h = k.head in
    let z = k.sized.high in
    let m : (g.head + g.used) % g.n < g.n = mod-lt (g.head + g.used) (omega arith) in
    omega arith

pub store-requires : goal.store-requires
store-requires c = let a = c.args in
    let g = a.judged.ring in
    let k = sure a.bytes.now a.s.now _ c.requires in
    let w = writable a.bytes.now a.s.now _ c.requires a.node a.handle a.offset a.src.now _ c.in_ok-may_write.ensures in
    let h = k.head in
    let m : (g.head + g.used) % g.n < g.n = mod-lt (g.head + g.used) (omega arith) in
    record { sized = k.sized; slot_lt_n = (m, refl, w.most) }

pub add_write-requires : goal.add_write-requires
add_write-requires c = let a = c.args in
    let k = sure a.bytes.now a.s.now _ c.requires in
    let w = writable a.bytes.now a.s.now _ c.requires a.node a.handle a.offset a.src.now _ c.in_ok-may_write.ensures in
    let m = k.most in
    let z = k.sized.high in
    let n = k.next in
    let o = w.room in
    let p = w.next in
    let q = slots_some (length a.src.now) in
    (omega arith, omega (arith, p))

pub returns : goal.returns
returns c = let a = c.args in
    write_done_law a.bytes.now a.s.now _ c.requires a.node a.handle a.offset a.src.now _ c.in_ok-may_write.ensures _ _ _ refl c.add_write.ensures c.store.ensures
