-- `fill::Layer::overlay` meets its contract: `Laying`: the front of the part is laid over, each byte with that of the newest write over its place.
use Prim.Native.Nat.{◌+◌}
use mathlib.Core.Path.{◌∙◌, ap}
use native.Mathlib.Omega.{arith}
use lib.ListN.{get_or}
use Rattle.shore.specs.Cover.{byte_over}
use Rattle.fill.proofs.Seeking.{newest_inside, byte_none, byte_some}
use Rattle.fill.proofs.Overlaying.{lay_next}
use Rattle.fill.proofs.Layer.overlay.Goals as goal
use Rattle.fill.proofs.Layer.overlay.Goals.{in-Some, in_default}

pub overflow_sub-p : goal.overflow_sub-p
overflow_sub-p c = let s = c.self.inside in
    let b = newest_inside s.node _ s.held.now _ c.in-Some.ensures in
    b.0

pub loop-k-preserved : goal.loop-k-preserved
loop-k-preserved c = let a = c.args in
    let l = c.loop-k in
    let s = c.self.inside in
    let old = get_or l.out l.k 0 in
    let seen = ap (byte_over (a.from + l.k) old) c.self.view_is in
    elim c.match-newest_over.branch [
      | in-Some w ↦
          rw w.out-is (lay_next _ _ _ _ _ l.invariant _ (omega arith) (w.entry_byte.ensures ∙ byte_some s.node _ _ _ s.held.now _ w.in-Some.ensures ∙ seen))
      | in_default w ↦
          rw w.out-is (lay_next _ _ _ _ _ l.invariant old (omega arith) (byte_none s.node _ _ _ s.held.now w.in_default.ensures ∙ seen))
    ]
