-- `fill::Layer::overlay_near` meets its contract: `Choosing`: the near writes so far are chosen. They show what all do (`near_same`).
use borrow.Author.Rules.{rules}
use Rattle.std.proofs.lemmas.Grind.{common_steps}
use Prim.Native.Nat.{◌+◌}
use mathlib.Core.Path.{◌≡◌, sym, ap, ◌∙◌}
use native.Mathlib.Omega.{arith}
use lib.ListN.{length}
use Rattle.layout.specs.Bytes.{round}
use Rattle.fill.specs.Overlay.{overlaid}
use Rattle.fill.proofs.Overlaying.{over_none}
use Rattle.fill.proofs.Nearing.{choose_start, choose_yes, choose_no, choose_end, no_length, near_same}
use Rattle.fill.proofs.Layer.overlay_near.Goals as goal
use Rattle.fill.proofs.Layer.overlay_near.Goals.{then-is_near, else-is_near}

pub loop-one-init : goal.loop-one-init
loop-one-init c = choose_start _ _ _ c.clear.ensures

pub push-requires : goal.push-requires
push-requires c = let few = c.loop-one.invariant.few in
    let room = c.self.invariant in
    (omega arith, omega arith)

pub loop-one-preserved : goal.loop-one-preserved
loop-one-preserved c = let k = c.loop-one.invariant in
    let h = c.loop-one-test.true in
    let j = sym c.is_near.ensures in
    elim c.if-is_near.branch [
      | then-is_near w ↦ choose_yes _ _ _ _ k h _ (j ∙ w.if-is_near.true) (ap (λ v. v.items) w.near-is ∙ w.push.ensures.items)
      | else-is_near w ↦ choose_no _ _ _ _ k h _ (j ∙ w.if-is_near.false) (ap (λ v. v.items) w.near-is)
    ]

pub returns-then-not-is_empty : goal.returns-then-not-is_empty
returns-then-not-is_empty c = let a = c.args in
    let m = c.loop-one in
    let f = c.self.inside in
    let bs = a.part.now in
    let near = c.as_slice.ensures.value ∙ choose_end _ _ _ _ m.invariant c.loop-one-test.false in
    c.overlay.ensures ∙ near_same f.node a.from (a.from + length bs) f.held.now _ near (round f.slots.bytes.now f.slots.n) bs (omega arith) ∙ ap (λ ws. overlaid ws a.from bs) c.self.view_is

pub returns-else-not-is_empty : goal.returns-else-not-is_empty
returns-else-not-is_empty c = let a = c.args in
    let m = c.loop-one in
    let f = c.self.inside in
    let bs = a.part.now in
    let none : length m.near.items ≡ 0 = search (rules, common_steps) in
    let near = sym (no_length _ none) ∙ choose_end _ _ _ _ m.invariant c.loop-one-test.false in
    sym (over_none a.from bs) ∙ near_same f.node a.from (a.from + length bs) f.held.now _ near (round f.slots.bytes.now f.slots.n) bs (omega arith) ∙ ap (λ ws. overlaid ws a.from bs) c.self.view_is
