-- `judge::hold` meets its contract: each entry is held beside its state.
use borrow.Author.Rules.{rules}
use mathlib.Core.Logic.{inl, inr}
use native.Mathlib.Omega.{arith}
use Rattle.std.proofs.lemmas.Grind.{common_steps}
use Rattle.judge.proofs.Fitting.{hold_start, hold_room, hold_on, hold_end}
use Rattle.judge.proofs.hold.Goals as goal

pub loop-entry-init : goal.loop-entry-init
loop-entry-init c = (hold_start _ _ _ _ _ c.requires.0 c.new-held.ensures.items (search (rules, common_steps)) (search (rules, common_steps)), c.new-held.ensures.tidy)

pub push-requires : goal.push-requires
push-requires c =
    let r = hold_room _ _ _ _ _ c.loop-entry.invariant.0 _ _ c.in-Some.ensures.steps.0 in
    let f = c.requires.1 in
    (omega arith, omega arith)

pub loop-entry-preserved : goal.loop-entry-preserved
loop-entry-preserved c =
    (hold_on _ _ _ _ _ c.loop-entry.invariant.0 _ _ _ _ _ c.in-Some.ensures.steps.0 c.in-Some.ensures.steps.1 c.push.ensures.items, c.push.ensures.tidy c.loop-entry.invariant.1)

pub returns : goal.returns
returns c = let k = c.loop-entry.invariant.0 in
    let same = k.same in
    record {
      items = elim c.in-None.ensures.steps [ inl w ↦ hold_end _ _ _ _ _ k w.1.0 | inr w ↦ let z = w.1.0 in hold_end _ _ _ _ _ k (omega arith) ];
      tidy = c.loop-entry.invariant.1;
    }
