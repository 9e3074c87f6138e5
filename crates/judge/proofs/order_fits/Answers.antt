-- `judge::order_fits` meets its contract: one write that may not follow those before it settles it.
use mathlib.Core.Path.{sym, ◌∙◌}
use native.Mathlib.Omega.{arith}
use Rattle.judge.proofs.Fitting.{order_more, order_stop}
use Rattle.judge.proofs.order_fits.Goals as goal

pub returns-then-not-follows : goal.returns-then-not-follows
returns-then-not-follows c = order_stop _ _ (omega arith) (sym c.follows.ensures ∙ c.if-not-follows.true)

pub loop-j-preserved : goal.loop-j-preserved
loop-j-preserved c = order_more _ _ (omega arith) c.loop-j.invariant (sym c.follows.ensures ∙ c.if-not-follows.false)
