-- `judge::pins_fit` meets its contract: one pin that doesn't fit, unfits them all.
use mathlib.Core.Path.{refl, sym, ◌∙◌}
use native.Mathlib.Omega.{arith}
use Rattle.layout.specs.Bytes.{both}
use Rattle.judge.specs.Fits.{pins_fit}
use Rattle.judge.proofs.Fitting.{pins_more, pins_stop}
use Rattle.judge.proofs.pins_fit.Goals as goal

pub loop-i-init : goal.loop-i-init
unfolding pins_fit both
loop-i-init c = refl

pub returns-then-not-pin_fits : goal.returns-then-not-pin_fits
returns-then-not-pin_fits c = pins_stop _ _ _ (omega arith) (sym c.pin_fits.ensures ∙ c.if-not-pin_fits.true)

pub loop-i-preserved : goal.loop-i-preserved
loop-i-preserved c = pins_more _ _ _ (omega arith) c.loop-i.invariant (sym c.pin_fits.ensures ∙ c.if-not-pin_fits.false)
