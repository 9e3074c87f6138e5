-- `judge::pin_fits` meets its contract: no earlier record has the number exactly if none is found.
use Rattle.std.specs.Prelude.{is_none}
use native.Mathlib.Omega.{arith}
use mathlib.Core.Path.{◌≡◌, ◌∙◌}
use Rattle.judge.proofs.Fitting.{pin_high, pin_free, pin_live}
use Rattle.judge.proofs.pin_fits.Goals as goal

pub returns-then-next-pin : goal.returns-then-next-pin
returns-then-next-pin c = pin_high _ _ _ c.if-next-pin.true

pub returns-then-pin-eq0 : goal.returns-then-pin-eq0
returns-then-pin-eq0 c = pin_free _ _ _ c.if-next-pin.false c.if-pin-eq0.true

pub returns : goal.returns
returns c = let o : c.is_none.result ≡ is_none c.find_pin.result = grind arith in o ∙ pin_live _ _ _ c.if-next-pin.false c.if-pin-eq0.false _ c.find_pin.ensures
