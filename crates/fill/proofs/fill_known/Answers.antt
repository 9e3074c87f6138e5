-- `fill::fill_known` meets its contract: the laws of `Filling`.
-- Named on the function they close no goal: a tactic takes the fact `Known` apart, and doesn't see that a law wants it whole.
use Rattle.std.proofs.lemmas.Result.{err_from_is_err_and}
use mathlib.Core.Path.{◌∙◌, ap}
use native.Mathlib.Omega.{arith}
use lib.ListN.{length}
use Rattle.state.specs.Asks.{cached_end}
use Rattle.rules.specs.Fill.{writes_for, filled}
use Rattle.rules.proofs.Owning.{sure}
use Rattle.fill.proofs.Filling.{fill_refused, fits, fill_done_law}
use Rattle.fill.proofs.fill_known.Goals as goal

pub returns-in_err-may_fill : goal.returns-in_err-may_fill
returns-in_err-may_fill c = let a = c.args in
    let p = err_from_is_err_and c.from_residual.result c.from_residual.ensures.1 in
    rw (p.1, p.2) (fill_refused a.bytes.now a.s.now a.judged.now c.requires a.pin a.node a.offset a.fetched a.buffer.now _ c.in_err-may_fill.ensures)

pub count_of-r-requires : goal.count_of-r-requires
count_of-r-requires c = let a = c.args in
    (fits a.bytes.now a.s.now _ c.requires a.pin a.node a.offset a.fetched a.buffer.now _ c.in_ok-may_fill.ensures).1

pub invariant_of-slots : goal.invariant_of-slots
invariant_of-slots c = record { sized = (sure c.args.bytes.now c.args.s.now _ c.requires).sized }

pub invariant_of-layer : goal.invariant_of-layer
invariant_of-layer c = let k = sure c.args.bytes.now c.args.s.now _ c.requires in
    let n = ap length c.as_slice-held.ensures.value in
    omega (arith, n, k.long, k.few)

pub fill_bytes-requires : goal.fill_bytes-requires
fill_bytes-requires c = let a = c.args in
    let f = fits a.bytes.now a.s.now _ c.requires a.pin a.node a.offset a.fetched a.buffer.now _ c.in_ok-may_fill.ensures in
    let u = f.1 in
    let k = c.count_of-r.ensures in
    (omega (arith, u, k.1, k.2), omega (arith, u, k.1, k.2), f.0)

pub returns : goal.returns
returns c = let a = c.args in
    fill_done_law a.bytes.now a.s.now _ c.requires a.pin a.node a.offset a.fetched a.buffer.now _ c.in_ok-may_fill.ensures _ _ _ (c.end_of-end.ensures ∙ ap (cached_end a.node) c.as_slice-held.ensures.value) c.count_of-r.ensures.0
    (c.fill_bytes.ensures ∙ ap (λ hs. filled (writes_for a.node a.bytes.now a.judged.now.ring hs) a.offset a.fetched c.count_of-r.result a.buffer.now) c.as_slice-held.ensures.value)
