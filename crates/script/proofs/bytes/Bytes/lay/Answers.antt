-- `script::bytes::Bytes::lay` keeps its invariant: the pair at this place lays its byte, and one place more is stored (Laying).
use Rattle.std.proofs.Common.{◌+◌, ◌*◌, ◌-◌, arith}
use Rattle.script.specs.Digits.{pair_at}
use Rattle.script.specs.Laid.{LaysPair}
use Rattle.script.proofs.Laying.{lays_at, stored}
use Rattle.script.proofs.bytes.Bytes.lay.Goals as goal

pub loop-place-preserved : goal.loop-place-preserved
loop-place-preserved c =
    let digits = c.in-Digits.digits.now in
    let place = c.loop-place.place in
    let fact = lays_at digits place (place * 2 + 2 - place * 2) c.unwrap_or.result _ (omega arith) c.one.ensures c.unwrap_or.ensures in
    stored (λ k. LaysPair (pair_at digits k)) _ _ place _ (omega arith) fact c.loop-place.invariant
