-- `script::bytes::Bytes::lay` meets its contract: each place so far has what its pair lays, and the places behind stay.
use Rattle.std.proofs.Common.{◌≡◌, ◌<◌, ◌≤◌, slice_index, EachIndex}
use Rattle.script.specs.Digits.{pair_at}
use Rattle.script.specs.Laid.{LaysPair}
use Rattle.script.proofs.bytes.Bytes.lay.Given as goal

abbrev pub invariant-loop-place : goal.invariant-loop-place
invariant-loop-place l = EachIndex l.out (λ k.
    (k < l.place → LaysPair (pair_at l.digits.now k) (slice_index l.out k)) × (l.place ≤ k → slice_index l.out k ≡ slice_index l.initial.out k))
