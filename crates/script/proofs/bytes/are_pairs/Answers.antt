-- `script::bytes::are_pairs` meets its contract: what the test of each digit tells (Pairs, `pairs_told`).
use Rattle.std.proofs.Common.{◌<◌, ◌≤◌, rules, tests}
use Rattle.std.specs.Char.{digit_value}
use Rattle.std.proofs.lemmas.Iterator.{cases_from_all, YieldsList-from_slice}
use Rattle.script.proofs.Pairs.{pairs_told}
use Rattle.script.proofs.bytes.are_pairs.Goals as goal

pub returns-then-word-eq0 : goal.returns-then-word-eq0
returns-then-word-eq0 c =
    let word = c.args.word.now in
    let by_call = cases_from_all _ _ _ (λ x. digit_value x < 16) (λ x. 16 ≤ digit_value x) c.all.ensures.ran (YieldsList-from_slice word cc)
    (λ x q k. search (rules, tests)) (λ x q k. search (rules, tests)) in
    pairs_told word _ c.if-word-eq0.true by_call
