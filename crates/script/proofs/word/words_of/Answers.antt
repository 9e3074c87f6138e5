-- `script::word::words_of` keeps its invariant, and gives nothing only for an empty word or one too many: how a line is split at its next space (Words).
use Rattle.std.proofs.Common.{◌-◌, ◌<◌, ◌≡◌, ◌∙◌, inl, inr, length, slice_index, refl, arith}
use Rattle.std.proofs.lemmas.List.{length-map}
use Rattle.script.proofs.Words.{each_some, one_more, the_last, went_well, went_ill, an_empty, too_many}
use Rattle.script.proofs.word.words_of.Goals as goal

pub loop-from-preserved : goal.loop-from-preserved
loop-from-preserved o c =
    let before = c.loop-from.invariant in
    let from = c.loop-from.from in
    let to = c.end_of-to.result in
    let ended = c.end_of-to.ensures in
    let pushed = went_well _ _ c.in_ok-ok.ensures.value c.try_push.ensures.ok in
    record {
      within = omega arith;
      behind = λ small. one_more c.args.line.now from (to - from) to (omega arith) (omega arith) ended.first _ _ _ pushed refl
          (before.behind (omega arith)) (omega arith) (ended.at_space (omega arith));
      ended = λ large. the_last c.args.line.now from (to - from) to (omega arith) (omega arith) ended.first _ _ _ pushed refl
          (before.behind (omega arith)) (omega arith);
      not_empty = each_some c.args.line.now from (to - from) to (omega arith) (omega arith) ended.first _ _ _ pushed refl
          (before.behind (omega arith)) (omega arith) before.not_empty;
    }

pub returns-then-to-from-clause-none : goal.returns-then-to-from-clause-none
returns-then-to-from-clause-none o c =
    let line = c.args.line.now in
    let l = c.loop-from in
    let ended = c.end_of-to.ensures in
    let at_space : l.from < length line → slice_index line l.from ≡ 32 = rw c.if-to-from.true at ended.at_space in
    inl (an_empty line _ l.from (l.invariant.behind (omega arith)) (omega arith) at_space)

pub returns-in_err-ok-clause-none : goal.returns-in_err-ok-clause-none
returns-in_err-ok-clause-none o c =
    let l = c.loop-from in
    let full = went_ill _ c.in_err-ok.ensures.value c.try_push.ensures.full in
    rw c.from_residual.ensures (inr (too_many c.args.line.now _ l.from (l.invariant.behind (omega arith)) _ (length-map l.words.items _ ∙ full)))
