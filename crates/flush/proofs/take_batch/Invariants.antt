-- `flush::take_batch` meets its contract: `Taking`: what is taken so far, and what the rest would still give.
use Rattle.flush.proofs.Batching.{Taking}
use Rattle.flush.proofs.take_batch.Given as goal

abbrev pub invariant-loop-one : goal.invariant-loop-one
invariant-loop-one l = Taking l.node l.initial.held l.held l.entries.items l.one-index
