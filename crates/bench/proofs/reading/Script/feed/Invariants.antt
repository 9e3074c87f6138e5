-- `bench::reading::Script::feed` ends: each line's end leaves less of the chunk.
use Rattle.std.proofs.Common.{length}
use Rattle.bench.proofs.reading.Script.feed.Given as goal

abbrev pub decreases-loop-behind : goal.decreases-loop-behind
decreases-loop-behind l = length l.rest
