-- The line that an answer is.
use Rattle.std.specs.Prelude.{ℕ, List, ◌++◌, codes, decimal}
use Rattle.looks.specs.declared.answer.Answer.{Answer}
use Rattle.looks.specs.declared.answer.Answer.TheVariants.{Done, Number, Pair, Nothing}

abbrev pub said : Answer → List ℕ
said Done = codes "ok"
said (Number x) = codes "ok " ++ decimal x
said (Pair x y) = codes "ok " ++ decimal x ++ codes " " ++ decimal y
said Nothing = codes "nothing"
