-- With our own box in its place, a history is that of crate `history`: the world and the tale are the same.
use mathlib.Core.Path.{◌≡◌, refl, ap}
use mathlib.Core.List.{List, [], ◌∷◌}
use Rattle.rules.specs.Outcome.{outcome}
use Rattle.history.specs.World.{World, Move, call, land, after, world}
use Rattle.history.specs.Tale.{tale}
use Rattle.impostors.specs.Boxes.{world_by, tale_by}

pub our_world : (W : World) (ms : List Move) → world_by outcome W ms ≡ world W ms
our_world W [] = refl
our_world W (call c ∷ ms) = ap (λ X. after X (call c)) (our_world W ms)
our_world W (land k ∷ ms) = ap (λ X. after X (land k)) (our_world W ms)

pub our_tale : (W : World) (ms : List Move) → tale_by outcome W ms ≡ tale W ms
our_tale W [] = refl
our_tale W (call c ∷ ms) = rw (our_world W ms, our_tale W ms) refl
our_tale W (land k ∷ ms) = rw (our_tale W ms) refl
