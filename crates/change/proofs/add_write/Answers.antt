-- `change::add_write` meets its contract: the new write stands behind the held ones.
use Rattle.change.proofs.add_write.Goals as goal

pub returns : goal.returns
returns c = rw (c.relist.ensures, c.as_slice.ensures.value, c.push.ensures.items)
