-- `walk::head_at` meets its contract. Each field is what the library reads from its bytes (Numbers, `le2`, `le4` and `le8`).
use mathlib.Core.Path.{◌∙◌}
use Prim.Native.Nat.{◌+◌}
use Rattle.layout.specs.Bytes.{flat}
use Rattle.layout.proofs.Numbers.{le2, le4, le8}
use Rattle.walk.proofs.head_at.Goals as goal

pub returns-clause-value : goal.returns-clause-value
returns-clause-value c =
    let f = flat c.args.bytes.now in
    let p = c.args.p in
    let number = le8 f p _ _ c.from_le_bytes.ensures c.array_at.ensures in
    let node = le4 f (p + 8) _ _ c.from_le_bytes-2.ensures c.array_at-2.ensures in
    let handle = le4 f (p + 12) _ _ c.from_le_bytes-3.ensures c.array_at-3.ensures in
    let offset = le4 f (p + 16) _ _ c.from_le_bytes-4.ensures c.array_at-4.ensures in
    let length = c.from.ensures ∙ le2 f (p + 20) _ _ c.from_le_bytes-5.ensures c.array_at-5.ensures in
    let zero = c.from-2.ensures ∙ le2 f (p + 22) _ _ c.from_le_bytes-6.ensures c.array_at-6.ensures in
    (cc)
