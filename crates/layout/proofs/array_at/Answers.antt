-- `layout::array_at` meets its contract. A part of the buffer's list is its bytes (Views, `flat_bytes`).
use mathlib.Core.Path.{sym, ap, ◌∙◌}
use Prim.Native.Nat.{◌+◌, ◌-◌}
use mathlib.Core.Path.{◌≡◌}
use lib.ListN.{take, drop}
use native.Mathlib.Omega.{arith}
use Rattle.layout.proofs.Views.{flat_bytes}
use Rattle.layout.proofs.array_at.Goals as goal

pub returns : goal.returns
returns g c =
    let a = c.args in
    let n = g.row.N in
    let e : a.p + n - a.p ≡ n = omega arith in
    c.copy_from_slice.ensures.after ∙ ap (λ k. take k (drop a.p a.bytes.now)) e ∙ sym (flat_bytes n a.p a.bytes.now c.requires)
