-- The bytes of an entry, and the run of stores that lays them down.
use Prim.Native.Nat.{ℕ, ◌+◌, ◌-◌, ◌*◌, ◌%◌}
use mathlib.Core.Path.{◌≡◌, sym}
use mathlib.Core.List.{List}
use native.Mathlib.Omega.{arith}
use lib.ListN.{length, set, replicate}
use Rattle.layout.specs.Sizes.{slot_size, head_size, slots_of}
use Rattle.layout.specs.Bytes.{put}
use Rattle.layout.proofs.Puts.{put_append}
use Rattle.walk.specs.declared.Entry.{Entry}
use Rattle.image.specs.Image.{head_bytes, entry_bytes}
use Rattle.store.specs.Store.{stored}
pub use Rattle.image.proofs.Stored.{head_length, entry_length}

-- head, bytes and filler stored one after the other, and then the tail byte
pub stored_by : (r : List ℕ) (n : ℕ) (e : Entry) (bs r₁ r₂ r₃ : List ℕ) (k : ℕ)
    → k ≡ slots_of e.length → e.length ≡ length bs
    → r₁ ≡ put r n (e.slot * slot_size) (head_bytes e)
    → r₂ ≡ put r₁ n (e.slot * slot_size + head_size) bs
    → r₃ ≡ put r₂ n (e.slot * slot_size + (head_size + length bs)) (replicate (k * slot_size - (head_size + length bs)) 0)
    → set r₃ 3 ((e.slot + k) % n) ≡ stored r n e bs
unfolding stored entry_bytes
stored_by r n e bs r₁ r₂ r₃ k ek l e₁ e₂ e₃ =
    let p = e.slot * slot_size in
    let x : p + head_size + length bs ≡ p + (head_size + length bs) = omega arith in
    rw (e₃, e₂, e₁, ek, ← l)
    (sym (rw (put_append (head_bytes e) _ r n p, head_length e, put_append bs _ (put r n p (head_bytes e)) n (p + head_size), x, ← l)))
