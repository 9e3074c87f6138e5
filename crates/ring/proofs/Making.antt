-- A ring just made has a good header and no entry.
use Prim.Native.Nat.{ℕ}
use mathlib.Core.Path.{◌≡◌, refl, ◌∙◌}
use mathlib.Core.List.{List, [], ◌++◌}
use native.Mathlib.Omega.{arith}
use native.Mathlib.Nat.{add-zero, sub-zero, mod_self}
use lib.ListN.{length, drop, length-append, length-drop}
use Rattle.layout.specs.Sizes.{header_size}
use Rattle.layout.specs.Bytes.{both, zeros_at, Sized}
use Rattle.walk.specs.Header.{used_of}
use Rattle.walk.proofs.Rules.{IsHeader, Headed, header_headed}
use Rattle.walk.proofs.Chain.{done}
use Rattle.walk.proofs.Readings.{Readable}
use Rattle.store.specs.Store.{slots_for, empty_header, made}
use Rattle.store.proofs.Fronts.{made_yes}
use Rattle.ring.specs.Ring.{empty_ring}

module _ (r : List ℕ) (z : Sized r (slots_for (length r))) where
  abbrev fresh : List ℕ
  fresh = empty_header (slots_for (length r)) ++ drop header_size r

  fresh_header : IsHeader fresh
  unfolding zeros_at both
  fresh_header =
      let l : length fresh ≡ length r = omega (arith, length-append (empty_header (slots_for (length r))) (drop header_size r), length-drop header_size r, z.len, z.low) in
      record {
        sized = record { low = z.low; high = z.high; len = l ∙ z.len };
        edition = refl;
        head = omega (arith, z.low);
        tail = omega (arith, z.low);
        zeros = refl;
      }

  none_used : (n : ℕ) → used_of n 0 0 ≡ 0
  none_used n = rw (sub-zero, add-zero) (mod_self n)

  fresh_readable : Readable fresh (empty_ring (slots_for (length r))) []
  fresh_readable =
      let n = slots_for (length r) in
      let h : Headed fresh (record { n = n; head = 0; used = used_of n 0 0 }) = header_headed fresh fresh_header in
      record { headed = rw (none_used n) at h; chain = done }

  pub made_readable : Readable (made r) (empty_ring (slots_for (length r))) []
  made_readable = rw (← (made_yes r z).1) fresh_readable
