-- A ring whose head moved on past its first entries.
use Prim.Native.Nat.{ℕ, ◌+◌, ◌-◌, ◌*◌, ◌%◌, ◌≤◌, ◌<◌, zero-le}
use mathlib.Core.Path.{◌≡◌, refl, sym, ap, ◌∙◌}
use mathlib.Core.Logic.{◌≢◌}
use mathlib.Core.List.{List, ◌++◌, map}
use native.Mathlib.Omega.{arith}
use native.Mathlib.Nat.{mod-lt, mod-mod, mod-add-mod}
use lib.ListN.{length, length-set}
use lib.Seq.{get_or-set_same, get_or-set_other}
use Rattle.layout.specs.Sizes.{header_size, slot_size}
use Rattle.layout.specs.Bytes.{flat, round}
use Rattle.layout.specs.declared.Ring.{Ring}
use Rattle.layout.proofs.Views.{slot_round}
use Rattle.layout.proofs.Puts.{set_header}
use Rattle.walk.specs.declared.Entry.{Entry}
use Rattle.walk.specs.Walk.{slots_used, write_of}
use Rattle.walk.proofs.Rules.{Headed}
use Rattle.walk.proofs.Walks.{Slots, walk_same}
use Rattle.walk.proofs.Chain.{Chain, walk_of, chain_of, used_append, chain_cut, chain_from}
use Rattle.walk.proofs.Readings.{Readable, used_slots, headed_by, tail_at, writes_same}
use Rattle.store.specs.Store.{head_moved}
use Rattle.ring.specs.Ring.{shrunk}

module _ (r : List ℕ) (g : Ring) (xs ks : List Entry) (k : Readable r g (xs ++ ks)) where
  abbrev n : ℕ
  n = g.n

  -- the slots that leave
  abbrev u : ℕ
  u = slots_used xs

  abbrev next : List ℕ
  next = head_moved r ((g.head + u) % n)

  some_slots : 0 < n
  some_slots = omega (arith, k.headed.sized.low)

  fewer : u ≤ g.used
  fewer = omega (arith, used_slots k, used_append xs ks)

  next_length : length next ≡ length r
  unfolding head_moved
  next_length = length-set r 2 ((g.head + u) % n)

  next_header : (j : ℕ) → j < header_size → j ≢ 2 → flat next j ≡ flat r j
  unfolding head_moved
  next_header j l d = get_or-set_other r 2 j ((g.head + u) % n) 0 d

  next_head : flat next 2 ≡ (g.head + u) % n
  unfolding head_moved
  next_head = get_or-set_same r 2 ((g.head + u) % n) 0 (omega (arith, k.headed.sized.len))

  next_round : (q : ℕ) → round next n q ≡ round r n q
  unfolding head_moved
  next_round q = set_header r n 2 ((g.head + u) % n) q (omega arith)

  -- the tail, counted from the old head and from the new one
  next_tail : flat next 3 ≡ ((g.head + u) % n + (g.used - u)) % n
  next_tail =
      let x : g.head + u + (g.used - u) ≡ g.head + g.used = omega (arith, fewer) in
      next_header 3 (omega arith) (λ x. omega arith)
      ∙ sym (mod-add-mod (g.head + u) n (g.used - u) ∙ ap (λ (y : ℕ). y % n) x ∙ rw k.headed.same (tail_at (flat r 1) (flat r 2) (flat r 3) k.headed.header.head k.headed.header.tail))

  next_headed : Headed next (shrunk g u)
  next_headed =
      headed_by next ((g.head + u) % n) (g.used - u) k.headed next_length (λ j l d _. next_header j l d)
      next_head next_tail (mod-lt (g.head + u) some_slots) (omega (arith, k.headed.used))

  turned : Slots n (round r n) (g.head + u) (round next n) ((g.head + u) % n) (g.used - u)
  turned =
      let o = slot_round r n (g.head + u) ((g.used - u) * slot_size) some_slots in
      record {
        slot = sym (mod-mod (g.head + u) n);
        bytes = record { at = λ i l. o.at i l ∙ sym (next_round _) };
      }

  pub moved_readable : Readable next (shrunk g u) ks
  moved_readable =
      let c : Chain (round r n) n (g.head + u) (g.used - u) 0 ks = chain_from 0 zero-le (chain_cut xs ks k.chain) in
      record {
        headed = next_headed;
        chain =
            chain_of ks (round next n) n ((g.head + u) % n) (g.used - u) 0
            (sym (walk_same n (round r n) (g.head + u) (round next n) ((g.head + u) % n) (g.used - u) 0 turned) ∙ walk_of c);
      }

  pub moved_writes : map (write_of (round next n)) ks ≡ map (write_of (round r n)) ks
  moved_writes =
      sym (writes_same r next n some_slots (chain_cut xs ks k.chain)
      (record { slot = refl; bytes = record { at = λ i l. sym (next_round _) } }))
