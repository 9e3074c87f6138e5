-- A write's own refusals, one row at a time. Document 01, "When the box says no".
use Rattle.std.specs.Prelude.{Result, Ok, Err}
use Prim.Native.Nat.{ℕ, ◌+◌, ◌-◌, ◌≤◌, ◌<◌}
use mathlib.Core.Path.{◌≡◌, sym, ap, ◌∙◌}
use mathlib.Core.List.{List, []}
use borrow.Author.Tests.{eq-eqb, ne_eqb, lt-ltb, le-ltb}
use lib.ListN.{length}
use Rattle.reason.specs.declared.Reason.{Reason}
use Rattle.reason.specs.declared.Reason.TheVariants.{NodeZero, BadLength, PastFileEnd, NoNumber, NoRoom}
use Rattle.layout.specs.Sizes.{largest, file_end, number_limit, slots_of}
use Rattle.layout.specs.declared.Ring.{Ring}
use Rattle.walk.specs.Walk.{readable}
use Rattle.state.specs.declared.State.{State}
use Rattle.rules.specs.Call.{write}
use Rattle.rules.specs.Refusals.{own}
use Rattle.rules.specs.Outcome.{may_of}
use Rattle.rules.proofs.Owning.{own_write}

module _ (s : State) (g : Ring) (node offset : ℕ) (bs : List ℕ) where
  abbrev verdict : Result (Unit {0}) Reason
  verdict = may_of (own (write node 0 offset bs) [] (readable g []) s)

  pub may_node : node ≡ 0 → Err NodeZero ≡ verdict
  may_node h = sym (ap may_of (own_write [] (readable g []) s node 0 offset bs) ∙ rw (eq-eqb node 0 h))

  module _ (z : node ≡ 0 → ⊥) where
    pub may_empty : length bs ≡ 0 → Err BadLength ≡ verdict
    may_empty h = sym (ap may_of (own_write [] (readable g []) s node 0 offset bs) ∙ rw (ne_eqb node 0 z, eq-eqb (length bs) 0 h))

    module _ (e : length bs ≡ 0 → ⊥) where
      pub may_long : largest < length bs → Err BadLength ≡ verdict
      may_long h = sym (ap may_of (own_write [] (readable g []) s node 0 offset bs) ∙ rw (ne_eqb node 0 z, ne_eqb (length bs) 0 e, lt-ltb largest (length bs) h))

      module _ (l : length bs ≤ largest) where
        pub may_end : file_end < offset + length bs → Err PastFileEnd ≡ verdict
        may_end h =
            sym (ap may_of (own_write [] (readable g []) s node 0 offset bs)
            ∙ rw (ne_eqb node 0 z, ne_eqb (length bs) 0 e, le-ltb largest (length bs) l, lt-ltb file_end (offset + length bs) h))

        module _ (f : offset + length bs ≤ file_end) where
          pub may_number : s.next ≡ number_limit → Err NoNumber ≡ verdict
          may_number h =
              sym (ap may_of (own_write [] (readable g []) s node 0 offset bs)
              ∙ rw (ne_eqb node 0 z, ne_eqb (length bs) 0 e, le-ltb largest (length bs) l, le-ltb file_end (offset + length bs) f, eq-eqb s.next number_limit h))

          module _ (n : s.next ≡ number_limit → ⊥) where
            pub may_room : g.n - 1 - g.used < slots_of (length bs) → Err NoRoom ≡ verdict
            may_room h =
                sym (ap may_of (own_write [] (readable g []) s node 0 offset bs)
                ∙ rw (ne_eqb node 0 z, ne_eqb (length bs) 0 e, le-ltb largest (length bs) l, le-ltb file_end (offset + length bs) f, ne_eqb s.next number_limit n, lt-ltb (g.n - 1 - g.used) (slots_of (length bs)) h))

            pub may_go : slots_of (length bs) ≤ g.n - 1 - g.used → Ok tt ≡ verdict
            may_go h =
                sym (ap may_of (own_write [] (readable g []) s node 0 offset bs)
                ∙ rw (ne_eqb node 0 z, ne_eqb (length bs) 0 e, le-ltb largest (length bs) l, le-ltb file_end (offset + length bs) f, ne_eqb s.next number_limit n, le-ltb (g.n - 1 - g.used) (slots_of (length bs)) h))
