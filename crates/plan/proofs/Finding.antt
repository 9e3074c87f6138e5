-- The plans there are find their ring at every step: the steps before have left its header as it was. And which steps they have.
use Rattle.std.specs.Prelude.{Some}
use Prim.Native.Nat.{ℕ, zero, suc, ◌+◌, ◌≤◌, ◌<◌}
use mathlib.Core.Path.{◌≡◌, refl, sym, ap, ◌∙◌}
use mathlib.Core.Bool.{Bool, true, false}
use mathlib.Core.List.{List, [], ◌∷◌, append-nil}
use native.Mathlib.Omega.{arith}
use lib.ListN.{length, take}
use lib.Dec.{eqb}
use borrow.Author.Tests.{eq-eqb, ne_eqb}
use Rattle.layout.specs.Sizes.{largest, slots_of}
use Rattle.layout.specs.declared.Ring.{Ring}
use Rattle.walk.specs.declared.Entry.{Entry}
use Rattle.walk.specs.Header.{header_of}
use Rattle.walk.proofs.Rules.{header_use}
use Rattle.store.specs.Steps.{Step, run, cut}
use Rattle.store.specs.Storing.{store_steps, head_step, unless_same, head_steps}
use Rattle.store.proofs.Steps.{cut_none}
use Rattle.ring.specs.Ring.{tail_of}
use Rattle.ring.proofs.Cutting.{store_hidden}
use Rattle.ring.proofs.Laws.{alike_headed}
use Rattle.plan.specs.Plan.{plan_steps, head_plan, entry_plan, unless_none, head_count, step_count, step_waits}
use Rattle.plan.proofs.Waiting.{head_yes, store_yes}
use Rattle.plan.proofs.Stepping.{plan_count, head_step_waits, entry_step_waits}

one_at_most : (b : Bool) (k : ℕ) → suc k < unless_none b 1 + 0 → ⊥
one_at_most true k l = omega arith
one_at_most false k l = omega arith

module _ (r : List ℕ) (g : Ring) (h : header_of r ≡ Some g) where
  -- ---- the head moves on to a slot

  module _ (slot : ℕ) (bs : List ℕ) where
    pub head_steps_law : plan_steps (head_plan g slot) bs ≡ head_steps r slot
    unfolding plan_steps head_steps
    head_steps_law =
        append-nil (unless_same (eqb g.head slot) (head_step slot ∷ []))
        ∙ ap (λ x. unless_same (eqb x slot) (head_step slot ∷ [])) (ap (λ (x : Ring). x.head) (header_use r g h).same)

    pub head_finds : slot < g.n → (k : ℕ) → k < step_count (head_plan g slot) → step_waits (head_plan g slot) (run r (take k (plan_steps (head_plan g slot) bs))) bs k ≡ true
    unfolding run
    head_finds below zero l =
        head_step_waits (head_plan g slot) bs 0 (omega arith) r ∙ head_yes (head_plan g slot) (header_of r) g h (record { slots = refl; from = refl; below = below })
    head_finds below (suc k) l = absurd (one_at_most (eqb g.head slot) k l)

  -- ---- an entry is stored at the tail

  module _ (e : Entry) (bs : List ℕ) (numbered : e.number ≡ 0 → ⊥) where
    abbrev xs : List Step
    xs = store_steps g.n e bs

    pub entry_steps : plan_steps (entry_plan g e) bs ≡ xs
    unfolding plan_steps
    entry_steps = rw (eq-eqb g.head g.head refl, ne_eqb e.number 0 numbered)

    module _ (slot : e.slot ≡ tail_of g) (bytes : e.length ≡ length bs) (most : e.length ≤ largest) (room : g.used + slots_of e.length < g.n) where
      header_stays : (k : ℕ) → k < length xs → header_of (run r (take k xs)) ≡ Some g
      header_stays k l =
          ap header_of (sym (cut_none xs r k)) ∙ sym (alike_headed r (cut r xs k []) ((store_hidden r g e bs h slot bytes room).at k l [])) ∙ h

      pub entry_finds : (k : ℕ) → k < step_count (entry_plan g e) → step_waits (entry_plan g e) (run r (take k (plan_steps (entry_plan g e) bs))) bs k ≡ true
      entry_finds k l =
          let c = plan_count (entry_plan g e) bs in
          let n : head_count (entry_plan g e) ≡ 0 = ap (λ b. unless_none b 1) (eq-eqb g.head g.head refl) in
          let m : length (plan_steps (entry_plan g e) bs) ≡ length xs = ap length entry_steps in
          ap (λ ys. step_waits (entry_plan g e) (run r (take k ys)) bs k) entry_steps
          ∙ entry_step_waits (entry_plan g e) bs k (omega arith) l (run r (take k xs))
          ∙ store_yes (entry_plan g e) (header_of (run r (take k xs))) g (header_stays k (omega arith)) (length bs)
          (record { slots = refl; bytes = sym bytes; most = most; tail = sym slot; room = room })
