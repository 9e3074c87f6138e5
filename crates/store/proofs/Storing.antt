-- Step i of storing an entry as the code makes it.
use Prim.Native.Nat.{ℕ, zero, suc, ◌+◌, ◌*◌, ◌%◌, ◌≤◌, ◌<◌}
use mathlib.Core.Path.{◌≡◌, sym, ap, ◌∙◌}
use mathlib.Core.List.{List, [], ◌∷◌, ◌++◌}
use native.Mathlib.Omega.{arith}
use native.Mathlib.Nat.{mod-eq_of_lt}
use lib.ListN.{get_or, set, take, drop}
use lib.Seq.{drop-drop, get_or-append_seam}
use Rattle.layout.specs.Sizes.{slot_size, slots_of}
use Rattle.layout.proofs.Sizes.{slots_some}
use Rattle.walk.specs.declared.Entry.{Entry}
use Rattle.image.specs.Image.{entry_bytes, slot_bytes}
use Rattle.store.specs.Steps.{Step, in_slot, run_step}
use Rattle.store.specs.Store.{tail_after}
use Rattle.store.specs.Storing.{slot_steps, tail_step, store_steps, store_step}
use Rattle.store.proofs.Steps.{slots_count}

-- ---- step i of storing an entry

slot_at : (n m s : ℕ) (bs : List ℕ) (ys : List Step) (i : ℕ) (d : Step) → i < m → get_or (slot_steps n s m bs ++ ys) i d ≡ in_slot ((s + i) % n) (take slot_size (drop (i * slot_size) bs))
unfolding slot_steps
slot_at n zero s bs ys i d h = absurd (let w : ⊥ = omega arith in w)
slot_at n (suc m) s bs ys zero d h = ap (λ x. in_slot (x % n) (take slot_size bs)) (let e : s ≡ s + 0 = omega arith in e)
slot_at n (suc m) s bs ys (suc i) d h =
    let w : suc s + i ≡ s + suc i = omega arith in
    let v : slot_size + i * slot_size ≡ suc i * slot_size = omega arith in
    slot_at n m (suc s) (drop slot_size bs) ys i d (omega arith)
    ∙ ap (λ x. in_slot (x % n) (take slot_size (drop (i * slot_size) (drop slot_size bs)))) w
    ∙ ap (λ x. in_slot ((s + suc i) % n) (take slot_size x)) (drop-drop (i * slot_size) slot_size bs ∙ ap (λ x. drop x bs) v)

module _ (n : ℕ) (e : Entry) (bs : List ℕ) where
  pub store_slot : (i : ℕ) → i < slots_of e.length → store_step n e bs i ≡ in_slot ((e.slot + i) % n) (slot_bytes e bs i)
  unfolding store_steps slot_bytes
  store_slot i h = slot_at n (slots_of e.length) e.slot (entry_bytes e bs) (tail_step (tail_after n e) ∷ []) i (tail_step 0) h

  pub store_tail : (i : ℕ) → i ≡ slots_of e.length → store_step n e bs i ≡ tail_step (tail_after n e)
  unfolding store_steps
  store_tail i h =
      let xs = slot_steps n e.slot (slots_of e.length) (entry_bytes e bs) in
      let c = slots_count n (slots_of e.length) e.slot (entry_bytes e bs) in
      ap (λ k. get_or (xs ++ tail_step (tail_after n e) ∷ []) k (tail_step 0)) (h ∙ sym c) ∙ get_or-append_seam xs (tail_step (tail_after n e)) [] (tail_step 0)

  -- what the code does in step i
  module _ (r : List ℕ) (i : ℕ) (img out : List ℕ) where
    pub step_later : i < slots_of e.length → img ≡ slot_bytes e bs i → (q : ℕ) → q ≡ (e.slot + i) % n → out ≡ run_step r (in_slot q img) → out ≡ run_step r (store_step n e bs i)
    step_later h m q w o = o ∙ ap (λ x. run_step r (in_slot q x)) m ∙ ap (λ x. run_step r (in_slot x (slot_bytes e bs i))) w ∙ ap (run_step r) (sym (store_slot i h))

    pub step_first : i ≡ 0 → e.slot < n → img ≡ slot_bytes e bs 0 → out ≡ run_step r (in_slot e.slot img) → out ≡ run_step r (store_step n e bs i)
    step_first z h m o =
        let w : e.slot + i ≡ e.slot = omega arith in
        let k = slots_some e.length in
        step_later (omega arith) (m ∙ ap (slot_bytes e bs) (sym z)) e.slot (sym (ap (λ x. x % n) w ∙ mod-eq_of_lt h)) o

    pub step_tail : (k v : ℕ) → k ≡ slots_of e.length → i ≤ slots_of e.length → k ≤ i → v ≡ (e.slot + k) % n → out ≡ run_step r (tail_step v) → out ≡ run_step r (store_step n e bs i)
    step_tail k v a h l w o = o ∙ ap (λ x. set r 3 x) (w ∙ ap (λ x. (e.slot + x) % n) a) ∙ ap (run_step r) (sym (store_tail i (omega arith)))
