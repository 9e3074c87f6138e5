-- Laws of steps: runs and cuts of one run after another, slots in a row as one store, and what a cut leaves of a run that ends with one byte.
use Prim.Native.Nat.{ℕ, zero, suc, ◌+◌, ◌*◌, ◌%◌, ◌≤◌, ◌<◌}
use mathlib.Core.Path.{◌≡◌, refl, sym, ap, ◌∙◌}
use mathlib.Core.List.{List, [], ◌∷◌, ◌++◌}
use mathlib.Core.Bool.{Bool, true, false}
use native.Mathlib.Omega.{arith}
use native.Mathlib.Nat.{add-zero, mod-lt, mod-zero}
use lib.ListN.{length, get_or, set, take, drop, length-set, length-append, length-take, length-drop, take-append-drop}
use lib.Seq.{length-take-le, set-get_or, sets}
use lib.Dec.{eqb}
use borrow.Author.Tests.{eqb-true}
use Rattle.layout.specs.Sizes.{header_size, slot_size, span_of, slots_of}
use Rattle.layout.specs.Bytes.{flat, put}
use Rattle.layout.proofs.Views.{slot_start}
use Rattle.layout.proofs.Puts.{put_append, run_sets}
use Rattle.walk.specs.declared.Entry.{Entry}
use Rattle.store.specs.Steps.{Step, in_slot, one_byte, put_at, place_of, run_step, run, torn, cut}
use Rattle.image.specs.Image.{entry_bytes}
use Rattle.store.specs.Store.{tail_after, stored, head_moved}
use Rattle.store.specs.Storing.{slot_steps, tail_step, store_steps, head_step, unless_same, head_steps}
use Rattle.image.proofs.Stored.{entry_length}

-- ---- one run after another

pub run_append : (xs ys : List Step) (r : List ℕ) → run r (xs ++ ys) ≡ run (run r xs) ys
unfolding run
run_append [] ys r = refl
run_append (x ∷ xs) ys r = run_append xs ys (run_step r x)

-- all steps are done
pub cut_all_law : (xs : List Step) (r : List ℕ) (k : ℕ) (junk : List ℕ) → length xs ≤ k → cut r xs k junk ≡ run r xs
unfolding run cut
cut_all_law [] r k junk h = refl
cut_all_law (x ∷ xs) r zero junk h = absurd (let w : ⊥ = omega arith in w)
cut_all_law (x ∷ xs) r (suc k) junk h = cut_all_law xs (run_step r x) k junk (omega arith)

-- a cut within the first run
pub cut_within : (xs ys : List Step) (r : List ℕ) (k : ℕ) (junk : List ℕ) → k < length xs → cut r (xs ++ ys) k junk ≡ cut r xs k junk
unfolding cut
cut_within [] ys r k junk h = absurd (let w : ⊥ = omega arith in w)
cut_within (x ∷ xs) ys r zero junk h = refl
cut_within (x ∷ xs) ys r (suc k) junk h = cut_within xs ys (run_step r x) k junk (omega arith)

-- a cut behind it
pub cut_behind : (xs ys : List Step) (r : List ℕ) (k : ℕ) (junk : List ℕ) → cut r (xs ++ ys) (length xs + k) junk ≡ cut (run r xs) ys k junk
unfolding cut run
cut_behind [] ys r k junk = ap (λ j. cut r ys j junk) (let e : 0 + k ≡ k = omega arith in e)
cut_behind (x ∷ xs) ys r k junk =
    let e : suc (length xs) + k ≡ suc (length xs + k) = omega arith in
    rw e (cut_behind xs ys (run_step r x) k junk)

-- a cut that leaves nothing of the step that it cut short
pub cut_none : (xs : List Step) (r : List ℕ) (k : ℕ) → cut r xs k [] ≡ run r (take k xs)
unfolding cut run put_at
cut_none [] r zero = refl
cut_none [] r (suc k) = refl
cut_none (in_slot j bs ∷ xs) r zero = refl
cut_none (one_byte p v ∷ xs) r zero = refl
cut_none (x ∷ xs) r (suc k) = cut_none xs (run_step r x) k

-- ---- no step changes the length

pub at_length : (bs r : List ℕ) (p : ℕ) → length (put_at r p bs) ≡ length r
unfolding put_at
at_length [] r p = refl
at_length (b ∷ bs) r p = at_length bs (set r p b) (suc p) ∙ length-set r p b

pub step_length : (r : List ℕ) (x : Step) → length (run_step r x) ≡ length r
step_length r (in_slot k bs) = at_length bs r (place_of k)
step_length r (one_byte p v) = length-set r p v

torn_length : (r : List ℕ) (x : Step) (junk : List ℕ) → length (torn r x junk) ≡ length r
torn_length r (in_slot k bs) junk = at_length (take slot_size junk) r (place_of k)
torn_length r (one_byte p v) junk = refl

pub run_length : (xs : List Step) (r : List ℕ) → length (run r xs) ≡ length r
unfolding run
run_length [] r = refl
run_length (x ∷ xs) r = run_length xs (run_step r x) ∙ step_length r x

pub cut_length : (xs : List Step) (r : List ℕ) (k : ℕ) (junk : List ℕ) → length (cut r xs k junk) ≡ length r
unfolding cut
cut_length [] r k junk = refl
cut_length (x ∷ xs) r zero junk = torn_length r x junk
cut_length (x ∷ xs) r (suc k) junk = cut_length xs (run_step r x) k junk ∙ step_length r x

-- ---- a store in the buffer and a store in the slots are the same where it doesn't go round the end

-- bytes stored at a place are a write to each of its places
pub at_sets : (bs r : List ℕ) (p : ℕ) → put_at r p bs ≡ sets r p bs
unfolding put_at
at_sets [] r p = refl
at_sets (b ∷ bs) r p = at_sets bs (set r p b) (suc p)

at_put : (bs r : List ℕ) (n p i : ℕ) → (p % span_of n) + i + length bs ≤ span_of n → put_at r (header_size + (p % span_of n) + i) bs ≡ put r n (p + i) bs
at_put bs r n p i h = at_sets bs r (header_size + (p % span_of n) + i) ∙ sym (run_sets bs r n p i h)

-- a ring of no slots has no end to go round
put_bare : (bs r : List ℕ) (p : ℕ) → put_at r (header_size + p) bs ≡ put r 0 p bs
unfolding put_at put
put_bare [] r p = refl
put_bare (b ∷ bs) r p =
    let x : suc (header_size + p) ≡ header_size + suc p = omega arith in
    rw (x, mod-zero p) (put_bare bs (set r (header_size + p) b) (suc p))

pub slot_put : (bs r : List ℕ) (n s : ℕ) → length bs ≤ slot_size → put_at r (place_of (s % n)) bs ≡ put r n (s * slot_size) bs
slot_put bs r zero s h = ap (λ k. put_at r (place_of k) bs) (mod-zero s) ∙ put_bare bs r (s * slot_size)
slot_put bs r (suc m) s h =
    let n = suc m in
    let z : 0 < n = omega arith in
    let e = slot_start n s z in
    let l = mod-lt s z in
    let x : place_of (s % n) ≡ header_size + ((s * slot_size) % span_of n) + 0 = omega arith in
    ap (λ p. put_at r p bs) x ∙ at_put bs r n (s * slot_size) 0 (omega arith) ∙ ap (λ p. put r n p bs) (add-zero (s * slot_size))

-- ---- slots in a row are one store

pub slots_count : (n m s : ℕ) (bs : List ℕ) → length (slot_steps n s m bs) ≡ m
unfolding slot_steps
slots_count n zero s bs = refl
slots_count n (suc m) s bs = ap suc (slots_count n m (suc s) (drop slot_size bs))

module _ (n : ℕ) where
  module _ (s m : ℕ) (bs : List ℕ) (l : length bs ≡ suc m * slot_size) where
    first_long : length (take slot_size bs) ≡ slot_size
    first_long = length-take-le slot_size bs (omega arith)

    rest_long : length (drop slot_size bs) ≡ m * slot_size
    rest_long = let d = length-drop slot_size bs in omega arith

    -- the first slot, and what is stored behind it
    then_rest : (r xs : List ℕ) → put (put_at r (place_of (s % n)) (take slot_size bs)) n (suc s * slot_size) xs ≡ put r n (s * slot_size) (take slot_size bs ++ xs)
    then_rest r xs =
        let e = first_long in
        let x : suc s * slot_size ≡ s * slot_size + length (take slot_size bs) = omega arith in
        ap (λ y. put y n (suc s * slot_size) xs) (slot_put (take slot_size bs) r n s (omega arith))
        ∙ ap (λ q. put (put r n (s * slot_size) (take slot_size bs)) n q xs) x ∙ sym (put_append (take slot_size bs) xs r n (s * slot_size))

  pub slots_run : (m s : ℕ) (bs r : List ℕ) → length bs ≡ m * slot_size → run r (slot_steps n s m bs) ≡ put r n (s * slot_size) bs
  unfolding run slot_steps put
  slots_run zero s [] r l = refl
  slots_run zero s (b ∷ bs) r l = absurd (let w : ⊥ = omega arith in w)
  slots_run (suc m) s bs r l =
      slots_run m (suc s) (drop slot_size bs) (put_at r (place_of (s % n)) (take slot_size bs)) (rest_long s m bs l)
      ∙ then_rest s m bs l r (drop slot_size bs) ∙ ap (put r n (s * slot_size)) (take-append-drop slot_size bs)

  -- a cut within them, or before the byte that follows, left some bytes there and no others
  pub record Left (r : List ℕ) (s m : ℕ) (r' : List ℕ) : Type 0 where
    pub bytes : List ℕ
    pub few : length bytes ≤ m * slot_size
    pub is : r' ≡ put r n (s * slot_size) bytes

  pub slots_cut : (m s : ℕ) (bs r : List ℕ) → length bs ≡ m * slot_size → (k : ℕ) → k ≤ m → (p v : ℕ) (junk : List ℕ) → Left r s m (cut r (slot_steps n s m bs ++ one_byte p v ∷ []) k junk)
  unfolding cut slot_steps put
  slots_cut zero s bs r l zero h p v junk = record { bytes = []; few = omega arith; is = refl }
  slots_cut zero s bs r l (suc k) h p v junk = absurd (let w : ⊥ = omega arith in w)
  slots_cut (suc m) s bs r l zero h p v junk =
      let e = length-take slot_size junk in
      record { bytes = take slot_size junk; few = omega arith; is = slot_put (take slot_size junk) r n s (omega arith) }
  slots_cut (suc m) s bs r l (suc k) h p v junk =
      let o = slots_cut m (suc s) (drop slot_size bs) (put_at r (place_of (s % n)) (take slot_size bs)) (rest_long s m bs l) k (omega arith) p v junk in
      let a = length-append (take slot_size bs) o.bytes in
      let b = first_long s m bs l in
      let d = o.few in
      record { bytes = take slot_size bs ++ o.bytes; few = omega arith; is = o.is ∙ then_rest s m bs l r o.bytes }

-- ---- storing an entry

module _ (r : List ℕ) (n : ℕ) (e : Entry) (bs : List ℕ) (l : e.length ≡ length bs) where
  -- its slots as one store, and then the tail byte
  pub stored_is : run r (store_steps n e bs) ≡ set (put r n (e.slot * slot_size) (entry_bytes e bs)) 3 (tail_after n e)
  unfolding store_steps run
  stored_is =
      run_append (slot_steps n e.slot (slots_of e.length) (entry_bytes e bs)) (tail_step (tail_after n e) ∷ []) r
      ∙ ap (λ y. set y 3 (tail_after n e)) (slots_run n (slots_of e.length) e.slot (entry_bytes e bs) r (entry_length e bs l))

  -- so what is stored is its steps, run
  pub stored_run : stored r n e bs ≡ run r (store_steps n e bs)
  unfolding stored
  stored_run = sym stored_is

  pub stored_cut : (k : ℕ) → k ≤ slots_of e.length → (junk : List ℕ) → Left n r e.slot (slots_of e.length) (cut r (store_steps n e bs) k junk)
  unfolding store_steps
  stored_cut k h junk = slots_cut n (slots_of e.length) e.slot (entry_bytes e bs) r (entry_length e bs l) k h 3 (tail_after n e) junk

-- one step a slot, and one for the tail byte
pub store_count : (n : ℕ) (e : Entry) (bs : List ℕ) → length (store_steps n e bs) ≡ slots_of e.length + 1
unfolding store_steps
store_count n e bs =
    length-append (slot_steps n e.slot (slots_of e.length) (entry_bytes e bs)) (tail_step (tail_after n e) ∷ [])
    ∙ ap (λ k. k + 1) (slots_count n (slots_of e.length) e.slot (entry_bytes e bs))

-- ---- moving the head on

-- the head byte, whether it was stored or stood there
pub moved_is : (r : List ℕ) (slot : ℕ) → run r (head_steps r slot) ≡ set r 2 slot
unfolding head_steps run
moved_is r slot = at (eqb (flat r 2) slot) refl
  where
    at : (b : Bool) → eqb (flat r 2) slot ≡ b → run r (unless_same b (head_step slot ∷ [])) ≡ set r 2 slot
    at true e = let q : get_or r 2 0 ≡ slot = eqb-true (flat r 2) slot e in sym (ap (set r 2) (sym q) ∙ set-get_or r 2 0)
    at false e = refl

-- so the head moved on is its steps, run
pub moved_run : (r : List ℕ) (slot : ℕ) → head_moved r slot ≡ run r (head_steps r slot)
unfolding head_moved
moved_run r slot = sym (moved_is r slot)

-- where the head stays nothing is stored
pub moved_none : (r : List ℕ) (slot : ℕ) → flat r 2 ≡ slot → r ≡ head_moved r slot
moved_none r slot e = sym (moved_run r slot ∙ moved_is r slot ∙ ap (set r 2) (sym e) ∙ set-get_or r 2 0)

-- a cut before it changes nothing
pub moved_cut : (r : List ℕ) (slot : ℕ) (junk : List ℕ) → cut r (head_steps r slot) 0 junk ≡ r
unfolding cut head_steps
moved_cut r slot junk = at (eqb (flat r 2) slot)
  where
    at : (b : Bool) → cut r (unless_same b (head_step slot ∷ [])) 0 junk ≡ r
    at true = refl
    at false = refl

pub head_count_law : (r : List ℕ) (slot : ℕ) → length (head_steps r slot) ≤ 1
unfolding head_steps
head_count_law r slot = at (eqb (flat r 2) slot)
  where
    at : (b : Bool) → length (unless_same b (head_step slot ∷ [])) ≤ 1
    at true = omega arith
    at false = omega arith
