-- The rules of header, fields and step: a test holds where its facts do, and only there.
use Rattle.std.specs.Prelude.{None, Option, Some}
use Prim.Native.Nat.{ℕ, ◌+◌, ◌-◌, ◌*◌, ◌%◌, ◌≤◌, ◌<◌}
use mathlib.Core.Path.{◌≡◌, refl, ap, ◌∙◌}
use mathlib.Core.List.{List}
use mathlib.Core.Bool.{Bool, true, false}
use native.Mathlib.Omega.{arith}
use native.Mathlib.Nat.{mod-lt}
use lib.ListN.{length}
use borrow.Author.Tests.{eq-eqb, le-leb, lt-ltb, ltb-true, leb-true, eqb-true}
use Rattle.layout.specs.Sizes.{edition, header_size, slot_size, head_size, largest, number_limit, file_end, slots_of, filler_of}
use Rattle.layout.specs.Bytes.{flat, round, both, Sized, zeros_at, Same}
use Rattle.layout.specs.declared.Ring.{Ring}
use Rattle.layout.proofs.Tests.{both_left, both_right, not_true_false, sized_true, sized_sound, never}
use Rattle.layout.proofs.Views.{same_part, same_back, number2_same, number4_same, number8_same, zeros_same, slot_flat}
use Rattle.walk.specs.declared.Entry.{Entry}
use Rattle.walk.specs.declared.Cursor.{Cursor}
use Rattle.walk.specs.Header.{slots_in, head_in, tail_in, is_header, used_of, ring_in, pick_header, header_of}
use Rattle.walk.specs.Entry.{head_at, valid_fields, filler}
use Rattle.walk.specs.Walk.{is_entry, pick_step, step_of}

-- ---- the header

-- `is_header`, as facts
pub record IsHeader (r : List ℕ) : Type 0 where
  pub sized : Sized r (slots_in r)
  pub edition : flat r 0 ≡ edition
  pub head : head_in r < slots_in r
  pub tail : tail_in r < slots_in r
  pub zeros : zeros_at (flat r) 4 12 ≡ true

header_true : (r : List ℕ) → IsHeader r → is_header r ≡ true
unfolding is_header both
header_true r h =
    rw (sized_true r (slots_in r) h.sized, eq-eqb _ _ h.edition, lt-ltb _ _ h.head, lt-ltb _ _ h.tail, h.zeros)

header_sound : (r : List ℕ) → is_header r ≡ true → IsHeader r
unfolding is_header
header_sound r e =
    let e1 = both_right _ _ e in
    let e2 = both_right _ _ e1 in
    let e3 = both_right _ _ e2 in
    record {
      sized = sized_sound r (slots_in r) (both_left _ _ e);
      edition = eqb-true _ _ (both_left _ _ e1);
      head = ltb-true _ _ (both_left _ _ e2);
      tail = ltb-true _ _ (both_left _ _ e3);
      zeros = both_right _ _ e3;
    }

pub header_bad : (r : List ℕ) → (IsHeader r → ⊥) → header_of r ≡ None
unfolding header_of pick_header
header_bad r k = rw (not_true_false (is_header r) (λ e. k (header_sound r e)))

pub header_good : (r : List ℕ) → IsHeader r → header_of r ≡ Some (ring_in r)
unfolding header_of pick_header
header_good r h = rw (header_true r h)

good_true : (b : Bool) (x : Option Ring) (g : Ring) → pick_header b x ≡ Some g → b ≡ true
unfolding pick_header
good_true true x g e = refl
good_true false x g e = never (cc)

-- what a header that is good says of the ring
pub record Headed (r : List ℕ) (g : Ring) : Type 0 where
  pub header : IsHeader r
  pub same : g ≡ ring_in r
  pub sized : Sized r g.n
  pub head : g.head < g.n
  pub used : g.used < g.n

pub used_below : (n head tail : ℕ) → head < n → used_of n head tail < n
used_below n head tail h = let z : 0 < n = omega arith in mod-lt (n + tail - head) z

pub header_headed : (r : List ℕ) → IsHeader r → Headed r (ring_in r)
header_headed r h =
    record {
      header = h;
      same = refl;
      sized = h.sized;
      head = h.head;
      used = used_below (slots_in r) (head_in r) (tail_in r) h.head;
    }

pub header_use : (r : List ℕ) (g : Ring) → header_of r ≡ Some g → Headed r g
unfolding header_of
header_use r g q =
    let h = header_sound r (good_true _ _ g q) in
    let e : g ≡ ring_in r = cc (header_good r h) in
    rw e (header_headed r h)

-- ---- an entry's head and fields

-- `valid_fields`, as facts
pub record Valid (e : Entry) : Type 0 where
  pub some : 0 < e.number
  pub below : e.number < number_limit
  pub node : 0 < e.node
  pub bytes : 0 < e.length
  pub most : e.length ≤ largest
  pub zero : e.zero ≡ 0
  pub end : e.offset + e.length ≤ file_end

-- the same bytes are the same head
pub head_same : {f : ℕ → ℕ} {p : ℕ} {g : ℕ → ℕ} {q c : ℕ} (slot : ℕ) → Same f p g q c → head_size ≤ c → head_at f p slot ≡ head_at g q slot
head_same slot k l =
    rw (
      number8_same k (omega arith),
      number4_same (same_part k 8 4 (omega arith)) (omega arith),
      number4_same (same_part k 12 4 (omega arith)) (omega arith),
      number4_same (same_part k 16 4 (omega arith)) (omega arith),
      number2_same (same_part k 20 2 (omega arith)) (omega arith),
      number2_same (same_part k 22 2 (omega arith)) (omega arith),
    )

pub valid_true : (e : Entry) → Valid e → valid_fields e ≡ true
unfolding valid_fields both
valid_true e v =
    rw (lt-ltb _ _ v.some, lt-ltb _ _ v.below, lt-ltb _ _ v.node, lt-ltb _ _ v.bytes, le-leb _ _ v.most, eq-eqb _ _ v.zero, le-leb _ _ v.end)

pub valid_sound : (e : Entry) → valid_fields e ≡ true → Valid e
unfolding valid_fields
valid_sound e t =
    let t1 = both_right _ _ t in
    let t2 = both_right _ _ t1 in
    let t3 = both_right _ _ t2 in
    let t4 = both_right _ _ t3 in
    let t5 = both_right _ _ t4 in
    record {
      some = ltb-true _ _ (both_left _ _ t);
      below = ltb-true _ _ (both_left _ _ t1);
      node = ltb-true _ _ (both_left _ _ t2);
      bytes = ltb-true _ _ (both_left _ _ t3);
      most = leb-true _ _ (both_left _ _ t4);
      zero = eqb-true _ _ (both_left _ _ t5);
      end = leb-true _ _ (both_right _ _ t5);
    }

pub valid_false : (e : Entry) → (Valid e → ⊥) → valid_fields e ≡ false
valid_false e k = not_true_false (valid_fields e) (λ t. k (valid_sound e t))

-- ---- a step

-- `is_entry`, as facts
pub record IsEntry (f : ℕ → ℕ) (c : Cursor) (e : Entry) : Type 0 where
  pub valid : Valid e
  pub rising : c.last < e.number
  pub fits : slots_of e.length ≤ c.left
  pub filled : filler f c.place e.length ≡ true

module _ (f : ℕ → ℕ) (c : Cursor) (e : Entry) where
  entry_true : IsEntry f c e → is_entry f c e ≡ true
  unfolding is_entry both
  entry_true h = rw (valid_true e h.valid, lt-ltb _ _ h.rising, le-leb _ _ h.fits, h.filled)

  entry_sound : is_entry f c e ≡ true → IsEntry f c e
  unfolding is_entry
  entry_sound t =
      let t1 = both_right _ _ t in
      let t2 = both_right _ _ t1 in
      record {
        valid = valid_sound e (both_left _ _ t);
        rising = ltb-true _ _ (both_left _ _ t1);
        fits = leb-true _ _ (both_left _ _ t2);
        filled = both_right _ _ t2;
      }

  pub step_found : IsEntry f c e → step_of f c e ≡ Some e
  unfolding pick_step
  step_found h = rw (entry_true h)

  pub step_nothing : (IsEntry f c e → ⊥) → step_of f c e ≡ None
  unfolding pick_step
  step_nothing k = rw (not_true_false (is_entry f c e) (λ t. k (entry_sound t)))

  found_true : (b : Bool) (e' : Entry) → pick_step b e ≡ Some e' → (b ≡ true) × (e ≡ e')
  unfolding pick_step
  found_true true e' q = (refl, (cc))
  found_true false e' q = never (cc)

  -- a step finds the entry at its place or none
  pub step_sound : (e' : Entry) → step_of f c e ≡ Some e' → (e ≡ e') × IsEntry f c e
  step_sound e' q = let w = found_true (is_entry f c e) e' q in (w.1, entry_sound w.0)

-- the filler stands in the entry's last slot, and so in a run of the buffer
pub filler_flat : (r : List ℕ) (n s length k : ℕ) → 0 < n → k ≡ slots_of length
    → zeros_at (flat r) (header_size + ((s + (k - 1)) % n) * slot_size + (head_size + length - (k - 1) * slot_size)) (slot_size - (head_size + length - (k - 1) * slot_size))
    ≡ filler (round r n) s length
filler_flat r n s length k z e =
    let t = s + (k - 1) in
    let a = head_size + length - (k - 1) * slot_size in
    let h : a + (slot_size - a) ≤ slot_size = omega arith in
    let x : t * slot_size + a ≡ s * slot_size + (head_size + length) = omega arith in
    let y : slot_size - a ≡ filler_of length = omega arith in
    zeros_same (slot_size - a) (same_back (same_part (slot_flat r n t z) a (slot_size - a) h))
    ∙ ap (λ (q : ℕ). zeros_at (round r n) q (slot_size - a)) x
    ∙ ap (zeros_at (round r n) (s * slot_size + (head_size + length))) y
