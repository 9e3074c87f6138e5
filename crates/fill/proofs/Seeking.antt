-- The search for a byte: from the newest held write back, the first that covers the place is the newest of those that do.
-- Document 01, "Moves", paragraph "Fill": "the search for a byte stops at the newest write that covers it".
use Rattle.std.specs.Prelude.{Option, None, Some}
use Rattle.std.specs.List.{find}
use Prim.Native.Nat.{ℕ, ◌-◌, ◌*◌, ◌+◌, ◌≤◌, ◌<◌}
use mathlib.Core.Path.{◌≡◌, refl, sym, ap, ◌∙◌}
use mathlib.Core.Bool.{Bool, true, false, cond}
use mathlib.Core.List.{List, [], ◌∷◌, ◌++◌, map, reverse, reverse-cons}
use native.Mathlib.Omega.{arith}
use lib.ListN.{get_or}
use Rattle.layout.specs.Sizes.{slot_size, head_size}
use Rattle.layout.specs.Bytes.{both}
use Rattle.layout.proofs.Tests.{both_right, not_true_false, true_not_false}
use Rattle.layout.proofs.Views.{bytes_length}
use Rattle.walk.specs.declared.Entry.{Entry}
use Rattle.walk.specs.Entry.{data_of}
use Rattle.walk.specs.Walk.{Write, write_of}
use Rattle.state.specs.declared.Held.{Held}
use Rattle.state.specs.Lists.{pick, entry_of, those}
use Rattle.shore.specs.Cover.{spans, covers, or_else, last_that, newest, byte_in, byte_over}
use Rattle.shore.proofs.Covering.{last_passes, spans_out}
use Rattle.rules.specs.Fill.{is_of, writes_by}
use Rattle.fill.specs.Overlay.{is_over}

covers_entry : (f : ℕ → ℕ) (p : ℕ) (e : Entry) → covers p (write_of f e) ≡ spans e.offset e.length p
covers_entry f p e = ap (λ l. spans e.offset l p) (bytes_length f (e.slot * slot_size + head_size) e.length)

-- a place that a write covers is one of its bytes
pub over_inside : (node p : ℕ) (h : Held) → is_over node p h ≡ true → (h.entry.offset ≤ p) × (p - h.entry.offset < h.entry.length)
over_inside node p h e =
    let k = spans_out h.entry.offset h.entry.length p (both_right (is_of node h) _ e) in
    let a = k.0 in
    let b = k.1 in
    (a, omega arith)

-- ---- the search from the back finds the last that passes

module _ {A : Type 0} (q : A → Bool) where
  find_append : (xs ys : List A) → find q (xs ++ ys) ≡ or_else (find q xs) (find q ys)
  find_append [] ys = refl
  find_append (x ∷ xs) ys = at (q x) (find_append xs ys)
    where
      at : (b : Bool) → find q (xs ++ ys) ≡ or_else (find q xs) (find q ys) → cond b (Some x) (find q (xs ++ ys)) ≡ or_else (cond b (Some x) (find q xs)) (find q ys)
      at true e = refl
      at false e = e

  find_back : (xs : List A) → find q (reverse xs) ≡ last_that q xs
  find_back [] = refl
  find_back (x ∷ xs) = ap (find q) (reverse-cons x xs) ∙ find_append (reverse xs) (x ∷ []) ∙ ap (λ o. or_else o (cond (q x) (Some x) None)) (find_back xs)
      ∙ ap (or_else (last_that q xs)) (at (q x))
    where
      at : (b : Bool) → cond b (Some x) None ≡ pick b (Some x) None
      at true = refl
      at false = refl

-- so a write that it finds is over the place
pub newest_inside : (node p : ℕ) (hs : List Held) (h : Held) → Some h ≡ find (is_over node p) (reverse hs)
    → (h.entry.offset ≤ p) × (p - h.entry.offset < h.entry.length)
newest_inside node p hs h e = over_inside node p h (last_passes (is_over node p) hs h (sym (e ∙ find_back (is_over node p) hs)))

-- ---- the newest of a node's writes is that of the last held write which is the node's and covers the place

abbrev wrote : (ℕ → ℕ) → Option Held → Option Write
wrote f None = None
wrote f (Some h) = Some (write_of f h.entry)

wrote_pick : (f : ℕ → ℕ) (b : Bool) (h : Held) (o : Option Held) → wrote f (pick b (Some h) o) ≡ pick b (Some (write_of f h.entry)) (wrote f o)
wrote_pick f true h o = refl
wrote_pick f false h o = refl

wrote_or : (f : ℕ → ℕ) (o v : Option Held) → wrote f (or_else o v) ≡ or_else (wrote f o) (wrote f v)
wrote_or f None v = refl
wrote_or f (Some h) v = refl

or_none : {A : Type 0} (o : Option A) → or_else o None ≡ o
or_none None = refl
or_none (Some x) = refl

-- the last that passes stays the last where others are left out
last_those : {A : Type 0} (p q : A → Bool) → ((x : A) → p x ≡ true → q x ≡ true) → (xs : List A) → last_that p (those q xs) ≡ last_that p xs
last_those p q k [] = refl
last_those p q k (x ∷ xs) = at (q x) refl (last_those p q k xs)
  where
    at : (b : Bool) → q x ≡ b → last_that p (those q xs) ≡ last_that p xs
        → last_that p (pick b (x ∷ those q xs) (those q xs)) ≡ or_else (last_that p xs) (pick (p x) (Some x) None)
    at true z e = ap (λ o. or_else o (pick (p x) (Some x) None)) e
    at false z e =
        let n : p x ≡ false = not_true_false (p x) (λ y. true_not_false (q x) (k x y) z) in
        e ∙ sym (ap (λ b. or_else (last_that p xs) (pick b (Some x) None)) n ∙ or_none (last_that p xs))

module _ (node : ℕ) (f : ℕ → ℕ) (p : ℕ) where
  newest_is : (hs : List Held) → newest p (writes_by node f hs) ≡ wrote f (last_that (is_over node p) hs)
  unfolding both
  newest_is [] = refl
  newest_is (h ∷ hs) = at (is_of node h) (newest_is hs)
    where
      at : (b : Bool) → newest p (writes_by node f hs) ≡ wrote f (last_that (is_over node p) hs)
          → newest p (map (write_of f) (map entry_of (pick b (h ∷ those (is_of node) hs) (those (is_of node) hs))))
          ≡ wrote f (or_else (last_that (is_over node p) hs) (pick (both b (spans h.entry.offset h.entry.length p)) (Some h) None))
      at true e =
          let t = spans h.entry.offset h.entry.length p in
          ap (λ b. or_else (newest p (writes_by node f hs)) (pick b (Some (write_of f h.entry)) None)) (covers_entry f p h.entry)
          ∙ ap (λ o. or_else o (pick t (Some (write_of f h.entry)) None)) e
          ∙ sym (wrote_or f (last_that (is_over node p) hs) (pick t (Some h) None) ∙ ap (or_else (wrote f (last_that (is_over node p) hs))) (wrote_pick f t h None))
      at false e = e ∙ ap (wrote f) (sym (or_none (last_that (is_over node p) hs)))

  -- so writes may be left out that aren't over the place
  pub byte_those : (q : Held → Bool) → ((h : Held) → is_over node p h ≡ true → q h ≡ true) → (other : ℕ) (hs : List Held)
      → byte_over p other (writes_by node f (those q hs)) ≡ byte_over p other (writes_by node f hs)
  unfolding byte_over
  byte_those q k other hs =
      ap (byte_in p other) (newest_is (those q hs) ∙ ap (wrote f) (last_those (is_over node p) q k hs) ∙ sym (newest_is hs))

  -- the byte is that of the write that the search finds, else the other
  found_byte : (other : ℕ) (hs : List Held) (o : Option Held) → o ≡ find (is_over node p) (reverse hs)
      → byte_in p other (wrote f o) ≡ byte_over p other (writes_by node f hs)
  unfolding byte_over
  found_byte other hs o e = ap (byte_in p other) (ap (wrote f) (e ∙ find_back (is_over node p) hs) ∙ sym (newest_is hs))

  pub byte_none : (other : ℕ) (hs : List Held) → None ≡ find (is_over node p) (reverse hs) → other ≡ byte_over p other (writes_by node f hs)
  byte_none other hs = found_byte other hs None

  pub byte_some : (other : ℕ) (hs : List Held) (h : Held) → Some h ≡ find (is_over node p) (reverse hs)
      → get_or (data_of f h.entry) (p - h.entry.offset) 0 ≡ byte_over p other (writes_by node f hs)
  byte_some other hs h = found_byte other hs (Some h)
