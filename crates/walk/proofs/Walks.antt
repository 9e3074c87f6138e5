-- The walk, by two equations: it ends where no slot is left, and else takes a step. Nothing above these two looks at
-- the count of steps. And the law of views: a walk over the same bytes is the same walk.
use Rattle.std.specs.Prelude.{Option, None, Some}
use Prim.Native.Nat.{ℕ, zero, suc, ◌+◌, ◌-◌, ◌*◌, ◌%◌, ◌≤◌, ◌<◌}
use mathlib.Core.Path.{◌≡◌, refl, sym, ap, ◌∙◌}
use mathlib.Core.List.{List, []}
use mathlib.Core.Bool.{Bool}
use native.Mathlib.Omega.{arith}
use native.Mathlib.Nat.{mod-add-mod}
use borrow.Author.Tests.{leb-true}
use Rattle.layout.specs.Sizes.{slot_size, head_size, slots_of, filler_of}
use Rattle.layout.specs.Bytes.{Same}
use Rattle.layout.proofs.Views.{same_part, zeros_same}
use Rattle.layout.proofs.Tests.{both_ext}
use Rattle.layout.proofs.Sizes.{slots_some}
use Rattle.walk.specs.declared.Entry.{Entry}
use Rattle.walk.specs.declared.Cursor.{Cursor}
use Rattle.walk.specs.Entry.{head_at, entry_at, filler}
use Rattle.walk.specs.Walk.{is_entry, pick_step, step_of, step_at, pass, more, on_found, unless_done, walk_in, walk}
use Rattle.walk.proofs.Rules.{head_same, step_sound}

-- ---- the two equations

pub on_found_law : (k₁ k₂ : Entry → Option (List Entry)) (x : Option Entry) → ((e : Entry) → x ≡ Some e → k₁ e ≡ k₂ e) → on_found x k₁ ≡ on_found x k₂
on_found_law k₁ k₂ None q = refl
on_found_law k₁ k₂ (Some e) q = ap (more e) (q e refl)

unless_ext : (left : ℕ) (x y : Option (List Entry)) → (0 < left → x ≡ y) → unless_done left x ≡ unless_done left y
unless_ext zero x y k = refl
unless_ext (suc left) x y k = k (omega arith)

-- a step leaves fewer slots
pass_less : (f : ℕ → ℕ) (n : ℕ) (c : Cursor) (e : Entry) → 0 < c.left → step_at f n c ≡ Some e → (pass c e).left < c.left
pass_less f n c e l q = omega (arith, slots_some e.length)

enough : (m k : ℕ) (f : ℕ → ℕ) (n : ℕ) (c : Cursor) → c.left ≤ m → c.left ≤ k → walk_in m f n c ≡ walk_in k f n c
unfolding walk_in
enough zero zero f n c a b = refl
enough zero (suc k) f n c a b = let z : c.left ≡ 0 = omega arith in rw z
enough (suc m) zero f n c a b = let z : c.left ≡ 0 = omega arith in rw z
enough (suc m) (suc k) f n c a b =
    unless_ext c.left _ _
    (λ l. on_found_law _ _ (step_at f n c)
    (λ e q. let w = pass_less f n c e l q in enough m k f n (pass c e) (omega arith) (omega arith)))

pub walk_end : (f : ℕ → ℕ) (n : ℕ) (c : Cursor) → c.left ≡ 0 → walk f n c ≡ Some []
unfolding walk walk_in
walk_end f n c z = rw z

unless_more : (left : ℕ) (x : Option (List Entry)) → 0 < left → unless_done left x ≡ x
unless_more zero x l = absurd (let w : ⊥ = omega arith in w)
unless_more (suc left) x l = refl

pub walk_step : (f : ℕ → ℕ) (n : ℕ) (c : Cursor) → 0 < c.left → walk f n c ≡ on_found (step_at f n c) (λ e. walk f n (pass c e))
unfolding walk walk_in
walk_step f n c l =
    let z : c.left ≡ suc (c.left - 1) = omega arith in
    ap (λ (m : ℕ). walk_in m f n c) z
    ∙ (unless_more c.left _ l
    ∙ on_found_law _ _ (step_at f n c)
    (λ e q. let w = pass_less f n c e l q in enough (c.left - 1) (pass c e).left f n (pass c e) (omega arith) (omega arith)))

-- ---- the same bytes, the same walk

-- the same slots of two views, at places that are the same slot of the ring
pub record Slots (n : ℕ) (f : ℕ → ℕ) (s : ℕ) (g : ℕ → ℕ) (t count : ℕ) : Type 0 where
  pub slot : s % n ≡ t % n
  pub bytes : Same f (s * slot_size) g (t * slot_size) (count * slot_size)

abbrev pub cursor : ℕ → ℕ → ℕ → Cursor
cursor s left last = record { place = s; left = left; last = last }

module _ (n : ℕ) (f : ℕ → ℕ) (s : ℕ) (g : ℕ → ℕ) (t left : ℕ) (k : Slots n f s g t left) where
  entry_same : 0 < left → entry_at f n s ≡ entry_at g n t
  entry_same l = ap (head_at f (s * slot_size)) k.slot ∙ head_same (t % n) k.bytes (omega arith)

  filler_same : (length : ℕ) → slots_of length ≤ left → filler f s length ≡ filler g t length
  filler_same length h = zeros_same _ (same_part k.bytes (head_size + length) (filler_of length) (omega arith))

-- the places behind some slots
pub slots_rest : {n : ℕ} {f : ℕ → ℕ} {s : ℕ} {g : ℕ → ℕ} {t left : ℕ} → Slots n f s g t left → (d m : ℕ) → d + m ≤ left → Slots n f (s + d) g (t + d) m
slots_rest {n} {f} {s} {g} {t} {left} k d m h =
    let x : s * slot_size + d * slot_size ≡ (s + d) * slot_size = omega arith in
    let y : t * slot_size + d * slot_size ≡ (t + d) * slot_size = omega arith in
    record {
      slot = sym (mod-add-mod s n d) ∙ ap (λ (z : ℕ). (z + d) % n) k.slot ∙ mod-add-mod t n d;
      bytes = rw (x, y) at (same_part k.bytes (d * slot_size) (m * slot_size) (omega arith));
    }

pub step_same : (n : ℕ) (f : ℕ → ℕ) (s : ℕ) (g : ℕ → ℕ) (t left last : ℕ) → Slots n f s g t left → 0 < left
    → step_at f n (cursor s left last) ≡ step_at g n (cursor t left last)
unfolding is_entry
step_same n f s g t left last k l =
    let e = entry_at f n s in
    ap (λ (b : Bool). pick_step b e)
    (both_ext _ _ _ (λ _. both_ext _ _ _ (λ _. both_ext _ _ _ (λ h. filler_same n f s g t left k e.length (leb-true _ _ h)))))
    ∙ ap (step_of g (cursor t left last)) (entry_same n f s g t left k l)

in_same : (m n : ℕ) (f : ℕ → ℕ) (s : ℕ) (g : ℕ → ℕ) (t left last : ℕ) → Slots n f s g t left
    → walk_in m f n (cursor s left last) ≡ walk_in m g n (cursor t left last)
unfolding walk_in
in_same zero n f s g t left last k = refl
in_same (suc m) n f s g t left last k =
    unless_ext left _ _
    (λ l. on_found_law _ _ (step_at f n (cursor s left last))
    (λ e q.
    let w = step_sound f (cursor s left last) (entry_at f n s) e q in
    let h : slots_of e.length ≤ left = rw (ap (λ (x : Entry). slots_of x.length) w.0) at w.1.fits in
    in_same m n f (s + slots_of e.length) g (t + slots_of e.length) (left - slots_of e.length) e.number
    (slots_rest k (slots_of e.length) (left - slots_of e.length) (omega arith)))
    ∙ ap (λ (x : Option Entry). on_found x (λ e. walk_in m g n (pass (cursor t left last) e))) (step_same n f s g t left last k l))

pub walk_same : (n : ℕ) (f : ℕ → ℕ) (s : ℕ) (g : ℕ → ℕ) (t left last : ℕ) → Slots n f s g t left
    → walk f n (cursor s left last) ≡ walk g n (cursor t left last)
unfolding walk
walk_same n f s g t left last k = in_same left n f s g t left last k
