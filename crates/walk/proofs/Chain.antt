-- A good walk as a chain of entries, one behind the other: what the laws of storing and of moving the head go by.
use Rattle.std.specs.Prelude.{Option, None, Some}
use Prim.Native.Nat.{ℕ, ◌+◌, ◌-◌, ◌≤◌, ◌<◌, ◌%◌}
use mathlib.Core.Path.{◌≡◌, refl, sym, ap, ◌∙◌}
use mathlib.Core.Logic.{⊎_elim}
use mathlib.Core.List.{List, [], ◌∷◌, ◌++◌}
use native.Mathlib.Omega.{arith}
use native.Mathlib.Nat.{add-zero, zero-add, sub-zero, mod-lt}
use lib.ListN.{length}
use Rattle.layout.specs.Sizes.{slots_of}
use Rattle.layout.proofs.Tests.{lt_or_le, never}
use Rattle.layout.proofs.Sizes.{slots_some}
use Rattle.walk.specs.declared.Entry.{Entry}
use Rattle.walk.specs.declared.Cursor.{Cursor}
use Rattle.walk.specs.Entry.{entry_at}
use Rattle.walk.specs.Walk.{step_of, step_at, pass, more, on_found, walk, slots_used, last_of, Rising}
use Rattle.walk.proofs.Rules.{Valid, IsEntry, valid_true, step_sound, step_found}
use Rattle.walk.proofs.Walks.{walk_end, walk_step, cursor}

pub data Chain (f : ℕ → ℕ) (n : ℕ) : ℕ → ℕ → ℕ → List Entry → Type 0 where
  done : {s last : ℕ} → Chain f n s 0 last []
  link : {s left last : ℕ} {e : Entry} {es : List Entry} → entry_at f n s ≡ e → IsEntry f (cursor s left last) e
      → Chain f n (s + slots_of e.length) (left - slots_of e.length) e.number es → Chain f n s left last (e ∷ es)

-- ---- chains and walks

pub walk_of : {f : ℕ → ℕ} {n s left last : ℕ} {es : List Entry} → Chain f n s left last es → walk f n (cursor s left last) ≡ Some es
walk_of {f} {n} {s} {left} {last} done = walk_end f n (cursor s 0 last) refl
walk_of {f} {n} {s} {left} {last} (link {e = e} at is c) =
    let q : step_at f n (cursor s left last) ≡ Some e = ap (step_of f (cursor s left last)) at ∙ step_found f (cursor s left last) e is in
    walk_step f n (cursor s left last) (omega (arith, slots_some e.length, is.fits)) ∙ rw q (ap (more e) (walk_of c))

more_some : (e : Entry) (w : Option (List Entry)) (es : List Entry) → more e w ≡ Some es → (ks : List Entry) × (es ≡ e ∷ ks) × (w ≡ Some ks)
more_some e None es q = never (cc)
more_some e (Some ks) es q = (ks, (cc), refl)

on_some : (x : Option Entry) (k : Entry → Option (List Entry)) (es : List Entry) → on_found x k ≡ Some es
    → (e : Entry) × (ks : List Entry) × (x ≡ Some e) × (es ≡ e ∷ ks) × (k e ≡ Some ks)
on_some None k es q = never (cc)
on_some (Some e) k es q = let w = more_some e (k e) es q in (e, w.0, refl, w.1, w.2)

-- a walk that finds entries took a first step and went on
walk_some : (f : ℕ → ℕ) (n : ℕ) (c : Cursor) (es : List Entry) → 0 < c.left → walk f n c ≡ Some es
    → (e : Entry) × (ks : List Entry) × (step_at f n c ≡ Some e) × (es ≡ e ∷ ks) × (walk f n (pass c e) ≡ Some ks)
walk_some f n c es l q = on_some (step_at f n c) (λ e. walk f n (pass c e)) es (sym (walk_step f n c l) ∙ q)

walk_none : (f : ℕ → ℕ) (n s left last : ℕ) (es : List Entry) → left ≤ 0 → walk f n (cursor s left last) ≡ Some es → es ≡ []
walk_none f n s left last es l q = (cc (walk_end f n (cursor s left last) (omega arith)))

pub chain_of : (es : List Entry) (f : ℕ → ℕ) (n s left last : ℕ) → walk f n (cursor s left last) ≡ Some es → Chain f n s left last es
chain_of [] f n s left last q =
    ⊎_elim
    (λ l.
    let w = walk_some f n (cursor s left last) [] l q in
    never (cc w.3))
    (λ l. let z : left ≡ 0 = omega arith in rw z done)
    (lt_or_le 0 left)
chain_of (x ∷ es) f n s left last q =
    ⊎_elim
    (λ l.
    let w = walk_some f n (cursor s left last) (x ∷ es) l q in
    let hx : w.0 ≡ x = (cc w.3) in
    let hk : w.1 ≡ es = (cc w.3) in
    let rest : walk f n (pass (cursor s left last) x) ≡ Some es =
    ap (λ (e : Entry). walk f n (pass (cursor s left last) e)) (sym hx) ∙ w.4 ∙ ap Some hk in
    let y = step_sound f (cursor s left last) (entry_at f n s) x (w.2 ∙ ap Some hx) in
    link y.0 (rw y.0 at y.1) (chain_of es f n (s + slots_of x.length) (left - slots_of x.length) x.number rest))
    (λ l. never (cc (walk_none f n s left last (x ∷ es) l q)))
    (lt_or_le 0 left)

-- ---- what a chain says of its entries

pub chain_used : {f : ℕ → ℕ} {n s left last : ℕ} {es : List Entry} → Chain f n s left last es → left ≡ slots_used es
chain_used done = refl
chain_used (link {e = e} at is c) = let u = chain_used c in omega (arith, is.fits, u)

pub chain_rising : {f : ℕ → ℕ} {n s left last : ℕ} {es : List Entry} → Chain f n s left last es → Rising last es
chain_rising done = tt
chain_rising (link at is c) = (is.rising, valid_true _ is.valid, chain_rising c)

-- every entry is valid and starts in one of the slots
pub record InRing (n : ℕ) (e : Entry) : Type 0 where
  pub slot : e.slot < n
  pub valid : Valid e

abbrev pub AllInRing : ℕ → List Entry → Type 0
AllInRing n [] = Unit {0}
AllInRing n (e ∷ es) = InRing n e × AllInRing n es

pub chain_inside : {f : ℕ → ℕ} {n s left last : ℕ} {es : List Entry} → 0 < n → Chain f n s left last es → AllInRing n es
chain_inside z done = tt
chain_inside {f} {n} {s} z (link {e = e} at is c) =
    let t : s % n ≡ e.slot = ap (λ e. e.slot) at in
    let m : s % n < n = mod-lt s z in
    (record { slot = omega arith; valid = is.valid }, chain_inside z c)

-- an entry takes a slot at least
pub used_length : (es : List Entry) → length es ≤ slots_used es
used_length [] = omega arith
used_length (e ∷ es) = omega (arith, slots_some e.length, used_length es)

pub used_append : (es ks : List Entry) → slots_used (es ++ ks) ≡ slots_used es + slots_used ks
used_append [] ks = omega arith
used_append (e ∷ es) ks = omega (arith, used_append es ks)

-- ---- chains joined and cut

-- a chain with another behind its tail
pub chain_join : {f : ℕ → ℕ} {n s left last : ℕ} {es : List Entry} (d : ℕ) (ks : List Entry)
    → Chain f n s left last es → Chain f n (s + left) d (last_of last es) ks → Chain f n s (left + d) last (es ++ ks)
chain_join {f} {n} {s} {left} {last} d ks done k = rw zero-add (rw add-zero at k)
chain_join {f} {n} {s} {left} {last} d ks (link {e = e} {es = es} at is c) k =
    let u = slots_of e.length in
    let h : u ≤ left = is.fits in
    let x : s + left ≡ s + u + (left - u) = omega arith in
    let y : left - u + d ≡ left + d - u = omega arith in
    link {left = left + d} at
    (record { valid = is.valid; rising = is.rising; fits = omega arith; filled = is.filled })
    (rw y at (chain_join d ks c (rw x at k)))

-- a chain without its first entries
pub chain_cut : {f : ℕ → ℕ} {n s left last : ℕ} (es ks : List Entry) → Chain f n s left last (es ++ ks)
    → Chain f n (s + slots_used es) (left - slots_used es) (last_of last es) ks
chain_cut [] ks c = rw (add-zero, sub-zero) c
chain_cut {f} {n} {s} {left} {last} (e ∷ es) ks (link at is c) =
    let u = slots_of e.length in
    let x : s + u + slots_used es ≡ s + (u + slots_used es) = omega arith in
    let y : left - u - slots_used es ≡ left - (u + slots_used es) = omega arith in
    rw (x, y) at (chain_cut {s = s + u} es ks c)

-- a chain rises from any lower number
pub chain_from : {f : ℕ → ℕ} {n s left last : ℕ} {es : List Entry} (low : ℕ) → low ≤ last → Chain f n s left last es → Chain f n s left low es
chain_from low l done = done
chain_from {left = left} low l (link at is c) =
    link {left = left} {last = low} at (record { valid = is.valid; rising = omega (arith, is.rising); fits = is.fits; filled = is.filled }) c
