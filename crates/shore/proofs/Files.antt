-- Laws of files. Two things tell all of a file: its length, and its byte at each place (0 past the end).
use Prim.Native.Nat.{ℕ, zero, suc, ◌+◌, ◌-◌, ◌≤◌, ◌<◌, max}
use mathlib.Core.Path.{◌≡◌, refl, sym, ap, ◌∙◌}
use mathlib.Core.Bool.{Bool, true, false}
use mathlib.Core.List.{List, [], ◌∷◌, ◌++◌}
use native.Mathlib.Omega.{arith}
use borrow.Author.Tests.{eqb-true, eqb-false, eq-eqb, ne_eqb}
use lib.ListN.{length, get_or}
use lib.Seq.{ext_get_or}
use lib.Dec.{eqb}
use Rattle.layout.proofs.Tests.{never}
use Rattle.state.specs.Lists.{pick, any}
use Rattle.shore.specs.File.{Put, put, lay}

-- ---- what puts show: the byte at i, where it was d before; the end, where it was n before; whether i is one of their places

unfoldable pub look : List Put → ℕ → ℕ → ℕ
look [] i d = d
look (q ∷ qs) i d = look qs i (pick (eqb q.place i) q.byte d)

unfoldable pub top : List Put → ℕ → ℕ
top [] n = n
top (q ∷ qs) n = top qs (max n (suc q.place))

abbrev pub touches : ℕ → List Put → Bool
touches i qs = any (λ q. eqb q.place i) qs

-- ---- one byte

pub put_length : (f : List ℕ) (i b : ℕ) → length (put f i b) ≡ max (length f) (suc i)
unfolding put
put_length [] zero b = omega arith
put_length [] (suc i) b = ap suc (put_length [] i b) ∙ omega arith
put_length (x ∷ f) zero b = omega arith
put_length (x ∷ f) (suc i) b = ap suc (put_length f i b) ∙ omega arith

suc_test : (i j : ℕ) (t : Bool) → eqb i j ≡ t → eqb (suc i) (suc j) ≡ t
suc_test i j true e = eq-eqb (suc i) (suc j) (ap suc (eqb-true i j e))
suc_test i j false e = ne_eqb (suc i) (suc j) (λ z. eqb-false i j e (omega arith))

same_suc : (i j : ℕ) → eqb (suc i) (suc j) ≡ eqb i j
same_suc i j = suc_test i j (eqb i j) refl

pub put_get : (f : List ℕ) (i b j : ℕ) → get_or (put f i b) j 0 ≡ pick (eqb i j) b (get_or f j 0)
unfolding put
put_get [] zero b zero = refl
put_get [] zero b (suc j) = rw (ne_eqb zero (suc j) (λ z. omega arith))
put_get [] (suc i) b zero = rw (ne_eqb (suc i) zero (λ z. omega arith))
put_get [] (suc i) b (suc j) = put_get [] i b j ∙ rw (same_suc i j)
put_get (x ∷ f) zero b zero = refl
put_get (x ∷ f) zero b (suc j) = rw (ne_eqb zero (suc j) (λ z. omega arith))
put_get (x ∷ f) (suc i) b zero = rw (ne_eqb (suc i) zero (λ z. omega arith))
put_get (x ∷ f) (suc i) b (suc j) = put_get f i b j ∙ rw (same_suc i j)

-- ---- puts laid

pub lay_length : (qs : List Put) (f : List ℕ) → length (lay f qs) ≡ top qs (length f)
unfolding lay top
lay_length [] f = refl
lay_length (q ∷ qs) f = lay_length qs (put f q.place q.byte) ∙ ap (top qs) (put_length f q.place q.byte)

pub lay_get : (qs : List Put) (f : List ℕ) (i : ℕ) → get_or (lay f qs) i 0 ≡ look qs i (get_or f i 0)
unfolding lay look
lay_get [] f i = refl
lay_get (q ∷ qs) f i = lay_get qs (put f q.place q.byte) i ∙ ap (look qs i) (put_get f q.place q.byte i)

pub lay_append : (ps qs : List Put) (f : List ℕ) → lay f (ps ++ qs) ≡ lay (lay f ps) qs
unfolding lay
lay_append [] qs f = refl
lay_append (p ∷ ps) qs f = lay_append ps qs (put f p.place p.byte)

pub look_append : (ps qs : List Put) (i d : ℕ) → look (ps ++ qs) i d ≡ look qs i (look ps i d)
unfolding look
look_append [] qs i d = refl
look_append (p ∷ ps) qs i d = look_append ps qs i (pick (eqb p.place i) p.byte d)

pub top_append : (ps qs : List Put) (n : ℕ) → top (ps ++ qs) n ≡ top qs (top ps n)
unfolding top
top_append [] qs n = refl
top_append (p ∷ ps) qs n = top_append ps qs (max n (suc p.place))

pub top_max : (qs : List Put) (n : ℕ) → top qs n ≡ max n (top qs 0)
unfolding top
top_max [] n = omega arith
top_max (q ∷ qs) n = top_max qs (max n (suc q.place)) ∙ omega (arith, top_max qs (max 0 (suc q.place)))

-- ---- puts at a place either settle the byte or leave it

pub touched_settles : (qs : List Put) (i : ℕ) → touches i qs ≡ true → (d e : ℕ) → look qs i d ≡ look qs i e
unfolding look
touched_settles [] i t d e = never (cc)
touched_settles (q ∷ qs) i t d e = at (eqb q.place i) t (λ z. touched_settles qs i z d e)
  where
    at : (b : Bool) → pick b true (touches i qs) ≡ true → (touches i qs ≡ true → look qs i d ≡ look qs i e)
        → look qs i (pick b q.byte d) ≡ look qs i (pick b q.byte e)
    at true z k = refl
    at false z k = k z

pub untouched_leaves : (qs : List Put) (i : ℕ) → touches i qs ≡ false → (d : ℕ) → look qs i d ≡ d
unfolding look
untouched_leaves [] i t d = refl
untouched_leaves (q ∷ qs) i t d = at (eqb q.place i) t (λ z. untouched_leaves qs i z d)
  where
    at : (b : Bool) → pick b true (touches i qs) ≡ false → (touches i qs ≡ false → look qs i d ≡ d) → look qs i (pick b q.byte d) ≡ d
    at true z k = never (cc)
    at false z k = k z

pub touched_below : (qs : List Put) (i : ℕ) → touches i qs ≡ true → i < top qs 0
unfolding top
touched_below [] i t = never (cc)
touched_below (q ∷ qs) i t = at (eqb q.place i) refl t (touched_below qs i)
  where
    at : (b : Bool) → eqb q.place i ≡ b → pick b true (touches i qs) ≡ true → (touches i qs ≡ true → i < top qs 0) → i < top qs (max 0 (suc q.place))
    at true e z k = omega (arith, top_max qs (max 0 (suc q.place)), eqb-true q.place i e)
    at false e z k = omega (arith, top_max qs (max 0 (suc q.place)), k z)

-- the last place below the top is one of theirs
pub top_touched : (qs : List Put) (n : ℕ) → top qs 0 ≡ suc n → touches n qs ≡ true
unfolding top
top_touched [] n h = absurd (omega arith)
top_touched (q ∷ qs) n h = at (eqb q.place n) refl (top_touched qs n)
  where
    at : (b : Bool) → eqb q.place n ≡ b → (top qs 0 ≡ suc n → touches n qs ≡ true) → pick b true (touches n qs) ≡ true
    at true e k = refl
    at false e k = k (omega (arith, top_max qs (max 0 (suc q.place)), eqb-false q.place n e))

-- ---- puts that show alike lay alike

pub record Alike (ps qs : List Put) : Type 0 where
  pub looks : (i d : ℕ) → look ps i d ≡ look qs i d
  pub tops : top ps 0 ≡ top qs 0

pub alike_lay : (ps qs : List Put) → Alike ps qs → (f : List ℕ) → lay f ps ≡ lay f qs
alike_lay ps qs s f =
    ext_get_or 0 (lay f ps) (lay f qs)
    (lay_length ps f ∙ top_max ps (length f) ∙ ap (max (length f)) s.tops ∙ sym (top_max qs (length f)) ∙ sym (lay_length qs f))
    (λ i _. lay_get ps f i ∙ s.looks i (get_or f i 0) ∙ sym (lay_get qs f i))

-- where they touch the same places with the same bytes, they are alike
module _ (ps qs : List Put) (same : (i : ℕ) → touches i ps ≡ touches i qs) where
  top_le : (n : ℕ) → top ps 0 ≡ n → top ps 0 ≤ top qs 0
  top_le zero e = omega arith
  top_le (suc n) e = let t = touched_below qs n (sym (same n) ∙ top_touched ps n e) in omega arith

  pub tops_le : top ps 0 ≤ top qs 0
  tops_le = top_le (top ps 0) refl

pub alike : (ps qs : List Put) → ((i : ℕ) → touches i ps ≡ touches i qs) → ((i : ℕ) → touches i ps ≡ true → (d : ℕ) → look ps i d ≡ look qs i d) → Alike ps qs
alike ps qs same looks =
    record {
      looks = λ i d. at i d (touches i ps) refl;
      tops = let a = tops_le ps qs same in let b = tops_le qs ps (λ i. sym (same i)) in omega arith;
    }
  where
    at : (i d : ℕ) (b : Bool) → touches i ps ≡ b → look ps i d ≡ look qs i d
    at i d true e = looks i e d
    at i d false e = untouched_leaves ps i e d ∙ sym (untouched_leaves qs i (sym (same i) ∙ e) d)
