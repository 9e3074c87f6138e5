-- What is laid more than once: puts laid again last need not be laid first, and a byte that lands where puts will lie is of no account.
use Prim.Native.Nat.{ℕ, suc, ◌+◌, max}
use mathlib.Core.Path.{◌≡◌, refl, sym, ap, ◌∙◌, subst}
use mathlib.Core.Bool.{Bool, true, false}
use mathlib.Core.List.{List, [], ◌++◌}
use native.Mathlib.Omega.{arith}
use borrow.Author.Tests.{eqb-true}
use lib.ListN.{length, get_or}
use lib.Seq.{ext_get_or}
use lib.Dec.{eqb}
use Rattle.state.specs.Lists.{pick}
use Rattle.shore.specs.File.{Put, put, lay}
use Rattle.shore.proofs.Files.{look, top, touches, put_length, put_get, lay_length, lay_get, lay_append, top_max, touched_settles, untouched_leaves, touched_below}

-- one law carries all of it: ps, then qs, then ps again is qs, then ps
module _ (ps qs : List Put) (f : List ℕ) where
  same_byte : (i : ℕ) (b : Bool) → touches i ps ≡ b → (d : ℕ) → look ps i (look qs i (look ps i d)) ≡ look ps i (look qs i d)
  same_byte i true e d = touched_settles ps i e _ _
  same_byte i false e d = ap (λ x. look ps i (look qs i x)) (untouched_leaves ps i e d)

  pub band : lay (lay (lay f ps) qs) ps ≡ lay (lay f qs) ps
  band =
      ext_get_or 0 _ _
      (simp lay_length (omega (arith, top_max ps (top qs (top ps (length f))), top_max qs (top ps (length f)), top_max ps (length f), top_max ps (top qs (length f)), top_max qs (length f))))
      (λ i _. simp lay_get (same_byte i (touches i ps) refl (get_or f i 0)))

-- laid twice is laid once
pub twice : (ps : List Put) (f : List ℕ) → lay (lay f ps) ps ≡ lay f ps
unfolding lay
twice ps f = band ps [] f

-- Where r alone brings s to t, and t has q and r already, q and r bring s to t.
pub absorb : (s t : List ℕ) (q r : List Put) → lay s r ≡ t → lay t (q ++ r) ≡ t → lay s (q ++ r) ≡ t
absorb s t q r e g = lay_append q r s ∙ sym (band r q s) ∙ ap (λ x. lay (lay x q) r) e ∙ sym (lay_append q r t) ∙ g

-- a file that has q and r has r
pub has_end : (t : List ℕ) (q r : List Put) → lay t (q ++ r) ≡ t → lay t r ≡ t
has_end t q r e = ap (λ x. lay x r) (sym e ∙ lay_append q r t) ∙ twice r (lay t q) ∙ sym (lay_append q r t) ∙ e

-- and after w is laid on, it has r and w
pub has_more : (t : List ℕ) (r w : List Put) → lay t r ≡ t → lay (lay t w) (r ++ w) ≡ lay t w
has_more t r w e = lay_append r w (lay t w) ∙ band w r t ∙ ap (λ x. lay x w) e

-- ---- landings

-- one byte, right or wrong, that lands where the puts will lie
pub land_under : (ps : List Put) (f : List ℕ) (i b : ℕ) → touches i ps ≡ true → lay (put f i b) ps ≡ lay f ps
land_under ps f i b c =
    ext_get_or 0 _ _
    (simp (lay_length, put_length) (omega (arith, top_max ps (max (length f) (suc i)), top_max ps (length f), touched_below ps i c)))
    (λ j _. simp (lay_get, put_get) (at j (eqb i j) refl))
  where
    at : (j : ℕ) (t : Bool) → eqb i j ≡ t → look ps j (pick t b (get_or f j 0)) ≡ look ps j (get_or f j 0)
    at j true e = touched_settles ps j (subst (λ k. touches k ps ≡ true) (eqb-true i j e) c) _ _
    at j false e = refl
