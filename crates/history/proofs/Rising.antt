-- Writes in the order of their numbers: what is kept of them stays in order, and a number tells a write.
use Prim.Native.Nat.{ℕ, zero, suc, ◌≤◌, ◌<◌}
use mathlib.Core.Path.{◌≡◌, refl}
use mathlib.Core.Bool.{Bool, true, false}
use mathlib.Core.List.{List, [], ◌∷◌, map}
use native.Mathlib.Omega.{arith}
use borrow.Author.Tests.{ne_eqb}
use lib.ListN.{take, drop}
use Rattle.layout.proofs.Tests.{true_not_false}
use Rattle.walk.specs.declared.Entry.{Entry}
use Rattle.walk.specs.Walk.{Rising, Write, write_of}
use Rattle.state.specs.Lists.{pick, those}
use Rattle.state.proofs.Finding.{Each, each_by}
use Rattle.history.specs.Tale.{among, numbers_of}

abbrev pub InOrder : ℕ → List Write → Type 0
InOrder last [] = Unit {0}
InOrder last (w ∷ ws) = (last < w.number) × InOrder w.number ws

pub rising_order : (f : ℕ → ℕ) (last : ℕ) (es : List Entry) → Rising last es → InOrder last (map (write_of f) es)
rising_order f last [] o = tt
rising_order f last (e ∷ es) o = (o.0, rising_order f e.number es o.2)

lower : (a b : ℕ) (ws : List Write) → a ≤ b → InOrder b ws → InOrder a ws
lower a b [] h o = tt
lower a b (w ∷ ws) h o = (let l = o.0 in omega arith, o.1)

-- all are above what they rise from
pub order_above : (last : ℕ) (ws : List Write) → InOrder last ws → Each (λ w. last < w.number) ws
order_above last [] o = tt
order_above last (w ∷ ws) o = (o.0, each_by _ _ ws (λ v h. let l = o.0 in omega arith) (order_above w.number ws o.1))

pub order_keep : (q : Write → Bool) (last : ℕ) (ws : List Write) → InOrder last ws → InOrder last (those q ws)
order_keep q last [] o = tt
order_keep q last (w ∷ ws) o = at (q w) (order_keep q w.number ws o.1)
  where
    at : (b : Bool) → InOrder w.number (those q ws) → InOrder last (pick b (w ∷ those q ws) (those q ws))
    at true k = (o.0, k)
    at false k = lower last w.number (those q ws) (let l = o.0 in omega arith) k

-- a number above all is none of theirs
absent : (n : ℕ) (ws : List Write) → Each (λ w. n < w.number) ws → among n (numbers_of ws) ≡ false
absent n [] o = refl
absent n (w ∷ ws) o = rw (ne_eqb w.number n (λ e. let l = o.0 in omega arith)) (absent n ws o.1)

-- those behind the first m have other numbers than those
pub order_apart : (m last : ℕ) (ws : List Write) → InOrder last ws → Each (λ w. among w.number (numbers_of (take m ws)) ≡ false) (drop m ws)
order_apart zero last ws o = none ws
  where
    none : (vs : List Write) → Each (λ w. among w.number [] ≡ false) vs
    none [] = tt
    none (v ∷ vs) = (refl, none vs)
order_apart (suc m) last [] o = tt
order_apart (suc m) last (w ∷ ws) o = more (drop m ws) (above_drop m ws (order_above w.number ws o.1)) (order_apart m w.number ws o.1)
  where
    above_drop : (m : ℕ) (vs : List Write) → Each (λ v. w.number < v.number) vs → Each (λ v. w.number < v.number) (drop m vs)
    above_drop zero vs u = u
    above_drop (suc m) [] u = tt
    above_drop (suc m) (v ∷ vs) u = above_drop m vs u.1

    more : (vs : List Write) → Each (λ v. w.number < v.number) vs → Each (λ v. among v.number (numbers_of (take m ws)) ≡ false) vs
        → Each (λ v. among v.number (numbers_of (take (suc m) (w ∷ ws))) ≡ false) vs
    more [] u x = tt
    more (v ∷ vs) u x = (rw (ne_eqb w.number v.number (λ e. let l = u.0 in omega arith)) x.0, more vs u.1 x.1)

each_take_above : (n m : ℕ) (q : Write → Bool) (ws : List Write) → Each (λ w. n < w.number) ws → Each (λ w. n < w.number) (take m (those q ws))
each_take_above n zero q ws o = tt
each_take_above n (suc m) q [] o = tt
each_take_above n (suc m) q (w ∷ ws) o = at (q w) (each_take_above n m q ws o.1) (each_take_above n (suc m) q ws o.1)
  where
    at : (b : Bool) → Each (λ w. n < w.number) (take m (those q ws)) → Each (λ w. n < w.number) (take (suc m) (those q ws))
        → Each (λ w. n < w.number) (take (suc m) (pick b (w ∷ those q ws) (those q ws)))
    at true x y = (o.0, x)
    at false x y = y

-- of the first m that pass, a number tells one that passes
pub order_own : (q : Write → Bool) (m last : ℕ) (ws : List Write) → InOrder last ws → Each (λ w. among w.number (numbers_of (take m (those q ws))) ≡ true → q w ≡ true) ws
order_own q m last [] o = tt
order_own q m last (w ∷ ws) o = at (q w) refl m (λ j. order_own q j w.number ws o.1)
  where
    above : Each (λ v. w.number < v.number) ws
    above = order_above w.number ws o.1

    skip : (ns : List ℕ) (vs : List Write) → Each (λ v. w.number < v.number) vs → Each (λ v. among v.number ns ≡ true → q v ≡ true) vs → Each (λ v. among v.number (w.number ∷ ns) ≡ true → q v ≡ true) vs
    skip ns [] u x = tt
    skip ns (v ∷ vs) u x = ((λ z. x.0 (rw (ne_eqb w.number v.number (λ e. let l = u.0 in omega arith)) at z)), skip ns vs u.1 x.1)

    at : (b : Bool) → q w ≡ b → (m : ℕ) → ((j : ℕ) → Each (λ v. among v.number (numbers_of (take j (those q ws))) ≡ true → q v ≡ true) ws)
        → Each (λ v. among v.number (numbers_of (take m (pick b (w ∷ those q ws) (those q ws)))) ≡ true → q v ≡ true) (w ∷ ws)
    at true e zero h = ((λ z. e), h zero)
    at true e (suc m) h = ((λ z. e), skip (numbers_of (take m (those q ws))) ws above (h m))
    at false e m h = ((λ z. absurd (true_not_false _ z (absent w.number (take m (those q ws)) (each_take_above w.number m q ws above)))), h m)
