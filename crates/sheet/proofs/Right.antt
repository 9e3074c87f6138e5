-- The pieces are what the paper asks for: they cover exactly the covered bytes, ascending, 1 to 4,096 bytes each, of one key each, and no
-- piece could have gone on into the next.
use Prim.Native.Nat.{ℕ, zero, suc, ◌+◌, ◌≤◌, ◌<◌}
use native.Mathlib.Omega.{arith}
use mathlib.Core.Path.{◌≡◌, refl, sym, ap, ◌∙◌, subst}
use mathlib.Core.Bool.{Bool, true, false}
use mathlib.Core.Logic.{⊎_elim}
use mathlib.Core.List.{List, [], ◌∷◌}
use borrow.Author.Tests.{ltb-true, eqb-true}
use lib.Dec.{ltb, eqb}
use Rattle.layout.proofs.Tests.{both_left, both_right, lt_or_le}
use Rattle.state.specs.Lists.{pick}
use Rattle.sheet.specs.declared.Piece.{Piece}
use Rattle.sheet.specs.Sheet.{piece_size, piece, goes_on, join, gather}
use Rattle.sheet.specs.Places.{is_short, grow}

-- p doesn't go on the last of the pieces before
abbrev pub Apart : List Piece → ℕ → ℕ → Type 0
Apart [] p key = Unit {0}
Apart (r ∷ rs) p key = goes_on is_short r p key ≡ false

-- q is the last piece below e
pub record Last (key : ℕ → ℕ) (e : ℕ) (q : Piece) : Type 0 where
  pub some : 0 < q.size
  pub most : q.size ≤ piece_size
  pub ends : q.start + q.size ≤ e
  pub keyed : 0 < q.key
  pub held : (x : ℕ) → q.start ≤ x → x < q.start + q.size → key x ≡ q.key
  pub bare : (x : ℕ) → q.start + q.size ≤ x → x < e → key x ≡ 0

-- the pieces below e, last first
abbrev pub AreThose : (ℕ → ℕ) → ℕ → List Piece → Type 0
AreThose key e [] = (x : ℕ) → x < e → key x ≡ 0
AreThose key e (q ∷ qs) = Last key e q × Apart qs q.start q.key × AreThose key q.start qs

module _ (c : ℕ → ℕ) (p : ℕ) where
  upto : (P : ℕ → Type 0) (x : ℕ) → x < suc p → (x < p → P x) → P p → P x
  upto P x h f g = ⊎_elim f (λ k. let e : p ≡ x = omega arith in subst P e g) (lt_or_le x p)

  idle : (qs : List Piece) → c p ≡ 0 → AreThose c p qs → AreThose c (suc p) qs
  idle [] z g = λ x h. upto (λ y. c y ≡ 0) x h (g x) z
  idle (q ∷ qs) z g = (
    record {
      some = g.0.some;
      most = g.0.most;
      ends = omega (arith, g.0.ends);
      keyed = g.0.keyed;
      held = g.0.held;
      bare = λ x a h. upto (λ y. c y ≡ 0) x h (g.0.bare x a) z;
    },
    g.1,
    g.2,
  )

  module _ (h : ℕ) (e : c p ≡ suc h) where
    alone : Last c (suc p) (piece p 1 (suc h))
    alone = record {
      some = omega arith;
      most = omega arith;
      ends = omega arith;
      keyed = omega arith;
      held = λ x a b. let i : p ≡ x = omega arith in ap c (sym i) ∙ e;
      bare = λ x a b. absurd (let k : x < x = omega arith in omega arith);
    }

    joined : (q : Piece) (qs : List Piece) (b : Bool) → goes_on is_short q p (suc h) ≡ b → AreThose c p (q ∷ qs)
        → AreThose c (suc p) (pick b (piece q.start (q.size + 1) q.key ∷ qs) (piece p 1 (suc h) ∷ q ∷ qs))
    unfolding goes_on
    joined q qs false j g = (alone, j, g)
    joined q qs true j g =
        let t = both_right (eqb (q.start + q.size) p) _ j in
        let at : q.start + q.size ≡ p = eqb-true _ _ (both_left _ _ j) in
        let lt : q.size < piece_size = ltb-true _ _ (both_left _ _ t) in
        let k : q.key ≡ suc h = eqb-true _ _ (both_right (ltb q.size piece_size) _ t) in (
          record {
            some = omega arith;
            most = omega arith;
            ends = omega arith;
            keyed = g.0.keyed;
            held = λ z a b. upto (λ y. q.start ≤ y → c y ≡ q.key) z (omega arith) (λ l m. g.0.held z m (omega arith)) (λ m. e ∙ sym k) a;
            bare = λ z a b. absurd (let l : z < z = omega arith in omega arith);
          },
          g.1,
          g.2,
        )

  stepped : (k : ℕ) (qs : List Piece) → c p ≡ k → AreThose c p qs → AreThose c (suc p) (join is_short k p qs)
  stepped zero qs e g = idle qs e g
  stepped (suc h) [] e g = (alone h e, tt, g)
  stepped (suc h) (q ∷ qs) e g = joined h e q qs (goes_on is_short q p (suc h)) refl g

pub right : (c : ℕ → ℕ) (e : ℕ) → AreThose c e (grow c e)
unfolding gather
right c zero = λ x h. absurd (let k : x < 0 = h in omega arith)
right c (suc p) = stepped c p (c p) (grow c p) refl (right c p)
