-- Bytes laid over: the loops over the bytes and over the blocks of a part, and the parts of a fill's buffer. Document 01, "Moves", paragraph "Fill".
use Prim.Native.Nat.{ℕ, zero, suc, ◌+◌, ◌-◌, ◌≤◌, ◌<◌}
use mathlib.Core.Path.{◌≡◌, refl, sym, ap, ◌∙◌}
use mathlib.Core.List.{List, [], ◌∷◌, ◌++◌, append_assoc, append-nil}
use native.Mathlib.Nat.{add-zero, add-suc, suc-add, sub-zero, le_of_suc-le-suc}
use native.Mathlib.Numerals.{add-one}
use native.Mathlib.Omega.{arith}
use borrow.Author.Tests.{lt-ltb, le-ltb}
use borrow.Rule.Slice.PartMut.{mid_of, post_of, put_mid, same_len_mid, Post-is, mid_len}
use lib.ListN.{length, take, drop, get_or, set, replicate, length-set, length-append, length-drop}
use lib.Seq.{take-suc, take-add, take_at, take-length, drop_at, drop-cons, drop-length, set_at, get_or_at, length-take-le}
use Rattle.walk.specs.Walk.{Write}
use Rattle.shore.specs.Cover.{byte_over}
use Rattle.rules.specs.Fill.{filled_from, filled}
use Rattle.fill.specs.Overlay.{overlaid}

-- ---- bytes laid over

-- other writes lay the same where each place has the same byte
pub over_same : (ws vs : List Write) (p : ℕ) (bs : List ℕ) → ((q b : ℕ) → p ≤ q → q < p + length bs → byte_over q b ws ≡ byte_over q b vs) → overlaid ws p bs ≡ overlaid vs p bs
unfolding overlaid
over_same ws vs p [] k = refl
over_same ws vs p (b ∷ bs) k =
    ap (λ x. x ∷ overlaid ws (suc p) bs) (k p b (omega arith) (omega arith))
    ∙ ap (◌∷◌ (byte_over p b vs)) (over_same ws vs (suc p) bs (λ q c h l. k q c (omega arith) (omega arith)))

pub over_none : (p : ℕ) (bs : List ℕ) → overlaid [] p bs ≡ bs
unfolding overlaid byte_over
over_none p [] = refl
over_none p (b ∷ bs) = ap (◌∷◌ b) (over_none (suc p) bs)

module _ (ws : List Write) where
  over_length : (p : ℕ) (bs : List ℕ) → length (overlaid ws p bs) ≡ length bs
  unfolding overlaid
  over_length p [] = refl
  over_length p (b ∷ bs) = ap suc (over_length (suc p) bs)

  over_append : (p : ℕ) (bs cs : List ℕ) → overlaid ws p (bs ++ cs) ≡ overlaid ws p bs ++ overlaid ws (p + length bs) cs
  unfolding overlaid
  over_append p [] cs = rw add-zero
  over_append p (b ∷ bs) cs = ap (◌∷◌ (byte_over p b ws)) (over_append (suc p) bs cs ∙ rw (suc-add, add-suc))

  -- ---- the loop: the front is laid over, the rest is as it was

  pub record Laying (from : ℕ) (out₀ out : List ℕ) (k : ℕ) : Type 0 where
    pub upto : k ≤ length out₀
    pub same : length out ≡ length out₀
    pub front : out ≡ overlaid ws from (take k out₀) ++ drop k out₀

  module _ (from : ℕ) (out₀ : List ℕ) where
    pub lay_start : Laying from out₀ out₀ 0
    unfolding overlaid
    lay_start = record { upto = omega arith; same = refl; front = refl }

    module _ (out : List ℕ) (k : ℕ) (o : Laying from out₀ out k) where
      long : length (overlaid ws from (take k out₀)) ≡ k
      long = over_length from (take k out₀) ∙ length-take-le k out₀ o.upto

      lay_read : k < length out₀ → get_or out k 0 ≡ get_or out₀ k 0
      lay_read h = rw (o.front, drop-cons out₀ k 0) (get_or_at (overlaid ws from (take k out₀)) (get_or out₀ k 0) (drop (suc k) out₀) 0 k long)

      more : (bs : List ℕ) → overlaid ws from (take k out₀ ++ bs) ≡ overlaid ws from (take k out₀) ++ overlaid ws (from + k) bs
      more bs = over_append from (take k out₀) bs ∙ ap (λ n. overlaid ws from (take k out₀) ++ overlaid ws (from + n) bs) (length-take-le k out₀ o.upto)

      -- b is what the search found over the byte that stood there
      pub lay_next : (b : ℕ) → k < length out₀ → b ≡ byte_over (from + k) (get_or out k 0) ws → Laying from out₀ (set out k b) (k + 1)
      unfolding overlaid
      lay_next b h e =
          let u : b ≡ byte_over (from + k) (get_or out₀ k 0) ws = e ∙ ap (λ x. byte_over (from + k) x ws) (lay_read h) in
          let one : overlaid ws from (take (suc k) out₀) ≡ overlaid ws from (take k out₀) ++ b ∷ [] =
          ap (overlaid ws from) (take-suc out₀ k 0 h) ∙ more (get_or out₀ k 0 ∷ []) ∙ ap (λ x. overlaid ws from (take k out₀) ++ x ∷ []) (sym u) in
          record {
            upto = omega arith;
            same = length-set out k b ∙ o.same;
            front =
                ap (λ l. set l k b) (o.front ∙ ap (◌++◌ (overlaid ws from (take k out₀))) (drop-cons out₀ k 0 h))
                ∙ set_at (overlaid ws from (take k out₀)) (get_or out₀ k 0) (drop (suc k) out₀) b k long
                ∙ sym (append_assoc (overlaid ws from (take k out₀)) (b ∷ []) (drop (suc k) out₀))
                ∙ ap (◌++ drop (suc k) out₀) (sym one) ∙ rw add-one;
          }

      -- ys came back in the part from k up to e that was lent on
      pub lay_part : (e : ℕ) (ys : List ℕ) → k ≤ e → e ≤ length out₀ → ys ≡ overlaid ws (from + k) (mid_of k (e - k) out) → Laying from out₀ (put_mid k (e - k) out ys) e
      lay_part e ys h l y =
          let front : List ℕ = overlaid ws from (take k out₀) in
          let rest : drop k out ≡ drop k out₀ = ap (drop k) o.front ∙ drop_at front (drop k out₀) k long in
          let z : e ≡ k + (e - k) = omega arith in
          let cut : take e out₀ ≡ take k out₀ ++ take (e - k) (drop k out₀) = ap (λ n. take n out₀) z ∙ take-add k (e - k) out₀ in
          let w : ys ≡ overlaid ws (from + k) (take (e - k) (drop k out₀)) = y ∙ ap (λ d. overlaid ws (from + k) (take (e - k) d)) rest in
          let whole : overlaid ws from (take e out₀) ≡ front ++ ys = ap (overlaid ws from) cut ∙ more (take (e - k) (drop k out₀)) ∙ ap (◌++◌ front) (sym w) in
          record {
            upto = l;
            same = same_len_mid k (e - k) out ys (ap length y ∙ over_length (from + k) (mid_of k (e - k) out)) ∙ o.same;
            front =
                ap (λ f. f ++ (ys ++ post_of k (e - k) out)) (ap (take k) o.front ∙ take_at front (drop k out₀) k long)
                ∙ ap (λ d. front ++ (ys ++ drop (e - k) d)) rest ∙ ap (λ d. front ++ (ys ++ d)) (Post-is k e out₀ h)
                ∙ sym (append_assoc front ys (drop e out₀)) ∙ ap (λ f. f ++ drop e out₀) (sym whole);
          }

      pub lay_done : length out₀ ≤ k → out ≡ overlaid ws from out₀
      lay_done h =
          let u = o.upto in
          let e : k ≡ length out₀ = omega arith in
          o.front ∙ rw (e, take-length, drop-length, append-nil)

-- ---- a fill's buffer: the fetched bytes laid over, behind them zeros laid over, and the rest as it was

module _ (ws : List Write) (from g r : ℕ) where
  rest_same : (i : ℕ) (bs : List ℕ) → r ≤ i → filled_from ws from g r i bs ≡ bs
  unfolding filled_from
  rest_same i [] h = refl
  rest_same i (b ∷ bs) h = rw (le-ltb i r h) (ap (◌∷◌ b) (rest_same (suc i) bs (omega arith)))

  -- from place i on, m places before r
  behind : (m i : ℕ) (bs : List ℕ) → g ≤ i → r ≡ i + m → m ≤ length bs → filled_from ws from g r i bs ≡ overlaid ws (from + i) (replicate m 0) ++ drop m bs
  unfolding filled_from overlaid
  behind zero i bs h e l = rest_same i bs (omega arith)
  behind (suc m) i [] h e l = absurd (let k : suc m ≤ 0 = l in omega arith)
  behind (suc m) i (b ∷ bs) h e l =
      let k : i < r = omega arith in
      rw (lt-ltb i r k, le-ltb i g h)
      (ap (◌∷◌ (byte_over (from + i) 0 ws)) (behind m (suc i) bs (omega arith) (omega arith) (le_of_suc-le-suc l) ∙ ap (λ p. overlaid ws p (replicate m 0) ++ drop m bs) (add-suc from i)))

  -- from place i on, m places before g
  before : (m i : ℕ) (bs : List ℕ) → g ≡ i + m → g ≤ r → r - i ≤ length bs
      → filled_from ws from g r i bs ≡ overlaid ws (from + i) (take m bs) ++ (overlaid ws (from + g) (replicate (r - g) 0) ++ drop (r - i) bs)
  unfolding filled_from overlaid
  before zero i bs e h l =
      let z : i ≡ g = omega arith in
      behind (r - g) i bs (omega arith) (omega arith) (omega arith) ∙ rw z
  before (suc m) i [] e h l = absurd (let k : r - i ≤ 0 = l in omega arith)
  before (suc m) i (b ∷ bs) e h l =
      let k : i < r = omega arith in
      let j : i < g = omega arith in
      let d : r - i ≡ suc (r - suc i) = omega arith in
      let o : r - suc i ≤ length bs = (let q : r - i ≤ suc (length bs) = l in omega arith) in
      rw (lt-ltb i r k, lt-ltb i g j, d)
      (ap (◌∷◌ (byte_over (from + i) b ws)) (before m (suc i) bs (omega arith) h o
      ∙ ap (λ p. overlaid ws p (take m bs) ++ (overlaid ws (from + g) (replicate (r - g) 0) ++ drop (r - suc i) bs)) (add-suc from i)))

  module _ (l : List ℕ) (h : g ≤ r) (k : r ≤ length l) where
    filled_parts : filled ws from g r l ≡ overlaid ws from (take g l) ++ (overlaid ws (from + g) (replicate (r - g) 0) ++ drop r l)
    filled_parts = before g 0 l (omega arith) h (omega arith) ∙ rw (add-zero, sub-zero)

    -- what came back in the two parts that were lent on, said of the whole
    pub parts_back : (ys zs : List ℕ) → ys ≡ overlaid ws from (mid_of 0 (g - 0) l)
        → zs ≡ overlaid ws (from + g) (replicate (length (mid_of g (r - g) (put_mid 0 (g - 0) l ys))) 0)
        → put_mid g (r - g) (put_mid 0 (g - 0) l ys) zs ≡ filled ws from g r l
    parts_back ys zs a b =
        let one : List ℕ = put_mid 0 (g - 0) l ys in
        let y : ys ≡ overlaid ws from (take g l) = a ∙ rw sub-zero in
        let n : length ys ≡ g = ap length y ∙ over_length ws from (take g l) ∙ length-take-le g l (omega arith) in
        let w : one ≡ ys ++ drop g l = rw sub-zero in
        let long : length one ≡ length l = ap length w ∙ length-append ys (drop g l) ∙ omega (arith, length-drop g l) in
        let z : zs ≡ overlaid ws (from + g) (replicate (r - g) 0) = b ∙ ap (λ m. overlaid ws (from + g) (replicate m 0)) (mid_len g r one (omega arith)) in
        let front : take g one ≡ ys = ap (take g) w ∙ take_at ys (drop g l) g n in
        let last : post_of g (r - g) one ≡ drop r l = ap (λ m. drop (r - g) (drop g m)) w ∙ ap (drop (r - g)) (drop_at ys (drop g l) g n) ∙ Post-is g r l h in
        ap (λ m. m ++ (zs ++ post_of g (r - g) one)) (front ∙ y)
        ∙ ap (λ m. overlaid ws from (take g l) ++ (m ++ post_of g (r - g) one)) z
        ∙ ap (λ m. overlaid ws from (take g l) ++ (overlaid ws (from + g) (replicate (r - g) 0) ++ m)) last
        ∙ sym filled_parts
