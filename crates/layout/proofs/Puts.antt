-- Laws of storing round the end: a run may be cut in two, what was stored is read back, what was not stays.
use Prim.Native.Nat.{ℕ, zero, suc, ◌+◌, ◌/◌, ◌%◌, ◌≤◌, ◌<◌}
use mathlib.Core.Path.{◌≡◌, refl, sym, ap, ◌∙◌}
use mathlib.Core.Logic.{⊎_elim, ◌≢◌}
use mathlib.Core.List.{List, [], ◌∷◌, ◌++◌}
use native.Mathlib.Omega.{arith}
use native.Mathlib.Nat.{add-zero, suc-mod, div-add-mod', mul-le-mul_right, suc-mul}
use lib.ListN.{length, get_or, set, take, drop, length-set}
use lib.Seq.{get_or-set_same, get_or-set_other, sets, take_all}
use borrow.Rule.Slice.PartMut.{put_mid}
use Rattle.std.proofs.lemmas.Slice.{put_mid-paste}
use Rattle.std.proofs.lemmas.List.Edits.{sets-eq}
use Rattle.layout.specs.Sizes.{header_size, span_of}
use Rattle.layout.specs.Bytes.{Sized, flat, round, put, Same}
use Rattle.std.proofs.lemmas.Bool.{cases_lt}
use Rattle.layout.proofs.Views.{in_ring, run_place}

pub length_put : (bs r : List ℕ) (n p : ℕ) → length (put r n p bs) ≡ length r
unfolding put
length_put [] r n p = refl
length_put (b ∷ bs) r n p = length_put bs (set r (header_size + (p % span_of n)) b) n (suc p) ∙ length-set r (header_size + (p % span_of n)) b

-- another buffer of that length has as many slots
pub sized_as : {r : List ℕ} {n : ℕ} (r' : List ℕ) → Sized r n → length r' ≡ length r → Sized r' n
sized_as r' z e = record { low = z.low; high = z.high; len = e ∙ z.len }

-- a run cut in two is stored in two moves
pub put_append : (xs ys r : List ℕ) (n p : ℕ) → put r n p (xs ++ ys) ≡ put (put r n p xs) n (p + length xs) ys
unfolding put
put_append [] ys r n p = rw add-zero
put_append (x ∷ xs) ys r n p =
    put_append xs ys (set r (header_size + (p % span_of n)) x) n (suc p)
    ∙ (let e : suc p + length xs ≡ p + suc (length xs) = omega arith in rw e)

-- places that are the same byte
pub put_place : (bs r : List ℕ) (n p q : ℕ) → p % span_of n ≡ q % span_of n → put r n p bs ≡ put r n q bs
unfolding put
put_place [] r n p q e = refl
put_place (b ∷ bs) r n p q e =
    rw e
    (put_place bs (set r (header_size + (q % span_of n)) b) n (suc p) (suc q)
    (suc-mod p (span_of n) ∙ ap (λ (k : ℕ). suc k % span_of n) e ∙ sym (suc-mod q (span_of n))))

-- a write to a part of a buffer is a write to each of its places
pub mid_sets : (bs r : List ℕ) (a k : ℕ) → k ≡ length bs → a + k ≤ length r → put_mid a k r bs ≡ sets r a bs
mid_sets bs r a k l h =
    put_mid-paste a k r bs bs k refl refl l
    ∙ ap (λ x. take a r ++ x ++ drop (a + k) r) (take_all k bs (omega arith))
    ∙ ap (λ x. take a r ++ bs ++ drop (a + x) r) l
    ∙ sym (sets-eq bs r a (omega arith))

-- a run that doesn't cross the end is one such write
pub run_sets : (bs r : List ℕ) (n p i : ℕ) → (p % span_of n) + i + length bs ≤ span_of n → put r n (p + i) bs ≡ sets r (header_size + (p % span_of n) + i) bs
unfolding put
run_sets [] r n p i h = refl
run_sets (b ∷ bs) r n p i h =
    let m = run_place p (span_of n) i (omega arith) in
    let e : header_size + ((p + i) % span_of n) ≡ header_size + (p % span_of n) + i = omega arith in
    let q : suc (p + i) ≡ p + suc i = omega arith in
    let w : suc (header_size + (p % span_of n) + i) ≡ header_size + (p % span_of n) + suc i = omega arith in
    rw (e, q, w) (run_sets bs (set r (header_size + (p % span_of n) + i) b) n p (suc i) (omega arith))

pub put_run : (bs r : List ℕ) (n p a k : ℕ) → Sized r n → a ≡ header_size + (p % span_of n) → k ≡ length bs → (p % span_of n) + k ≤ span_of n → put_mid a k r bs ≡ put r n p bs
put_run bs r n p a k z e l h =
    let s : put r n p bs ≡ sets r (header_size + (p % span_of n)) bs = simp add-zero at (run_sets bs r n p 0 (omega arith)) in
    mid_sets bs r a k l (omega (arith, z.len)) ∙ ap (λ x. sets r x bs) e ∙ sym s

-- ---- what is read after a store

-- two places less than a turn apart are not the same byte
mod_apart : (a b m : ℕ) → a < b → b < a + m → a % m ≢ b % m
mod_apart a b m l h e =
    let x = div-add-mod' a m in
    let y = div-add-mod' b m in
    ⊎_elim
    (λ lt. let k = mul-le-mul_right m lt in omega (arith, suc-mul (a / m) m, k, x, y, e))
    (λ le. let k = mul-le-mul_right m le in omega (arith, k, x, y, e))
    (cases_lt (a / m) (b / m))

round_set_same : (r : List ℕ) (n p b : ℕ) → Sized r n → round (set r (header_size + (p % span_of n)) b) n p ≡ b
unfolding round
round_set_same r n p b z = get_or-set_same r (header_size + (p % span_of n)) b 0 (in_ring r n p z)

round_set_other : (r : List ℕ) (n p q b : ℕ) → q < p → p < q + span_of n
    → round (set r (header_size + (p % span_of n)) b) n q ≡ round r n q
unfolding round
round_set_other r n p q b l h =
    get_or-set_other r (header_size + (p % span_of n)) (header_size + (q % span_of n)) b 0
    (λ e. mod_apart q p (span_of n) l h (omega arith))

-- a byte before the run, and less than a turn behind its end
put_old_byte : (bs r : List ℕ) (n p q : ℕ) → q < p → p + length bs ≤ q + span_of n → round (put r n p bs) n q ≡ round r n q
unfolding put
put_old_byte [] r n p q l h = refl
put_old_byte (b ∷ bs) r n p q l h =
    put_old_byte bs (set r (header_size + (p % span_of n)) b) n (suc p) q (omega arith) (omega arith)
    ∙ round_set_other r n p q b l (omega arith)

-- what stands before the run stays
pub put_old : (bs r : List ℕ) (n p q c : ℕ) → q + c ≤ p → p + length bs ≤ q + span_of n → Same (round (put r n p bs) n) q (round r n) q c
put_old bs r n p q c l h = record { at = λ i k. put_old_byte bs r n p (q + i) (omega arith) (omega arith) }

put_new_byte : (bs r : List ℕ) (n p i : ℕ) → Sized r n → i < length bs → length bs ≤ span_of n → round (put r n p bs) n (p + i) ≡ get_or bs i 0
unfolding put
put_new_byte [] r n p i z l h = absurd (let w : ⊥ = omega arith in w)
put_new_byte (b ∷ bs) r n p zero z l h =
    rw add-zero
    (put_old_byte bs (set r (header_size + (p % span_of n)) b) n (suc p) p (omega arith) (omega arith) ∙ round_set_same r n p b z)
put_new_byte (b ∷ bs) r n p (suc i) z l h =
    let e : p + suc i ≡ suc p + i = omega arith in
    rw e
    (put_new_byte bs (set r (header_size + (p % span_of n)) b) n (suc p) i (sized_as _ z (length-set r _ b)) (omega arith) (omega arith))

-- what was stored is read back
pub put_new : (bs r : List ℕ) (n p : ℕ) → Sized r n → length bs ≤ span_of n → Same (round (put r n p bs) n) p (flat bs) 0 (length bs)
put_new bs r n p z h =
    record { at = λ i l. put_new_byte bs r n p i z l h ∙ (let e : i ≡ 0 + i = omega arith in ap (flat bs) e) }

-- the header is not touched
pub put_header : (bs r : List ℕ) (n p j : ℕ) → j < header_size → flat (put r n p bs) j ≡ flat r j
unfolding put
put_header [] r n p j l = refl
put_header (b ∷ bs) r n p j l =
    put_header bs (set r (header_size + (p % span_of n)) b) n (suc p) j l
    ∙ get_or-set_other r (header_size + (p % span_of n)) j b 0 (λ e. let w : ⊥ = omega arith in w)

-- and a byte set in the header is none of the slots'
pub set_header : (r : List ℕ) (n j v q : ℕ) → j < header_size → round (set r j v) n q ≡ round r n q
unfolding round
set_header r n j v q l = get_or-set_other r j (header_size + (q % span_of n)) v 0 (λ e. let w : ⊥ = omega arith in w)
