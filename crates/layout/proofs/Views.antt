-- Laws of reading. What is read in c bytes is the same wherever the same c bytes stand: in another buffer, a turn
-- further round, or in the buffer itself where the run doesn't cross the ring's end.
use Prim.Native.Nat.{ℕ, zero, suc, ◌+◌, ◌-◌, ◌*◌, ◌/◌, ◌%◌, ◌≤◌, ◌<◌}
use mathlib.Core.Path.{◌≡◌, refl, sym, ap, ◌∙◌}
use mathlib.Core.List.{List, [], ◌∷◌, ◌++◌}
use mathlib.Core.Bool.{true}
use native.Mathlib.Omega.{arith}
use native.Mathlib.Nat.{add-zero, zero-add, mod-lt, mod-eq_of_lt, mod-add-mod, mul-add-mod_self_right, div-add-mod', mul_assoc, add-mul}
use lib.ListN.{length, get_or, take, drop, length-drop}
use lib.Seq.{ext_get_or, length-take-le, get_or-take, get_or-drop, drop-cons}
use borrow.Author.Tests.{eq-eqb}
use Rattle.layout.specs.Sizes.{header_size, slot_size, span_of}
use Rattle.layout.specs.Bytes.{Sized, flat, round, number2, number4, number8, bytes_at, both, zeros_at, Same}

module _ {f : ℕ → ℕ} {p : ℕ} {g : ℕ → ℕ} {q c : ℕ} (k : Same f p g q c) where
  pub same_part : (a d : ℕ) → a + d ≤ c → Same f (p + a) g (q + a) d
  same_part a d h =
      record {
        at = λ i l.
            let x : p + a + i ≡ p + (a + i) = omega arith in
            let y : q + (a + i) ≡ q + a + i = omega arith in
            ap f x ∙ k.at (a + i) (omega arith) ∙ ap g y;
      }

  pub same_first : 0 < c → f p ≡ g q
  same_first l = ap f (sym (add-zero p)) ∙ k.at 0 l ∙ ap g (add-zero q)

  pub same_then : {h : ℕ → ℕ} {t : ℕ} → Same g q h t c → Same f p h t c
  same_then m = record { at = λ i l. k.at i l ∙ m.at i l }

  pub same_back : Same g q f p c
  same_back = record { at = λ i l. sym (k.at i l) }

pub number2_same : {f : ℕ → ℕ} {p : ℕ} {g : ℕ → ℕ} {q c : ℕ} → Same f p g q c → 2 ≤ c → number2 f p ≡ number2 g q
unfolding number2
number2_same k l = rw (same_first k (omega arith), k.at 1 (omega arith))

pub number4_same : {f : ℕ → ℕ} {p : ℕ} {g : ℕ → ℕ} {q c : ℕ} → Same f p g q c → 4 ≤ c → number4 f p ≡ number4 g q
unfolding number4
number4_same k l = rw (number2_same k (omega arith), number2_same (same_part k 2 2 (omega arith)) (omega arith))

pub number8_same : {f : ℕ → ℕ} {p : ℕ} {g : ℕ → ℕ} {q c : ℕ} → Same f p g q c → 8 ≤ c → number8 f p ≡ number8 g q
unfolding number8
number8_same k l = rw (number4_same k (omega arith), number4_same (same_part k 4 4 (omega arith)) (omega arith))

-- the same bytes but the first
same_rest : {f : ℕ → ℕ} {p : ℕ} {g : ℕ → ℕ} {q c : ℕ} → Same f p g q (suc c) → Same f (suc p) g (suc q) c
same_rest {f} {p} {g} {q} {c} k =
    record {
      at = λ i l.
          let x : suc p + i ≡ p + suc i = omega arith in
          let y : q + suc i ≡ suc q + i = omega arith in
          ap f x ∙ k.at (suc i) (omega arith) ∙ ap g y;
    }

pub zeros_same : (c : ℕ) {f : ℕ → ℕ} {p : ℕ} {g : ℕ → ℕ} {q : ℕ} → Same f p g q c → zeros_at f p c ≡ zeros_at g q c
unfolding zeros_at
zeros_same zero k = refl
zeros_same (suc c) k = rw (same_first k (omega arith), zeros_same c (same_rest k))

pub bytes_same : (c : ℕ) {f : ℕ → ℕ} {p : ℕ} {g : ℕ → ℕ} {q : ℕ} → Same f p g q c → bytes_at f p c ≡ bytes_at g q c
unfolding bytes_at
bytes_same zero k = refl
bytes_same (suc c) k = rw (same_first k (omega arith), bytes_same c (same_rest k))

-- ---- a run of bytes is a list, or zeros

pub bytes_length : (f : ℕ → ℕ) (p c : ℕ) → length (bytes_at f p c) ≡ c
unfolding bytes_at
bytes_length f p zero = refl
bytes_length f p (suc c) = ap suc (bytes_length f (suc p) c)

pub bytes_snoc : (f : ℕ → ℕ) (p c : ℕ) → bytes_at f p (suc c) ≡ bytes_at f p c ++ f (p + c) ∷ []
unfolding bytes_at
bytes_snoc f p zero = rw add-zero
bytes_snoc f p (suc c) =
    let e : suc p + c ≡ p + suc c = omega arith in
    ap (λ (l : List ℕ). f p ∷ l) (bytes_snoc f (suc p) c ∙ rw e)

pub bytes_append : (a b : ℕ) (f : ℕ → ℕ) (p : ℕ) → bytes_at f p (a + b) ≡ bytes_at f p a ++ bytes_at f (p + a) b
unfolding bytes_at
bytes_append zero b f p = rw (add-zero p, zero-add b) refl
bytes_append (suc a) b f p =
    let w : suc a + b ≡ suc (a + b) = omega arith in
    let z : suc p + a ≡ p + suc a = omega arith in
    rw w (ap (◌∷◌ (f p)) (bytes_append a b f (suc p) ∙ ap (λ q. bytes_at f (suc p) a ++ bytes_at f q b) z))

pub bytes_get : (c : ℕ) (f : ℕ → ℕ) (p i : ℕ) → i < c → get_or (bytes_at f p c) i 0 ≡ f (p + i)
unfolding bytes_at
bytes_get zero f p i l = absurd (let w : ⊥ = omega arith in w)
bytes_get (suc c) f p zero l = rw add-zero
bytes_get (suc c) f p (suc i) l =
    bytes_get c f (suc p) i (omega arith) ∙ (let e : suc p + i ≡ p + suc i = omega arith in ap f e)

-- a part of a run is a run
pub bytes_part : (c : ℕ) (f : ℕ → ℕ) (p a d : ℕ) → a + d ≤ c → take d (drop a (bytes_at f p c)) ≡ bytes_at f (p + a) d
bytes_part c f p a d h =
    let x = bytes_length f p c in
    let y : length (drop a (bytes_at f p c)) ≡ c - a = length-drop a (bytes_at f p c) ∙ ap (λ (k : ℕ). k - a) x in
    ext_get_or 0 _ _
    (length-take-le d (drop a (bytes_at f p c)) (omega arith) ∙ sym (bytes_length f (p + a) d))
    (λ i l.
    let l' : i < d = omega (arith, length-take-le d (drop a (bytes_at f p c)) (omega arith)) in
    get_or-take d (drop a (bytes_at f p c)) i 0 l'
    ∙ get_or-drop a (bytes_at f p c) i 0
    ∙ bytes_get c f p (a + i) (omega arith)
    ∙ (let e : p + (a + i) ≡ p + a + i = omega arith in ap f e)
    ∙ sym (bytes_get d f (p + a) i l'))

pub bytes_are : (g : ℕ → ℕ) (bs : List ℕ) (p : ℕ) → Same g p (flat bs) 0 (length bs) → bytes_at g p (length bs) ≡ bs
unfolding bytes_at
bytes_are g [] p k = refl
bytes_are g (b ∷ bs) p k =
    let e : g p ≡ b = same_first k (omega arith) in
    let rest : Same g (suc p) (flat bs) 0 (length bs) =
    record {
      at = λ i l.
          let x : suc p + i ≡ p + suc i = omega arith in
          let y : 0 + suc i ≡ suc (0 + i) = omega arith in
          ap g x ∙ k.at (suc i) (omega arith) ∙ ap (flat (b ∷ bs)) y;
    } in
    rw (e, bytes_are g bs (suc p) rest)

pub zeros_are : (g : ℕ → ℕ) (p c : ℕ) → ((i : ℕ) → i < c → g (p + i) ≡ 0) → zeros_at g p c ≡ true
unfolding zeros_at both
zeros_are g p zero k = refl
zeros_are g p (suc c) k =
    let z : g p ≡ 0 = ap g (sym (add-zero p)) ∙ k 0 (omega arith) in
    rw (eq-eqb (g p) 0 z)
    (zeros_are g (suc p) c (λ i l. let e : suc p + i ≡ p + suc i = omega arith in ap g e ∙ k (suc i) (omega arith)))

-- ---- the slots of a ring

-- a remainder stays in the slots
pub in_ring : (r : List ℕ) (n p : ℕ) → Sized r n → header_size + (p % span_of n) < length r
in_ring r n p z =
    let l : 0 < span_of n = omega (arith, z.low) in
    omega (arith, mod-lt p l, z.len)

-- a place of a run that doesn't cross the end
pub run_place : (p m i : ℕ) → (p % m) + i < m → (p + i) % m ≡ (p % m) + i
run_place p m i h = sym (mod-add-mod p m i) ∙ mod-eq_of_lt h

-- such a run is a run of the buffer
pub round_flat : (r : List ℕ) (n p c : ℕ) → (p % span_of n) + c ≤ span_of n → Same (round r n) p (flat r) (header_size + (p % span_of n)) c
unfolding round
round_flat r n p c h =
    let m = span_of n in
    record {
      at = λ i l.
          let e : (p + i) % m ≡ (p % m) + i = run_place p m i (omega arith) in
          let d : header_size + ((p + i) % m) ≡ header_size + (p % m) + i = omega arith in
          ap (flat r) d;
    }

-- the bytes of a buffer from a place on, as a part of its list
pub flat_bytes : (c a : ℕ) (r : List ℕ) → a + c ≤ length r → bytes_at (flat r) a c ≡ take c (drop a r)
unfolding bytes_at
flat_bytes zero a r h = refl
flat_bytes (suc c) a r h =
    let l : a < length r = omega arith in
    rw (drop-cons r a 0) (ap (◌∷◌ (get_or r a 0)) (flat_bytes c (suc a) r (omega arith)))

-- and the bytes of such a run of the slots
pub round_bytes : (r : List ℕ) (n p c : ℕ) → Sized r n → (p % span_of n) + c ≤ span_of n → take c (drop (header_size + (p % span_of n)) r) ≡ bytes_at (round r n) p c
round_bytes r n p c z h =
    sym (bytes_same c (round_flat r n p c h) ∙ flat_bytes c (header_size + (p % span_of n)) r (omega (arith, z.len)))

-- where slot s starts, the slots counted on and not turned round
pub slot_start : (n s : ℕ) → 0 < n → (s * slot_size) % span_of n ≡ (s % n) * slot_size
slot_start n s z =
    let d = div-add-mod' s n in
    let x : s * slot_size ≡ (s / n) * (n * slot_size) + (s % n) * slot_size =
    ap (λ (k : ℕ). k * slot_size) (sym d) ∙ add-mul (s / n * n) (s % n) slot_size ∙ ap (λ (k : ℕ). k + (s % n) * slot_size) (mul_assoc (s / n) n slot_size) in
    let l = mod-lt s z in
    ap (λ (k : ℕ). k % span_of n) x ∙ mul-add-mod_self_right (s / n) (span_of n) ((s % n) * slot_size) ∙ mod-eq_of_lt (omega arith)

-- the bytes of slot s stand in a run of the buffer
pub slot_flat : (r : List ℕ) (n s : ℕ) → 0 < n → Same (round r n) (s * slot_size) (flat r) (header_size + (s % n) * slot_size) slot_size
slot_flat r n s z =
    let e = slot_start n s z in
    let l = mod-lt s z in
    rw e at (round_flat r n (s * slot_size) slot_size (omega arith))

-- and within it
pub slot_inside : (r : List ℕ) (n s : ℕ) → Sized r n → header_size + (s % n) * slot_size + slot_size ≤ length r
slot_inside r n s z =
    let l : 0 < n = omega (arith, z.low) in
    omega (arith, mod-lt s l, z.len)

-- a slot counted on, and turned round: the same bytes from its start on
pub slot_round : (r : List ℕ) (n s c : ℕ) → 0 < n → Same (round r n) (s * slot_size) (round r n) ((s % n) * slot_size) c
unfolding round
slot_round r n s c z =
    record {
      at = λ i l.
          ap (λ (k : ℕ). flat r (header_size + k))
          (sym (mod-add-mod (s * slot_size) (span_of n) i) ∙ ap (λ (k : ℕ). (k + i) % span_of n) (slot_start n s z));
    }
