-- What a cut leaves: before a part's last step a ring that differs in free slots only, and after it the ring with that part done.
use Rattle.std.specs.Prelude.{Some}
use Prim.Native.Nat.{ℕ, zero, suc, ◌+◌, ◌-◌, ◌*◌, ◌/◌, ◌%◌, ◌≤◌, ◌<◌}
use mathlib.Core.Path.{◌≡◌, refl, sym, ap, ◌∙◌, subst}
use mathlib.Core.Bool.{Bool, true, false}
use mathlib.Core.Logic.{⊎_elim, ◌≢◌}
use mathlib.Core.List.{List, [], ◌∷◌, ◌++◌}
use native.Mathlib.Omega.{arith}
use native.Mathlib.Nat.{div-add-mod', mod-eq_of_lt, mod-mod, mul-le-mul_right, suc-mul}
use borrow.Author.Tests.{leb-true, leb-false, eq-eqb, ne_eqb}
use lib.ListN.{length}
use lib.Dec.{eqb, leb}
use Rattle.layout.specs.Sizes.{slot_size, span_of, slots_of}
use Rattle.layout.specs.Bytes.{flat, put}
use Rattle.layout.specs.declared.Ring.{Ring}
use Rattle.layout.proofs.Views.{slot_start}
use Rattle.layout.proofs.Tests.{lt_or_le}
use Rattle.layout.proofs.Puts.{put_place}
use Rattle.walk.specs.declared.Entry.{Entry}
use Rattle.walk.specs.Header.{header_of}
use Rattle.walk.specs.Walk.{readable, reading_of}
use Rattle.walk.proofs.Readings.{reading_sound}
use Rattle.store.specs.Steps.{Step, one_byte, run, cut}
use Rattle.store.specs.Storing.{store_steps, head_step, unless_same, head_steps}
use Rattle.store.proofs.Steps.{run_append, cut_within, cut_behind, stored_cut, store_count, moved_cut, head_count_law}
use Rattle.ring.specs.Ring.{slot_after, tail_of, Alike}
use Rattle.ring.specs.Parts.{Hidden, AllHidden, joined, first, whole_of}
use Rattle.ring.proofs.Free.{free_alike}

pub alike_same : (r r' : List ℕ) → r ≡ r' → Alike r r'
alike_same r r' e = subst (Alike r) e (record { len = refl; header = record { at = λ i l. refl }; slots = λ g q. record { at = λ i l. refl } })

-- the slot at the tail, turned round and counted on from the head
at_tail : (r : List ℕ) (g : Ring) (xs : List ℕ) (slot : ℕ) → 0 < g.n → slot ≡ tail_of g → put r g.n (slot * slot_size) xs ≡ put r g.n ((g.head + g.used) * slot_size) xs
at_tail r g xs slot some e =
    let end = g.head + g.used in
    put_place xs r g.n (slot * slot_size) (end * slot_size)
    (ap (λ (x : ℕ). (x * slot_size) % span_of g.n) e ∙ slot_start g.n (end % g.n) some ∙ ap (λ (x : ℕ). x * slot_size) (mod-mod end g.n) ∙ sym (slot_start g.n end some))

-- ---- the parts there are: an entry's slots with the tail byte, the head byte, any one byte

pub store_hidden : (r : List ℕ) (g : Ring) (e : Entry) (bs : List ℕ) → header_of r ≡ Some g → e.slot ≡ tail_of g → e.length ≡ length bs → g.used + slots_of e.length < g.n
    → Hidden r (store_steps g.n e bs)
store_hidden r g e bs h slot l room =
    let some : 0 < g.n = omega arith in
    record {
      at = λ k d junk.
          let o = stored_cut r g.n e bs l k (let c = store_count g.n e bs in omega arith) junk in
          let f = o.few in
          let free = free_alike r g o.bytes h (omega arith) in
          subst (Alike r) (sym (o.is ∙ at_tail r g o.bytes e.slot some slot)) free;
    }

pub byte_hidden : (r : List ℕ) (p v : ℕ) → Hidden r (one_byte p v ∷ [])
unfolding cut
byte_hidden r p v = record { at = λ k d junk. by k d junk }
  where
    by : (k : ℕ) → k < 1 → (junk : List ℕ) → Alike r (cut r (one_byte p v ∷ []) k junk)
    by zero d junk = alike_same r r refl
    by (suc k) d junk = absurd (let w : ⊥ = omega arith in w)

pub head_hidden : (r : List ℕ) (slot : ℕ) → Hidden r (head_steps r slot)
head_hidden r slot = record { at = λ k d junk. by k d junk }
  where
    by : (k : ℕ) → k < length (head_steps r slot) → (junk : List ℕ) → Alike r (cut r (head_steps r slot) k junk)
    by zero d junk = alike_same r (cut r (head_steps r slot) 0 junk) (sym (moved_cut r slot junk))
    by (suc k) d junk = absurd (let w : ⊥ = (let c = head_count_law r slot in omega arith) in w)

-- two places less than a turn apart are not the same slot
mod_apart : (a b m : ℕ) → a < b → b < a + m → a % m ≢ b % m
mod_apart a b m l h e =
    let x = div-add-mod' a m in
    let y = div-add-mod' b m in
    ⊎_elim
    (λ lt. let k = mul-le-mul_right m lt in omega (arith, suc-mul (a / m) m, k, x, y, e))
    (λ le. let k = mul-le-mul_right m le in omega (arith, k, x, y, e))
    (lt_or_le (a / m) (b / m))

-- the head byte is stored exactly where something leaves
abbrev pub one_if : ℕ → ℕ
one_if zero = 0
one_if (suc u) = 1

pub leaves_count : (r : List ℕ) (g : Ring) (es : List Entry) → reading_of r ≡ readable g es → (u : ℕ) → u ≤ g.used → length (head_steps r (slot_after g u)) ≡ one_if u
unfolding head_steps
leaves_count r g es q u h =
    let k = reading_sound r g es q in
    let head : flat r 2 ≡ g.head = sym (ap (λ (x : Ring). x.head) k.headed.same) in
    let own : g.head % g.n ≡ g.head = mod-eq_of_lt k.headed.head in
    by u h head own k.headed.used
  where
    by : (u : ℕ) → u ≤ g.used → flat r 2 ≡ g.head → g.head % g.n ≡ g.head → g.used < g.n → length (unless_same (eqb (flat r 2) (slot_after g u)) (head_step (slot_after g u) ∷ [])) ≡ one_if u
    by zero h head own room = rw (eq-eqb (flat r 2) (slot_after g 0) (head ∙ sym own ∙ ap (λ (x : ℕ). x % g.n) (let e : g.head ≡ g.head + 0 = omega arith in e)))
    by (suc u) h head own room =
        rw (ne_eqb (flat r 2) (slot_after g (suc u)) (λ e. mod_apart g.head (g.head + suc u) g.n (omega arith) (omega arith) (own ∙ sym head ∙ e)))

-- ---- one part after another: a cut leaves what the whole ones leave, but for free slots

pub parts_cut : (ps : List (List Step)) (r : List ℕ) → AllHidden r ps → (k : ℕ) (junk : List ℕ) → Alike (run r (joined (whole_of ps k))) (cut r (joined ps) k junk)
unfolding run cut
parts_cut [] r o k junk = alike_same r r refl
parts_cut (xs ∷ ps) r o k junk = at (leb (length xs) k) refl (parts_cut ps (run r xs) o.1 (k - length xs) junk)
  where
    at : (b : Bool) → leb (length xs) k ≡ b → Alike (run (run r xs) (joined (whole_of ps (k - length xs)))) (cut (run r xs) (joined ps) (k - length xs) junk)
        → Alike (run r (joined (first b xs (whole_of ps (k - length xs))))) (cut r (xs ++ joined ps) k junk)
    at false e rest =
        let d : k < length xs = leb-false (length xs) k e in
        subst (Alike r) (sym (cut_within xs (joined ps) r k junk d)) (o.0.at k d junk)
    at true e rest =
        let d : length xs ≤ k = leb-true (length xs) k e in
        let w : length xs + (k - length xs) ≡ k = omega arith in
        let s : cut (run r xs) (joined ps) (k - length xs) junk ≡ cut r (xs ++ joined ps) k junk =
        sym (cut_behind xs (joined ps) r (k - length xs) junk) ∙ ap (λ j. cut r (xs ++ joined ps) j junk) w in
        subst (λ y. Alike y (cut r (xs ++ joined ps) k junk)) (sym (run_append xs (joined (whole_of ps (k - length xs))) r))
        (subst (Alike (run (run r xs) (joined (whole_of ps (k - length xs))))) s rest)
