-- A ring is readable as g and es exactly where its header is g and its entries are a chain from head to tail.
use Rattle.std.specs.Prelude.{Err, Option, None, Some}
use Prim.Native.Nat.{ℕ, ◌+◌, ◌-◌, ◌*◌, ◌%◌, ◌≤◌, ◌<◌}
use mathlib.Core.Path.{◌≡◌, refl, sym, ap, ◌∙◌}
use mathlib.Core.Logic.{⊎_elim, ◌≢◌}
use mathlib.Core.List.{List, map}
use native.Mathlib.Omega.{arith}
use native.Mathlib.Nat.{mod-lt, mod-eq_of_lt, mod-eq-sub-mod, add-mod_left}
use lib.ListN.{length}
use Rattle.layout.specs.Sizes.{slot_size, head_size, header_size, slots_of, most_entries}
use Rattle.layout.specs.Bytes.{flat, round, Same}
use Rattle.layout.specs.declared.Ring.{Ring}
use Rattle.layout.proofs.Tests.{lt_or_le, never}
use Rattle.layout.proofs.Views.{same_part, same_back, same_then, bytes_same, zeros_same, slot_round}
use Rattle.layout.proofs.Puts.{sized_as}
use Rattle.reason.specs.declared.Reason.{Reason}
use Rattle.reason.specs.declared.Reason.TheVariants.{Unreadable}
use Rattle.walk.specs.declared.Entry.{Entry}
use Rattle.walk.specs.Header.{head_in, tail_in, used_of, ring_in, header_of}
use Rattle.walk.specs.Entry.{data_of}
use Rattle.walk.specs.Walk.{walk, start, Reading, readable, unreadable, reads, reading_by, reading_of, answer_of, slots_used, Rising, write_of}
use Rattle.walk.proofs.Rules.{IsHeader, Headed, header_use, header_good, header_headed}
use Rattle.walk.proofs.Walks.{Slots, slots_rest}
use Rattle.walk.proofs.Chain.{Chain, done, link, walk_of, chain_of, chain_used, chain_rising, used_length, AllInRing, chain_inside}

-- what there is to know of a readable ring
pub record Readable (r : List ℕ) (g : Ring) (es : List Entry) : Type 0 where
  pub headed : Headed r g
  pub chain : Chain (round r g.n) g.n g.head g.used 0 es

reads_some : (g g' : Ring) (w : Option (List Entry)) (es : List Entry) → reads g' w ≡ readable g es → (g' ≡ g) × (w ≡ Some es)
reads_some g g' None es q = never (cc)
reads_some g g' (Some ks) es q = ((cc), (cc))

reading_by_law : (r : List ℕ) (g : Ring) (es : List Entry) (h : Option Ring) → header_of r ≡ h → reading_by r h ≡ readable g es → Readable r g es
reading_by_law r g es None e q = never (cc)
reading_by_law r g es (Some g') e q =
    let w = reads_some g g' (walk (round r g'.n) g'.n (start g')) es q in
    rw (← w.0)
    (record { headed = header_use r g' e; chain = chain_of es (round r g'.n) g'.n g'.head g'.used 0 w.1 })

pub reading_sound : (r : List ℕ) (g : Ring) (es : List Entry) → reading_of r ≡ readable g es → Readable r g es
unfolding reading_of
reading_sound r g es q = reading_by_law r g es (header_of r) refl q

pub reading_header : {r : List ℕ} {g : Ring} {es : List Entry} → Readable r g es → header_of r ≡ Some g
reading_header {r} k = header_good r k.headed.header ∙ ap Some (sym k.headed.same)

pub reading_true : {r : List ℕ} {g : Ring} {es : List Entry} → Readable r g es → reading_of r ≡ readable g es
unfolding reading_of
reading_true {r} {g} {es} k = ap (reading_by r) (reading_header k) ∙ ap (reads g) (walk_of k.chain)

-- ---- the code's answer says which

-- what it refuses is no ring
pub answer_refused : (x : Reading) (why : Reason) → answer_of x ≡ Err why → (x ≡ unreadable) × (why ≡ Unreadable)
answer_refused unreadable why q = (refl, (cc))
answer_refused (readable g es) why q = never (cc)

-- ---- head, tail and the slots used

-- a tail that is u slots after the head says that u are used
pub used_to : (n head u : ℕ) → head < n → u < n → used_of n head ((head + u) % n) ≡ u
used_to n head u a b =
    ⊎_elim
    (λ l.
    let x : n + (head + u) - head ≡ n + u = omega arith in
    rw (mod-eq_of_lt {n = head + u} {m = n} l, x, add-mod_left n u) (mod-eq_of_lt b))
    (λ l.
    let x : n + (head + u - n) - head ≡ u = omega arith in
    let y : head + u - n < n = omega arith in
    rw (mod-eq-sub-mod {n = head + u} {m = n} l, mod-eq_of_lt {n = head + u - n} {m = n} y, x) (mod-eq_of_lt b))
    (lt_or_le (head + u) n)

-- and the tail is as many slots after the head as are used
pub tail_at : (n head tail : ℕ) → head < n → tail < n → (head + used_of n head tail) % n ≡ tail
tail_at n head tail a b =
    ⊎_elim
    (λ l.
    let x : head + (n + tail - head) ≡ n + tail = omega arith in
    rw (mod-eq_of_lt {n = n + tail - head} {m = n} (omega arith), x, add-mod_left n tail) (mod-eq_of_lt b))
    (λ l.
    let y : n + tail - head - n ≡ tail - head = omega arith in
    let x : head + (tail - head) ≡ tail = omega arith in
    rw (mod-eq-sub-mod {n = n + tail - head} {m = n} (omega arith), y, mod-eq_of_lt {n = tail - head} {m = n} (omega arith), x) (mod-eq_of_lt b))
    (lt_or_le tail head)

-- a buffer with the same header but for head and tail, which are u slots apart
pub headed_by : {r : List ℕ} {g : Ring} (r' : List ℕ) (head u : ℕ) → Headed r g → length r' ≡ length r
    → ((j : ℕ) → j < header_size → j ≢ 2 → j ≢ 3 → flat r' j ≡ flat r j)
    → head_in r' ≡ head → tail_in r' ≡ (head + u) % g.n → head < g.n → u < g.n
    → Headed r' (record { n = g.n; head = head; used = u })
headed_by {r} {g} r' head u k l same h t a b =
    let n = g.n in
    let e1 : flat r' 1 ≡ n = same 1 (omega arith) (λ x. omega arith) (λ x. omega arith) ∙ sym (ap (λ (x : Ring). x.n) k.same) in
    let some_slots : 0 < n = omega arith in
    let zs : Same (flat r') 4 (flat r) 4 12 = record { at = λ i m. same (4 + i) (omega arith) (λ x. omega arith) (λ x. omega arith) } in
    let header : IsHeader r' =
    record {
      sized = rw e1 (sized_as r' k.sized l);
      edition = same 0 (omega arith) (λ x. omega arith) (λ x. omega arith) ∙ k.header.edition;
      head = omega (arith, e1, h);
      tail = omega (arith, e1, t, mod-lt (head + u) some_slots);
      zeros = zeros_same 12 zs ∙ k.header.zeros;
    } in
    let ring : ring_in r' ≡ record { n = n; head = head; used = u } = rw (e1, h, t, used_to n head u a b) in
    rw ring at (header_headed r' header)

-- ---- what a reading says

module _ {r : List ℕ} {g : Ring} {es : List Entry} (k : Readable r g es) where
  pub used_slots : g.used ≡ slots_used es
  used_slots = chain_used k.chain

  pub entries_few : length es ≤ most_entries
  entries_few = omega (arith, used_length es, used_slots, k.headed.used, k.headed.sized.high)

  pub entries_rise : Rising 0 es
  entries_rise = chain_rising k.chain

  pub entries_inside : AllInRing g.n es
  entries_inside = let l = k.headed.sized.low in chain_inside (omega arith) k.chain

-- ---- an entry's bytes in two views

-- an entry's bytes, found from the place that the walk had
data_at : (r : List ℕ) (n s length : ℕ) → 0 < n → Same (round r n) (s * slot_size + head_size) (round r n) ((s % n) * slot_size + head_size) length
data_at r n s length z = same_part (slot_round r n s (head_size + length) z) head_size length (omega arith)

-- the same slots hold the same writes
pub writes_same : (r r' : List ℕ) (n : ℕ) → 0 < n → {s left last : ℕ} {es : List Entry} → Chain (round r n) n s left last es
    → Slots n (round r n) s (round r' n) s left → map (write_of (round r n)) es ≡ map (write_of (round r' n)) es
writes_same r r' n z done k = refl
writes_same r r' n z {s} {left} {last} (link {e = e} at is c) k =
    let u = slots_of e.length in
    let d : s % n ≡ e.slot = ap (λ (x : Entry). x.slot) at in
    let x = data_at r n s e.length z in
    let y = data_at r' n s e.length z in
    let m = same_part k.bytes head_size e.length (omega (arith, is.fits)) in
    let w : data_of (round r n) e ≡ data_of (round r' n) e =
    rw (← d) (bytes_same e.length (same_then (same_back x) (same_then m y))) in
    rw (w, writes_same r r' n z c (slots_rest k u (left - u) (omega (arith, is.fits))))
