-- A ring with an entry stored behind its tail.
use Prim.Native.Nat.{ℕ, ◌+◌, ◌-◌, ◌*◌, ◌/◌, ◌%◌, ◌^◌, ◌<◌}
use mathlib.Core.Path.{◌≡◌, refl, sym, ap, ◌∙◌}
use mathlib.Core.Logic.{◌≢◌}
use mathlib.Core.List.{List, [], ◌∷◌, ◌++◌, map, map-append}
use mathlib.Core.Bool.{true}
use native.Mathlib.Omega.{arith}
use native.Mathlib.Nat.{zero-add, le_refl, mod-eq_of_lt, mod-mod, mod-add-mod, sub_self}
use lib.ListN.{length, set, replicate, length-set, get_or-replicate, get_or-append}
use lib.Seq.{get_or-set_same, get_or-set_other, get_or-append-add}
use Rattle.layout.specs.Sizes.{header_size, slot_size, span_of, head_size, slots_of, filler_of}
use Rattle.layout.specs.Bytes.{flat, round, put, bytes2, bytes4, bytes8, bytes_at, Same}
use Rattle.layout.specs.declared.Ring.{Ring}
use Rattle.layout.proofs.Views.{same_part, same_then, bytes_same, bytes_are, zeros_same, zeros_are, slot_start, slot_round}
use Rattle.layout.proofs.Numbers.{number2_of, number4_of, number8_of}
use Rattle.layout.proofs.Puts.{length_put, put_header, put_old, put_new, put_place, set_header}
use Rattle.walk.specs.declared.Entry.{Entry}
use Rattle.walk.specs.Entry.{head_at, entry_at, filler, data_of}
use Rattle.walk.specs.Walk.{last_of, written, write_of}
use Rattle.walk.proofs.Rules.{Headed, Valid, valid_sound, head_same}
use Rattle.walk.proofs.Walks.{Slots, walk_same}
use Rattle.walk.proofs.Chain.{Chain, done, link, walk_of, chain_of, chain_join}
use Rattle.walk.proofs.Readings.{Readable, headed_by, writes_same}
use Rattle.store.specs.Store.{name_bytes, range_bytes, head_bytes, entry_bytes, tail_after, stored}
use Rattle.store.proofs.Stored.{head_length, entry_length}
use Rattle.ring.specs.Ring.{Storable, grown}

-- ---- an entry's bytes, read back from wherever they stand

module _ (e : Entry) (bs : List ℕ) (l : e.length ≡ length bs) (v : Valid e) (a : e.node < 2 ^ 32) (b : e.handle < 2 ^ 32) where
  abbrev enc : List ℕ
  enc = entry_bytes e bs

  abbrev fill : ℕ
  fill = filler_of e.length

  enc_head : head_at (flat enc) 0 e.slot ≡ e
  unfolding entry_bytes head_bytes name_bytes range_bytes bytes2 bytes4 bytes8
  enc_head =
      let f = flat enc in
      let hi = e.number / 4294967296 in
      let n0 = number4_of f 0 e.number (number2_of f 0 e.number refl refl) (number2_of f 2 (e.number / 65536) refl refl) in
      let n1 = number4_of f 4 hi (number2_of f 4 hi refl refl) (number2_of f 6 (hi / 65536) refl refl) in
      let m = number4_of f 8 e.node (number2_of f 8 e.node refl refl) (number2_of f 10 (e.node / 65536) refl refl) in
      let h = number4_of f 12 e.handle (number2_of f 12 e.handle refl refl) (number2_of f 14 (e.handle / 65536) refl refl) in
      let o = number4_of f 16 e.offset (number2_of f 16 e.offset refl refl) (number2_of f 18 (e.offset / 65536) refl refl) in
      let k = number2_of f 20 e.length refl refl in
      let z = number2_of f 22 e.zero refl refl in
      let x : e.number < 18446744073709551616 = omega (arith, v.below) in
      let y : e.offset < 4294967296 = omega (arith, v.end) in
      let w : e.length < 65536 = omega (arith, v.most) in
      let u : e.zero < 65536 = omega (arith, v.zero) in
      rw (number8_of f 0 e.number x n0 n1, m, h, o, k, z, mod-eq_of_lt a, mod-eq_of_lt b, mod-eq_of_lt y, mod-eq_of_lt w, mod-eq_of_lt u)

  enc_byte : (i : ℕ) → flat enc (head_size + i) ≡ flat (bs ++ replicate fill 0) i
  unfolding entry_bytes
  enc_byte i = ap (λ (k : ℕ). flat (entry_bytes e bs) (k + i)) (sym (head_length e)) ∙ get_or-append-add (head_bytes e) (bs ++ replicate fill 0) i 0

  enc_data : Same (flat enc) head_size (flat bs) 0 (length bs)
  enc_data =
      record {
        at = λ i h.
            enc_byte i ∙ get_or-append bs (replicate fill 0) 0 i h ∙ (let x : i ≡ 0 + i = omega arith in ap (flat bs) x);
      }

  enc_zero : (i : ℕ) → i < fill → flat enc (head_size + e.length + i) ≡ 0
  enc_zero i h =
      let x : head_size + e.length + i ≡ head_size + (length bs + i) = omega arith in
      ap (flat enc) x ∙ enc_byte (length bs + i) ∙ get_or-append-add bs (replicate fill 0) i 0 ∙ get_or-replicate fill i 0 0 h

  -- where an entry's bytes stand, the walk finds that entry, with zero filler and its own bytes
  module _ (g : ℕ → ℕ) (n s : ℕ) (at : s % n ≡ e.slot) (k : Same g (s * slot_size) (flat enc) 0 (slots_of e.length * slot_size)) where
    found : entry_at g n s ≡ e
    found = ap (head_at g (s * slot_size)) at ∙ head_same e.slot k (omega arith) ∙ enc_head

    found_filler : filler g s e.length ≡ true
    found_filler =
        zeros_same fill (same_part k (head_size + e.length) fill (omega arith))
        ∙ zeros_are (flat enc) (0 + (head_size + e.length)) fill
        (λ i h. (let x : 0 + (head_size + e.length) + i ≡ head_size + e.length + i = omega arith in ap (flat enc) x) ∙ enc_zero i h)

    found_data : bytes_at g (s * slot_size + head_size) e.length ≡ bs
    found_data =
        rw l
        (bytes_are g bs (s * slot_size + head_size) (same_then (same_part k head_size (length bs) (omega arith)) (rw (zero-add head_size) enc_data)))

-- ---- the ring with the entry stored

module _ (r : List ℕ) (g : Ring) (es : List Entry) (e : Entry) (bs : List ℕ) (k : Readable r g es) (w : Storable g es e bs) where
  abbrev n : ℕ
  n = g.n

  abbrev end : ℕ
  end = g.head + g.used

  abbrev next : List ℕ
  next = stored r n e bs

  some_slots : 0 < n
  some_slots = omega (arith, k.headed.sized.low)

  -- the bytes go in at the tail, counted on from the head
  next_by : next ≡ set (put r n (end * slot_size) (entry_bytes e bs)) 3 (tail_after n e)
  unfolding stored
  next_by =
      ap (λ (x : List ℕ). set x 3 (tail_after n e))
      (put_place (entry_bytes e bs) r n (e.slot * slot_size) (end * slot_size)
      (ap (λ (x : ℕ). (x * slot_size) % span_of n) w.slot ∙ slot_start n (end % n) some_slots ∙ ap (λ (x : ℕ). x * slot_size) (mod-mod end n) ∙ sym (slot_start n end some_slots)))

  abbrev body : List ℕ
  body = put r n (end * slot_size) (entry_bytes e bs)

  enc_length : length (entry_bytes e bs) ≡ slots_of e.length * slot_size
  enc_length = entry_length e bs w.bytes

  next_length : length next ≡ length r
  next_length = ap length next_by ∙ length-set body 3 (tail_after n e) ∙ length_put (entry_bytes e bs) r n (end * slot_size)

  next_header : (j : ℕ) → j < header_size → j ≢ 3 → flat next j ≡ flat r j
  next_header j l d =
      ap (λ (x : List ℕ). flat x j) next_by ∙ get_or-set_other body 3 j (tail_after n e) 0 d ∙ put_header (entry_bytes e bs) r n (end * slot_size) j l

  next_tail : flat next 3 ≡ tail_after n e
  next_tail =
      ap (λ (x : List ℕ). flat x 3) next_by
      ∙ get_or-set_same body 3 (tail_after n e) 0 (omega (arith, length_put (entry_bytes e bs) r n (end * slot_size), k.headed.sized.len))

  next_round : (q : ℕ) → round next n q ≡ round body n q
  next_round q = ap (λ (x : List ℕ). round x n q) next_by ∙ set_header body n 3 (tail_after n e) q (omega arith)

  next_old : Same (round r n) (g.head * slot_size) (round next n) (g.head * slot_size) (g.used * slot_size)
  next_old =
      let o = put_old (entry_bytes e bs) r n (end * slot_size) (g.head * slot_size) (g.used * slot_size) (omega arith) (omega (arith, enc_length, w.room)) in
      record { at = λ i l. sym (next_round _ ∙ o.at i l) }

  next_new : Same (round next n) (end * slot_size) (flat (entry_bytes e bs)) 0 (slots_of e.length * slot_size)
  next_new =
      let o = put_new (entry_bytes e bs) r n (end * slot_size) k.headed.sized (omega (arith, enc_length, w.room)) in
      record { at = λ i l. next_round _ ∙ o.at i (omega (arith, enc_length)) }

  next_tail_at : flat next 3 ≡ (g.head + (g.used + slots_of e.length)) % n
  next_tail_at =
      let x : end + slots_of e.length ≡ g.head + (g.used + slots_of e.length) = omega arith in
      next_tail ∙ ap (λ (s : ℕ). (s + slots_of e.length) % n) w.slot ∙ mod-add-mod end n (slots_of e.length) ∙ ap (λ (s : ℕ). s % n) x

  next_headed : Headed next (grown g e)
  next_headed =
      headed_by next g.head (g.used + slots_of e.length) k.headed next_length (λ j l _ d. next_header j l d)
      (next_header 2 (omega arith) (λ x. omega arith) ∙ sym (ap (λ (x : Ring). x.head) k.headed.same))
      next_tail_at k.headed.head w.room

  old_slots : Slots n (round r n) g.head (round next n) g.head g.used
  old_slots = record { slot = refl; bytes = next_old }

  old_chain : Chain (round next n) n g.head g.used 0 es
  old_chain =
      chain_of es (round next n) n g.head g.used 0
      (sym (walk_same n (round r n) g.head (round next n) g.head g.used 0 old_slots) ∙ walk_of k.chain)

  new_chain : Chain (round next n) n end (slots_of e.length) (last_of 0 es) (e ∷ [])
  new_chain =
      let f = found e bs w.bytes (valid_sound e w.valid) w.node w.handle (round next n) n end (sym w.slot) next_new in
      let z = found_filler e bs w.bytes (valid_sound e w.valid) w.node w.handle (round next n) n end (sym w.slot) next_new in
      let rest : Chain (round next n) n (end + slots_of e.length) (slots_of e.length - slots_of e.length) e.number [] = rw sub_self done in
      link f (record { valid = valid_sound e w.valid; rising = w.rising; fits = le_refl _; filled = z }) rest

  pub next_readable : Readable next (grown g e) (es ++ e ∷ [])
  next_readable = record { headed = next_headed; chain = chain_join (slots_of e.length) (e ∷ []) old_chain new_chain }

  new_write : write_of (round next n) e ≡ written e bs
  new_write =
      let d = found_data e bs w.bytes (valid_sound e w.valid) w.node w.handle (round next n) n end (sym w.slot) next_new in
      let x = same_part (slot_round next n end (head_size + e.length) some_slots) head_size e.length (omega arith) in
      let y : data_of (round next n) e ≡ bs =
      ap (λ (s : ℕ). bytes_at (round next n) (s * slot_size + head_size) e.length) w.slot ∙ sym (bytes_same e.length x) ∙ d in
      rw y

  pub next_writes : map (write_of (round next n)) (es ++ e ∷ []) ≡ map (write_of (round r n)) es ++ written e bs ∷ []
  next_writes =
      map-append (write_of (round next n)) es (e ∷ [])
      ∙ rw (new_write, ← writes_same r next n some_slots k.chain old_slots)
