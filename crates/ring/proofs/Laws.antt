-- The ring's laws: what every layer above may cite of a ring's bytes, and all that it needs to.
-- `reading_of r ≡ readable g es` says that r is a ring with header g and entries es, oldest first;
-- `writes_of r` are the writes that it holds, with their bytes.
use Rattle.std.specs.Prelude.{Some}
use Prim.Native.Nat.{ℕ, ◌+◌, ◌*◌, ◌≤◌, ◌<◌}
use mathlib.Core.Path.{◌≡◌, ap, ◌∙◌}
use mathlib.Core.List.{List, [], ◌∷◌, ◌++◌, map}
use lib.ListN.{length}
use Rattle.layout.specs.Sizes.{slot_size, span_of, most_entries}
use Rattle.layout.specs.Bytes.{round, Sized, put}
use Rattle.layout.specs.declared.Ring.{Ring}
use Rattle.walk.specs.declared.Entry.{Entry}
use Rattle.walk.specs.Header.{header_of}
use Rattle.walk.specs.Walk.{readable, reading_of, written, write_of, writes_by, writes_of, slots_used, Rising}
use Rattle.walk.proofs.Chain.{AllInRing}
use Rattle.walk.proofs.Readings.{reading_sound, reading_header, reading_true, used_slots, entries_few, entries_rise, entries_inside}
use Rattle.store.specs.Store.{slots_for, made, stored, head_moved}
use Rattle.ring.specs.Ring.{empty_ring, slot_after, grown, shrunk, Storable, Alike}
use Rattle.ring.proofs.Making.{made_readable}
use Rattle.ring.proofs.Free.{free_alike, alike_header, alike_reading, alike_writing}
use Rattle.ring.proofs.Storing.{next_readable, next_writes}
use Rattle.ring.proofs.Moving.{moved_readable, moved_writes}

-- ---- what a readable ring is like

pub record Facts (r : List ℕ) (g : Ring) (es : List Entry) : Type 0 where
  pub sized : Sized r g.n
  pub head : g.head < g.n
  pub used : g.used ≡ slots_used es
  pub free : g.used < g.n
  pub few : length es ≤ most_entries
  -- every entry is valid, and the numbers rise from 1 or more
  pub rising : Rising 0 es
  pub inside : AllInRing g.n es
  pub writes : writes_of r ≡ Some (map (write_of (round r g.n)) es)

module _ (r : List ℕ) (g : Ring) (es : List Entry) (q : reading_of r ≡ readable g es) where
  pub readable_facts : Facts r g es
  readable_facts =
      let k = reading_sound r g es q in
      record {
        sized = k.headed.sized;
        head = k.headed.head;
        used = used_slots k;
        free = k.headed.used;
        few = entries_few k;
        rising = entries_rise k;
        inside = entries_inside k;
        writes = ap (writes_by r) q;
      }

-- ---- making: an empty ring in a buffer of a valid length reads as no entries

pub made_reads : (r : List ℕ) → Sized r (slots_for (length r)) → reading_of (made r) ≡ readable (empty_ring (slots_for (length r))) []
made_reads r z = reading_true (made_readable r z)

-- ---- free slots: two rings that differ only there read alike, and hold the same writes

pub alike_headed : (r r' : List ℕ) → Alike r r' → header_of r ≡ header_of r'
alike_headed r r' k = alike_header r r' k

pub alike_reads : (r r' : List ℕ) → Alike r r' → reading_of r ≡ reading_of r'
alike_reads r r' k = alike_reading r r' k

pub alike_holds : (r r' : List ℕ) → Alike r r' → writes_of r ≡ writes_of r'
alike_holds r r' k = alike_writing r r' k

-- any bytes behind the tail and short of the head
pub free_reads : (r : List ℕ) (g : Ring) (es : List Entry) (xs : List ℕ) → reading_of r ≡ readable g es
    → g.used * slot_size + length xs ≤ span_of g.n → Alike r (put r g.n ((g.head + g.used) * slot_size) xs)
free_reads r g es xs q room = free_alike r g xs (reading_header (reading_sound r g es q)) room

-- ---- storing: the entries before and the new one, each with its bytes

module _ (r : List ℕ) (g : Ring) (es : List Entry) (e : Entry) (bs : List ℕ) (q : reading_of r ≡ readable g es) (w : Storable g es e bs) where
  pub stored_reads : reading_of (stored r g.n e bs) ≡ readable (grown g e) (es ++ e ∷ [])
  stored_reads = reading_true (next_readable r g es e bs (reading_sound r g es q) w)

  pub stored_holds : writes_of (stored r g.n e bs) ≡ Some (map (write_of (round r g.n)) es ++ written e bs ∷ [])
  stored_holds = ap (writes_by (stored r g.n e bs)) stored_reads ∙ ap Some (next_writes r g es e bs (reading_sound r g es q) w)

-- ---- moving the head: past the first entries, the rest is read, with the same bytes

module _ (r : List ℕ) (g : Ring) (xs ks : List Entry) (q : reading_of r ≡ readable g (xs ++ ks)) where
  -- the ring with the head moved on past xs
  abbrev pub past : List ℕ
  past = head_moved r (slot_after g (slots_used xs))

  pub moved_reads : reading_of past ≡ readable (shrunk g (slots_used xs)) ks
  moved_reads = reading_true (moved_readable r g xs ks (reading_sound r g (xs ++ ks) q))

  pub moved_holds : writes_of past ≡ Some (map (write_of (round r g.n)) ks)
  moved_holds = ap (writes_by past) moved_reads ∙ ap Some (moved_writes r g xs ks (reading_sound r g (xs ++ ks) q))
