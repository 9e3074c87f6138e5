-- Two rings that differ only in free slots.
use Rattle.std.specs.Prelude.{None, Option, Some}
use Prim.Native.Nat.{ℕ, ◌+◌, ◌*◌, ◌≤◌, ◌<◌}
use mathlib.Core.Path.{◌≡◌, refl, sym, ap, ◌∙◌}
use mathlib.Core.List.{List}
use native.Mathlib.Omega.{arith}
use lib.ListN.{length}
use Rattle.layout.specs.Sizes.{header_size, slot_size, span_of}
use Rattle.layout.specs.Bytes.{flat, round, put}
use Rattle.layout.specs.declared.Ring.{Ring}
use Rattle.layout.proofs.Views.{same_part, same_back, zeros_same}
use Rattle.layout.proofs.Puts.{length_put, put_header, put_old}
use Rattle.walk.specs.Header.{is_header, header_of}
use Rattle.walk.specs.Walk.{Reading, readable, unreadable, reads, reading_by, reading_of, writes_by, writes_of}
use Rattle.walk.proofs.Walks.{walk_same}
use Rattle.walk.proofs.Readings.{reading_sound, reading_header, writes_same}
use Rattle.ring.specs.Ring.{Alike}

module _ (r r' : List ℕ) (k : Alike r r') where
  at : (j : ℕ) → j < header_size → flat r j ≡ flat r' j
  at j l = let e : j ≡ 0 + j = omega arith in ap (flat r) e ∙ k.header.at j l ∙ ap (flat r') (sym e)

  pub alike_header : header_of r ≡ header_of r'
  unfolding header_of is_header
  alike_header =
      rw (
        k.len,
        at 0 (omega arith),
        at 1 (omega arith),
        at 2 (omega arith),
        at 3 (omega arith),
        zeros_same 12 (same_part k.header 4 12 (omega arith)),
      )

  by_header : (h : Option Ring) → header_of r ≡ h → reading_by r h ≡ reading_by r' h
  by_header None e = refl
  by_header (Some g) e =
      ap (reads g) (walk_same g.n (round r g.n) g.head (round r' g.n) g.head g.used 0 (record { slot = refl; bytes = k.slots g e }))

  pub alike_reading : reading_of r ≡ reading_of r'
  unfolding reading_of
  alike_reading = by_header (header_of r) refl ∙ ap (reading_by r') alike_header

  by_reading : (x : Reading) → reading_of r ≡ x → writes_by r x ≡ writes_by r' x
  by_reading unreadable e = refl
  by_reading (readable g es) e =
      let w = reading_sound r g es e in
      ap Some (writes_same r r' g.n (omega (arith, w.headed.sized.low)) w.chain (record { slot = refl; bytes = k.slots g (reading_header w) }))

  pub alike_writing : writes_of r ≡ writes_of r'
  alike_writing = by_reading (reading_of r) refl ∙ ap (writes_by r') alike_reading

-- whatever is stored behind the tail, short of the head, leaves an alike ring
pub free_alike : (r : List ℕ) (g : Ring) (xs : List ℕ) → header_of r ≡ Some g → g.used * slot_size + length xs ≤ span_of g.n
    → Alike r (put r g.n ((g.head + g.used) * slot_size) xs)
free_alike r g xs h room =
    let p = (g.head + g.used) * slot_size in
    record {
      len = sym (length_put xs r g.n p);
      header = record { at = λ i l. sym (put_header xs r g.n p (0 + i) (omega arith)) };
      slots = λ g' e.
          let q : g ≡ g' = (cc) in
          rw (← q) (same_back (put_old xs r g.n p (g.head * slot_size) (g.used * slot_size) (omega arith) (omega arith)));
    }
