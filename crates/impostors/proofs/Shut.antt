-- Every impostor is shut out: its history keeps the premises, and what it gives there isn't what is asked.
use Prim.Native.Nat.{ℕ}
use mathlib.Core.Path.{◌≡◌, refl, sym, ap, ◌∙◌}
use mathlib.Core.Bool.{Bool, true, false, not}
use mathlib.Core.List.{List, [], ◌∷◌}
use lib.Dec.{eqb}
use borrow.Author.Tests.{eq-eqb, eqb-true}
use Rattle.layout.specs.Bytes.{round, both, is_ring_length, zeros_at, bytes_at, bytes2, bytes4, bytes8, number2, number4, number8, put}
use Rattle.layout.proofs.Tests.{never, both_left, both_right}
use Rattle.walk.specs.Header.{is_header, pick_header, header_of}
use Rattle.walk.specs.Entry.{valid_fields}
use Rattle.walk.specs.Walk.{walk_in, walk, reading_of, is_entry, pick_step}
use Rattle.store.specs.Store.{made, name_bytes, range_bytes, head_bytes, entry_bytes, stored, head_moved}
use Rattle.state.specs.Lists.{all}
use Rattle.state.specs.Moves.{move_of, reported}
use Rattle.state.specs.Pins.{mark_of, keeps, is_due, leaving, staying}
use Rattle.state.specs.Asks.{later_end, turn_of}
use Rattle.state.specs.Batch.{batch_of, take_first}
use Rattle.state.proofs.Finding.{Each, each_by, each_true}
use Rattle.judge.specs.Fits.{listed_fits, list_fits, next_fits, pins_differ, pins_fit, phases_fit, nodes_fit, pair_fits, flight_fits, head_stays, fits}
use Rattle.shore.specs.Cover.{spans, byte_over}
use Rattle.shore.specs.File.{put as put_byte, lay, puts, puts_all}
use Rattle.sheet.specs.Sheet.{key_of, goes_on, gather, cut_in, cut_all, pieces_of, list_of, data_by, sheet_by, sheet_of, node_in, pieces_at, puts_at, puts_in, laid_at}
use Rattle.rules.specs.Fill.{filled_from}
use Rattle.rules.specs.Refusals.{refusal_of}
use Rattle.rules.specs.Outcome.{outcome}
use Rattle.impostors.specs.Impostors.{Shown, ShutOut, impostors, own_mark_keeps_files}

-- ---- the test, and what it shows

abbrev alike : List ℕ → List ℕ → Bool
alike [] [] = true
alike [] (y ∷ ys) = false
alike (x ∷ xs) [] = false
alike (x ∷ xs) (y ∷ ys) = both (eqb x y) (alike xs ys)

alike_same : (xs : List ℕ) → alike xs xs ≡ true
unfolding both
alike_same [] = refl
alike_same (x ∷ xs) = rw (eq-eqb x x refl) (alike_same xs)

alike_sound : (xs ys : List ℕ) → alike xs ys ≡ true → xs ≡ ys
alike_sound [] [] e = refl
alike_sound [] (y ∷ ys) e = never (let w : true ≡ false = sym e in cc)
alike_sound (x ∷ xs) [] e = never (let w : true ≡ false = sym e in cc)
alike_sound (x ∷ xs) (y ∷ ys) e = rw (eqb-true x y (both_left _ _ e), alike_sound xs ys (both_right (eqb x y) _ e)) refl

abbrev is_shut : Shown → Bool
is_shut i = both i.fair (not (alike i.asked i.given))

shut : (i : Shown) → is_shut i ≡ true → ShutOut i
shut i e = (both_left _ _ e, λ same. never (let w : true ≡ false = sym (both_right i.fair _ e) ∙ ap not (ap (alike i.asked) (sym same) ∙ alike_same i.asked) in cc))

computed : all is_shut impostors ≡ true
unfolding round both is_ring_length zeros_at bytes2 bytes4 bytes8 put is_header pick_header header_of walk_in walk reading_of made name_bytes range_bytes head_bytes entry_bytes stored move_of reported mark_of keeps is_due leaving staying valid_fields is_entry pick_step head_moved listed_fits list_fits next_fits pins_differ pins_fit phases_fit nodes_fit pair_fits flight_fits head_stays fits refusal_of outcome number2 number4 number8 later_end turn_of bytes_at spans byte_over key_of goes_on gather cut_in cut_all pieces_of list_of data_by sheet_by sheet_of filled_from batch_of take_first laid_at put_byte lay puts puts_all node_in pieces_at puts_at puts_in
computed = refl

pub all_shut : Each ShutOut impostors
all_shut = each_by _ _ impostors shut (each_true is_shut impostors computed)

-- a wrong mark breaks only the fill claim: the file stays whole
whole_still : alike own_mark_keeps_files.given own_mark_keeps_files.asked ≡ true
unfolding round both is_ring_length zeros_at bytes2 bytes4 bytes8 put is_header pick_header header_of walk_in walk reading_of made name_bytes range_bytes head_bytes entry_bytes stored move_of reported mark_of keeps is_due leaving staying valid_fields is_entry pick_step head_moved listed_fits list_fits next_fits pins_differ pins_fit phases_fit nodes_fit pair_fits flight_fits head_stays fits refusal_of outcome number2 number4 number8 later_end turn_of bytes_at spans byte_over key_of goes_on gather cut_in cut_all pieces_of list_of data_by sheet_by sheet_of filled_from batch_of take_first laid_at put_byte lay puts puts_all node_in pieces_at puts_at puts_in
whole_still = refl

pub only_the_fill : own_mark_keeps_files.given ≡ own_mark_keeps_files.asked
only_the_fill = alike_sound _ _ whole_still
