-- Every starred case of document 01 holds: the definitions compute what the paper prints.
use mathlib.Core.Path.{refl}
use Rattle.layout.specs.Bytes.{round, both, is_ring_length, zeros_at, bytes2, bytes4, bytes8, number2, number4, number8, put}
use Rattle.walk.specs.Header.{is_header, pick_header, header_of}
use Rattle.walk.specs.Walk.{walk_in, walk, reading_of, is_entry, pick_step}
use Rattle.store.specs.Store.{made, name_bytes, range_bytes, head_bytes, entry_bytes, stored, head_moved}
use Rattle.state.specs.Moves.{move_of, reported}
use Rattle.state.specs.Pins.{mark_of, keeps, is_due, leaving, staying}
use Rattle.walk.specs.Entry.{valid_fields}
use Rattle.judge.specs.Fits.{listed_fits, list_fits, next_fits, pins_differ, pins_fit, phases_fit, nodes_fit, pair_fits, flight_fits, head_stays, fits}
use Rattle.state.specs.Asks.{later_end}
use Rattle.layout.specs.Bytes.{bytes_at}
use Rattle.state.specs.Batch.{batch_of, take_first}
use Rattle.shore.specs.Cover.{spans, byte_over}
use Rattle.sheet.specs.Sheet.{key_of, goes_on, gather, cut_in, cut_all, pieces_of, list_of, data_by, sheet_by, sheet_of, laid_at}
use Rattle.rules.specs.Fill.{filled_from}
use Rattle.rules.specs.Refusals.{refusal_of}
use Rattle.rules.specs.Outcome.{outcome}
use Rattle.cases.specs.Cases.{Hold, starred}

pub starred_hold : Hold starred
unfolding round both is_ring_length zeros_at bytes2 bytes4 bytes8 put is_header pick_header header_of walk_in walk reading_of made name_bytes range_bytes head_bytes entry_bytes stored move_of reported mark_of keeps is_due leaving staying valid_fields is_entry pick_step head_moved listed_fits list_fits next_fits pins_differ pins_fit phases_fit nodes_fit pair_fits flight_fits head_stays fits refusal_of outcome number2 number4 number8 later_end bytes_at spans byte_over key_of goes_on gather cut_in cut_all pieces_of list_of data_by sheet_by sheet_of filled_from batch_of take_first laid_at
starred_hold = refl
