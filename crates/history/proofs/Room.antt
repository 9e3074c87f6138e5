-- The ring's size never changes, and the slots in use are those of the writes that must be held.
use Rattle.std.specs.Prelude.{Option, None, Some}
use Prim.Native.Nat.{ℕ, ◌+◌, ◌*◌}
use mathlib.Core.Path.{◌≡◌, refl, sym, ap, ◌∙◌}
use mathlib.Core.Bool.{Bool, true, false}
use mathlib.Core.List.{List, [], ◌∷◌, map}
use lib.ListN.{length, length-set}
use Rattle.reason.specs.declared.Reason.{Reason}
use Rattle.layout.specs.Sizes.{slot_size, head_size, slots_of}
use Rattle.layout.specs.Bytes.{put}
use Rattle.layout.specs.declared.Ring.{Ring}
use Rattle.layout.proofs.Tests.{never}
use Rattle.layout.proofs.Views.{bytes_length}
use Rattle.layout.proofs.Puts.{length_put}
use Rattle.walk.specs.declared.Entry.{Entry}
use Rattle.walk.specs.Walk.{slots_used, write_of}
use Rattle.store.specs.Store.{entry_bytes, tail_after, stored, head_moved}
use Rattle.state.specs.declared.State.{State}
use Rattle.state.specs.declared.Held.{Held}
use Rattle.rules.specs.Call.{Call, Kind, makes, reopens, writes, pins, unpins, asks_end, reports, starts, fills, takes_ticket, asks_ticket, asks_turn, is_one}
use Rattle.rules.specs.Flush.{has_batch}
use Rattle.rules.specs.Refusals.{refusal_of}
use Rattle.rules.specs.Outcome.{report_done, start_done, done_by, outcome}
use Rattle.history.specs.World.{World, Move, call, land, world}
use Rattle.history.specs.Tale.{slots_taken}
use Rattle.history.specs.Fair.{AllFair}

-- ---- no call but making changes the length of the ring

stored_length : (r : List ℕ) (n : ℕ) (e : Entry) (bs : List ℕ) → length (stored r n e bs) ≡ length r
unfolding stored
stored_length r n e bs = length-set (put r n (e.slot * slot_size) (entry_bytes e bs)) 3 (tail_after n e) ∙ length_put (entry_bytes e bs) r n (e.slot * slot_size)

moved_length : (r : List ℕ) (slot : ℕ) → length (head_moved r slot) ≡ length r
unfolding head_moved
moved_length r slot = length-set r 2 slot

report_length : (b : Bool) (g : Ring) (hs : List Held) (r : List ℕ) (s : State) → length (report_done b g hs r s).ring ≡ length r
report_length true g hs r s = moved_length r _
report_length false g hs r s = refl

start_length : (b : Bool) (node : ℕ) (g : Ring) (hs : List Held) (r : List ℕ) (s : State) (d : List ℕ) → length (start_done b node g hs r s d).ring ≡ length r
start_length true node g hs r s d = refl
start_length false node g hs r s d = refl

module _ (c : Call) (r : List ℕ) (s : State) (not_made : is_one c (makes ∷ []) ≡ false) where
  done_length : (kind : Kind) → c.kind ≡ kind → (g : Ring) (es : List Entry) (hs : List Held) → length (done_by kind c g es hs r s).ring ≡ length r
  done_length makes e g es hs = never (let w : true ≡ false = (rw e at not_made) in cc)
  done_length reopens e g es hs = refl
  done_length writes e g es hs = stored_length r g.n _ c.bytes
  done_length pins e g es hs = refl
  done_length unpins e g es hs = moved_length r _
  done_length asks_end e g es hs = refl
  done_length reports e g es hs = report_length c.good g hs r s
  done_length starts e g es hs = start_length (has_batch c.node hs) c.node g hs r s c.buffer
  done_length fills e g es hs = refl
  done_length takes_ticket e g es hs = refl
  done_length asks_ticket e g es hs = refl
  done_length asks_turn e g es hs = refl

  length_by : (x : Option Reason) → refusal_of c r s ≡ x → length (outcome c r s).ring ≡ length r
  unfolding outcome
  length_by None o = rw o (done_length c.kind refl _ _ _)
  length_by (Some why) o = rw o refl

pub world_length : (W : World) (ms : List Move) → AllFair W ms → length (world W ms).ring ≡ length W.ring
world_length W [] f = refl
world_length W (call c ∷ ms) f = length_by c (world W ms).ring (world W ms).state f.0.not_made (refusal_of c (world W ms).ring (world W ms).state) refl ∙ world_length W ms f.1
world_length W (land k ∷ ms) f = world_length W ms f.1

-- ---- the slots in use

pub slots_taken_law : (f : ℕ → ℕ) (es : List Entry) → slots_used es ≡ slots_taken (map (write_of f) es)
slots_taken_law f [] = refl
slots_taken_law f (e ∷ es) =
    ap (λ l. slots_of l + slots_used es) (sym (bytes_length f (e.slot * slot_size + head_size) e.length)) ∙ ap (λ n. slots_of (length (write_of f e).bytes) + n) (slots_taken_law f es)
