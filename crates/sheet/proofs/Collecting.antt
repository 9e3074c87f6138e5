-- The pass that collects the pieces: what it has so far are the pieces of the places passed.
use Prim.Native.Nat.{ℕ, ◌+◌, ◌-◌, ◌≤◌, ◌<◌}
use native.Mathlib.Omega.{arith}
use mathlib.Core.Path.{◌≡◌, refl, sym, ap, ◌∙◌}
use mathlib.Core.List.{List, [], ◌∷◌, ◌++◌}
use lib.ListN.{length}
use Rattle.std.proofs.lemmas.List.{length-reverse, reverse-append}
use Rattle.walk.specs.declared.Entry.{Entry}
use Rattle.state.specs.Batch.{most_batch}
use Rattle.std.specs.Prelude.{Option, Some, None}
use Rattle.layout.specs.Rack.{rack_of}
use Rattle.sheet.specs.declared.Piece.{Piece}
use Rattle.sheet.specs.declared.Pieces.{Pieces}
use Rattle.sheet.specs.declared.Start.{Start}
use Rattle.sheet.specs.Sheet.{piece, gather}
use Rattle.sheet.specs.Places.{key_by, grow, in_order, total, pieces_from, no_piece, Batch, First, Ends, StartFrom}
use Rattle.sheet.proofs.Growing.{Shut, skip_to, skip_shut, grown, grown_shut, start_shut}
use Rattle.sheet.proofs.Few.{few_pieces}
use Rattle.sheet.proofs.Storing.{total_append}

total_snoc : (qs : List Piece) (q : Piece) → total (qs ++ q ∷ []) ≡ total qs + q.size
total_snoc qs q = total_append qs (q ∷ []) ∙ omega arith

-- what is listed are the pieces of the places below `at`, and a covered place from there on begins the next
pub record Collected (c : ℕ → ℕ) (e : ℕ) (list : List Piece) (size at : ℕ) : Type 0 where
  pub most : at ≤ e
  pub shut : Shut c at e
  pub listed : list ≡ in_order (grow c at)
  pub summed : size ≡ total list
  pub within : size ≤ at

pub collect_start : (c : ℕ → ℕ) (e : ℕ) (list : List Piece) → list ≡ [] → Collected c e list 0 0
unfolding gather
collect_start c e list l = record { most = omega arith; shut = start_shut c e; listed = l; summed = rw l refl; within = omega arith }

module _ (es : List Entry) (b : Batch es) (e : ℕ) (list : List Piece) (size at : ℕ) (k : Collected (key_by es) e list size at)
    (s : ℕ) (h : s < e) (f : First (key_by es) at e s) (r : ℕ) (d : Ends (key_by es) s e r) where
  abbrev c : ℕ → ℕ
  c = key_by es

  abbrev q : Piece
  q = piece s (r - s) (c s)

  one_more : grow c r ≡ q ∷ grow c at
  one_more = grown c s e r (f.here h) (skip_shut c at e s k.shut f) d ∙ ap (◌∷◌ q) (skip_to c at s f.from f.bare)

  -- there is room for one piece more
  pub collect_room : length list < most_batch
  collect_room =
      let l = ap length one_more in
      let o = ap length k.listed ∙ length-reverse (grow c at) in
      omega (arith, few_pieces es b.most r, b.few)

  pub collect_on : (list' : List Piece) (key : ℕ) → list' ≡ list ++ piece s (r - s) key ∷ [] → key ≡ c s → Collected c e list' (size + (r - s)) r
  collect_on list' key l x =
      let t = total_snoc list (piece s (r - s) key) in
      record {
        most = d.most;
        shut = grown_shut c s e r (f.here h) (skip_shut c at e s k.shut f) d;
        listed = l ∙ ap (λ y. list ++ piece s (r - s) y ∷ []) x ∙ ap (◌++ q ∷ []) k.listed ∙ sym (ap in_order one_more ∙ reverse-append (q ∷ []) (grow c at));
        summed = rw l (omega (arith, k.summed));
        within = omega (arith, k.within, d.after, f.from);
      }

pub collect_end : (c : ℕ → ℕ) (e : ℕ) (list : List Piece) (size at : ℕ) → Collected c e list size at
    → (r : Option Start) → StartFrom c at e r → ((s : Start) → r ≡ Some s → ⊥)
    → (w : Pieces) → w.size ≡ size → w.list ≡ rack_of no_piece list → w ≡ pieces_from (in_order (grow c e))
collect_end c e list size at k None f n w a b = rw (skip_to c at e f.from f.bare, ← k.listed, ← k.summed, ← a, ← b) refl
collect_end c e list size at k (Some s) f n w a b = absurd (n s refl)
