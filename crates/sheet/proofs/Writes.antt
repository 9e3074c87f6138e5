-- The sheet's pieces, said of any list of writes: they are the paper's, and never more than the writes.
-- Document 01, "Moves", paragraph "Sheet".
use Prim.Native.Nat.{ℕ, zero, suc, ◌≤◌, ◌<◌}
use native.Mathlib.Omega.{arith}
use mathlib.Core.Path.{◌≡◌, refl, sym, ap, ◌∙◌}
use mathlib.Core.Bool.{Bool, true, false}
use mathlib.Core.List.{List, [], ◌∷◌, map}
use borrow.Author.Tests.{leb-true}
use lib.ListN.{length, take, get_or, length-map}
use lib.Seq.{take-suc, take_all}
use lib.Dec.{leb}
use Rattle.std.specs.Prelude.{Some, Option, Some}
use Rattle.layout.specs.Sizes.{largest}
use Rattle.layout.proofs.Tests.{both_left, both_right}
use Rattle.walk.specs.declared.Entry.{Entry}
use Rattle.walk.specs.Walk.{no_entry, Write}
use Rattle.state.specs.Lists.{pick, any, all}
use Rattle.state.proofs.Pairs.{any_append}
use Rattle.shore.specs.Cover.{covers}
use Rattle.sheet.specs.Sheet.{key_of, end_of, pieces_of}
use Rattle.sheet.specs.Places.{overlies, top_of, key_at, key_by, is_short, grow, in_order}
use Rattle.sheet.proofs.Growing.{gather_same}
use Rattle.sheet.proofs.Right.{AreThose, right}
use Rattle.sheet.proofs.Few.{few_pieces}
use Rattle.sheet.proofs.Cutting.{pieces_grown}
use Rattle.std.proofs.lemmas.List.{length-reverse, reverse-reverse}
use Rattle.sheet.proofs.Covered.{key_is}

-- the pieces, taken from the last one back: each is the last of the places that are left, none could have gone on into the next
pub pieces_right : (ws : List Write) → AreThose (key_of ws) (end_of ws) (in_order (pieces_of ws))
pieces_right ws = rw (pieces_grown ws, reverse-reverse (grow (key_of ws) (end_of ws))) (right (key_of ws) (end_of ws))

-- ---- never more pieces than writes

-- a write's offset and length, which are all that its pieces depend on
abbrev extent : Write → Entry
extent w = record { number = w.number; node = w.node; handle = w.handle; offset = w.offset; length = length w.bytes; zero = 0; slot = 0 }

covers_extent : (p : ℕ) (ws : List Write) → any (overlies p) (map extent ws) ≡ any (covers p) ws
covers_extent p [] = refl
covers_extent p (w ∷ ws) = ap (pick (covers p w) true) (covers_extent p ws)

key_by_law : (t : Bool) (n : ℕ) (o : Option ℕ) → key_at (pick t (Some n) o) ≡ pick t 1 (key_at o)
key_by_law true n o = refl
key_by_law false n o = refl

key_any : (p : ℕ) (es : List Entry) (n : ℕ) → n ≤ length es → key_at (top_of es n p) ≡ pick (any (overlies p) (take n es)) 1 0
unfolding top_of
key_any p es zero h = refl
key_any p es (suc n) h =
    let e : Entry = get_or es n no_entry in
    key_by_law (overlies p e) n (top_of es n p) ∙ ap (pick (overlies p e) 1) (key_any p es n (omega arith)) ∙ at (any (overlies p) (take n es)) (overlies p e)
    ∙ ap (λ b. pick b 1 0) (sym (any_append (overlies p) (take n es) (e ∷ []))) ∙ ap (λ xs. pick (any (overlies p) xs) 1 0) (sym (take-suc es n no_entry h))
  where
    at : (a b : Bool) → ◌≡◌ {A = ℕ} (pick b 1 (pick a 1 0)) (pick (pick a true (pick b true false)) 1 0)
    at true true = refl
    at true false = refl
    at false true = refl
    at false false = refl

module _ (ws : List Write) where
  abbrev es : List Entry
  es = map extent ws

  same_key : (p : ℕ) → key_of ws p ≡ key_by es p
  same_key p =
      key_is ws p ∙ ap (λ b. pick b 1 0) (sym (covers_extent p ws))
      ∙ ap (λ xs. pick (any (overlies p) xs) 1 0) (sym (take_all (length es) es (omega arith))) ∙ sym (key_any p es (length es) (omega arith))

  short_at : (vs : List Write) → all (λ w. leb (length w.bytes) largest) vs ≡ true → (i : ℕ) → i < length (map extent vs) → (get_or (map extent vs) i no_entry).length ≤ largest
  short_at [] o i h = absurd (let k : i < 0 = h in omega arith)
  short_at (w ∷ vs) o zero h = leb-true _ _ (both_left _ _ o)
  short_at (w ∷ vs) o (suc i) h = short_at vs (both_right (leb (length w.bytes) largest) _ o) i (omega arith)

  -- "There are never more pieces than writes in the batch."
  pub pieces_few : all (λ w. leb (length w.bytes) largest) ws ≡ true → length (pieces_of ws) ≤ length ws
  pieces_few o =
      let g : grow (key_of ws) (end_of ws) ≡ grow (key_by es) (end_of ws) = gather_same is_short (key_of ws) (key_by es) (end_of ws) (λ q _. same_key q) in
      let f = few_pieces es (short_at ws o) (end_of ws) in
      let l = ap length (pieces_grown ws) ∙ length-reverse (grow (key_of ws) (end_of ws)) ∙ ap length g in
      omega (arith, length-map ws extent)
