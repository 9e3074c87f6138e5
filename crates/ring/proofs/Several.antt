-- Several entries stored one behind the other: after a cut the ring holds the writes before, and each new one exactly if its tail byte was stored.
use Rattle.std.specs.Prelude.{Option, Some}
use Prim.Native.Nat.{ℕ, ◌+◌, ◌-◌}
use mathlib.Core.Path.{◌≡◌, refl, sym, ap, ◌∙◌, subst}
use mathlib.Core.Bool.{Bool, true, false}
use mathlib.Core.List.{List, [], ◌∷◌, ◌++◌, map, append_assoc, append-nil}
use lib.Dec.{leb}
use Rattle.layout.specs.Sizes.{slots_of}
use Rattle.layout.specs.Bytes.{round}
use Rattle.layout.specs.declared.Ring.{Ring}
use Rattle.walk.specs.declared.Entry.{Entry}
use Rattle.walk.specs.Walk.{Write, readable, reading_of, write_of, writes_of}
use Rattle.walk.proofs.Readings.{reading_sound, reading_header}
use Rattle.store.specs.Steps.{run, cut}
use Rattle.store.specs.Store.{stored}
use Rattle.store.specs.Storing.{store_steps}
use Rattle.store.proofs.Steps.{run_append, store_count, stored_run}
use Rattle.ring.specs.Ring.{grown}
use Rattle.ring.specs.Parts.{AllHidden, joined, first, whole_of}
use Rattle.ring.specs.Several.{Coming, write_in, AllStorable, stores_of, first_in, tails_done}
use Rattle.ring.proofs.Cutting.{store_hidden, parts_cut}
use Rattle.ring.proofs.Laws.{readable_facts, stored_reads, stored_holds, alike_holds}

pub stores_hidden : (xs : List Coming) (r : List ℕ) (g : Ring) (es : List Entry) → reading_of r ≡ readable g es → AllStorable g es xs → AllHidden r (stores_of g.n xs)
stores_hidden [] r g es q w = tt
stores_hidden (x ∷ xs) r g es q w =
    let k = w.0 in (
      store_hidden r g x.entry x.bytes (reading_header (reading_sound r g es q)) k.slot k.bytes k.room,
      subst (λ y. AllHidden y (stores_of g.n xs)) (stored_run r g.n x.entry x.bytes k.bytes)
          (stores_hidden xs (stored r g.n x.entry x.bytes) (grown g x.entry) (es ++ x.entry ∷ []) (stored_reads r g es x.entry x.bytes q k) w.1),
    )

same_writes : (xs ys : List Write) → ◌≡◌ {A = Option (List Write)} (Some xs) (Some ys) → xs ≡ ys
same_writes xs ys e = cc

pub stores_hold : (xs : List Coming) (r : List ℕ) (g : Ring) (es : List Entry) (ws : List Write) → reading_of r ≡ readable g es → writes_of r ≡ Some ws → AllStorable g es xs
    → writes_of (run r (joined (stores_of g.n xs))) ≡ Some (ws ++ map write_in xs)
unfolding run
stores_hold [] r g es ws q e w = e ∙ ap Some (sym (append-nil ws))
stores_hold (x ∷ xs) r g es ws q e w =
    let old : map (write_of (round r g.n)) es ≡ ws = same_writes _ ws (sym (readable_facts r g es q).writes ∙ e) in
    let e₁ : writes_of (stored r g.n x.entry x.bytes) ≡ Some (ws ++ write_in x ∷ []) = stored_holds r g es x.entry x.bytes q w.0 ∙ ap (λ ys. Some (ys ++ write_in x ∷ [])) old in
    ap writes_of (run_append (store_steps g.n x.entry x.bytes) (joined (stores_of g.n xs)) r)
    ∙ ap (λ y. writes_of (run y (joined (stores_of g.n xs)))) (sym (stored_run r g.n x.entry x.bytes (w.0).bytes))
    ∙ stores_hold xs (stored r g.n x.entry x.bytes) (grown g x.entry) (es ++ x.entry ∷ []) (ws ++ write_in x ∷ []) (stored_reads r g es x.entry x.bytes q w.0) e₁ w.1
    ∙ ap Some (append_assoc ws (write_in x ∷ []) (map write_in xs))

-- the parts done whole are those of the entries whose tail byte is stored
whole_tails : (n : ℕ) (xs : List Coming) (k : ℕ) → whole_of (stores_of n xs) k ≡ stores_of n (tails_done xs k)
whole_tails n [] k = refl
whole_tails n (x ∷ xs) k =
    ap (λ l. first (leb l k) (store_steps n x.entry x.bytes) (whole_of (stores_of n xs) (k - l))) (store_count n x.entry x.bytes)
    ∙ at (leb (slots_of x.entry.length + 1) k) (whole_tails n xs (k - (slots_of x.entry.length + 1)))
  where
    at : (b : Bool) → whole_of (stores_of n xs) (k - (slots_of x.entry.length + 1)) ≡ stores_of n (tails_done xs (k - (slots_of x.entry.length + 1)))
        → first b (store_steps n x.entry x.bytes) (whole_of (stores_of n xs) (k - (slots_of x.entry.length + 1))) ≡ stores_of n (first_in b x (tails_done xs (k - (slots_of x.entry.length + 1))))
    at true e = ap (◌∷◌ (store_steps n x.entry x.bytes)) e
    at false e = refl

tails_storable : (xs : List Coming) (g : Ring) (es : List Entry) (k : ℕ) → AllStorable g es xs → AllStorable g es (tails_done xs k)
tails_storable [] g es k w = tt
tails_storable (x ∷ xs) g es k w =
    at (leb (slots_of x.entry.length + 1) k) (tails_storable xs (grown g x.entry) (es ++ x.entry ∷ []) (k - (slots_of x.entry.length + 1)) w.1)
  where
    at : (b : Bool) → AllStorable (grown g x.entry) (es ++ x.entry ∷ []) (tails_done xs (k - (slots_of x.entry.length + 1)))
        → AllStorable g es (first_in b x (tails_done xs (k - (slots_of x.entry.length + 1))))
    at true o = (w.0, o)
    at false o = tt

pub stores_cut : (xs : List Coming) (r : List ℕ) (g : Ring) (es : List Entry) (ws : List Write) → reading_of r ≡ readable g es → writes_of r ≡ Some ws → AllStorable g es xs
    → (k : ℕ) (junk : List ℕ) → writes_of (cut r (joined (stores_of g.n xs)) k junk) ≡ Some (ws ++ map write_in (tails_done xs k))
stores_cut xs r g es ws q e w k junk =
    sym (alike_holds _ _ (parts_cut (stores_of g.n xs) r (stores_hidden xs r g es q w) k junk))
    ∙ ap (λ ps. writes_of (run r (joined ps))) (whole_tails g.n xs k)
    ∙ stores_hold (tails_done xs k) r g es ws q e (tails_storable xs g es k w)
