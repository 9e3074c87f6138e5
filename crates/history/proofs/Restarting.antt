-- A restart: every entry comes back Unflushed, and the world and the tale still agree.
use Rattle.std.specs.Prelude.{None}
use Prim.Native.Nat.{ℕ}
use mathlib.Core.Path.{◌≡◌, refl, sym, ap, ◌∙◌}
use mathlib.Core.Bool.{Bool, true, false, not}
use mathlib.Core.List.{List, [], ◌∷◌, ◌++◌, map}
use borrow.Author.Tests.{eqb-true, eq-eqb}
use lib.ListN.{take, length-map}
use lib.Dec.{eqb}
use Rattle.layout.specs.Bytes.{both, round}
use Rattle.layout.proofs.Tests.{never, both_left, both_right}
use Rattle.walk.specs.declared.Entry.{Entry}
use Rattle.walk.specs.Walk.{Write, write_of}
use Rattle.state.specs.Lists.{pick, all, pairs, flushed, listed, holding, entry_of, comes_back, with_held, reopened}
use Rattle.state.proofs.Bools.{no_both, both_no, both_yes}
use Rattle.judge.specs.Fits.{phases_fit, pair_fits}
use Rattle.rules.specs.Call.{Call, reopens}
use Rattle.rules.proofs.Fit.{held_again}
use Rattle.rules.proofs.Standing.{hs_fit}
use Rattle.rules.proofs.Staying.{reopened_stands}
use Rattle.history.specs.World.{World}
use Rattle.history.specs.Tale.{Tale, among, numbers_of, tell_by}
use Rattle.history.proofs.Seeing.{phase_in, seen, back_seen}
use Rattle.history.proofs.Pinning.{pins_none}
use Rattle.history.proofs.Shores.{Parted, of_node, sure, waiting, shore_restarts}
use Rattle.history.proofs.Agreeing.{Agrees}
use Rattle.history.proofs.Changing.{stands_as}
use Rattle.history.proofs.Leaving.{seen_entries}

-- ---- of one node, those that are good stand before those that wait

module _ (f : ℕ → ℕ) (good batch : List ℕ) where
  -- behind a write that waits none of its node is good
  good_phase : (e : Entry) → among e.number good ≡ true → eqb (phase_in good batch e.number) flushed ≡ true
  good_phase e z = rw z refl

  wait_phase : (e : Entry) → among e.number good ≡ false → eqb (phase_in good batch e.number) flushed ≡ false
  wait_phase e z = rw z (at (among e.number batch))
    where
      at : (b : Bool) → eqb (pick b 1 0) flushed ≡ false
      at true = refl
      at false = refl

  no_good_behind : (e x : Entry) → eqb e.node x.node ≡ true → among e.number good ≡ false → pair_fits (seen good batch e) (seen good batch x) ≡ true → among x.number good ≡ false
  unfolding pair_fits phases_fit both
  no_good_behind e x n z p = at (among x.number good) refl
    where
      at : (b : Bool) → among x.number good ≡ b → b ≡ false
      at false y = refl
      at true y =
          let a = wait_phase e z in
          let b = good_phase x y in
          let o : phases_fit (phase_in good batch e.number) (phase_in good batch x.number) ≡ true = rw n at p in
          let w : not (both (not (eqb (phase_in good batch e.number) flushed)) (eqb (phase_in good batch x.number) flushed)) ≡ true = both_left _ _ o in
          let v : false ≡ true = rw (a, b) at w in
          never (cc)

  behind : (n : ℕ) (e : Entry) (es : List Entry) → eqb e.node n ≡ true → among e.number good ≡ false → all (pair_fits (seen good batch e)) (map (seen good batch) es) ≡ true
      → sure good n (map (write_of f) es) ≡ []
  behind n e [] m z o = refl
  behind n e (x ∷ es) m z o = at (eqb x.node n) refl (behind n e es m z (both_right (pair_fits (seen good batch e) (seen good batch x)) _ o))
    where
      at : (b : Bool) → eqb x.node n ≡ b → sure good n (map (write_of f) es) ≡ [] → pick (both b (among x.number good)) (write_of f x ∷ sure good n (map (write_of f) es)) (sure good n (map (write_of f) es)) ≡ []
      at false y k = rw (no_both (among x.number good)) k
      at true y k =
          let same : eqb e.node x.node ≡ true = eq-eqb e.node x.node (eqb-true e.node n m ∙ sym (eqb-true x.node n y)) in
          rw (no_good_behind e x same z (both_left _ _ o), both_no true) k

  pub parted : (es : List Entry) → pairs pair_fits (map (seen good batch) es) ≡ true → Parted good (map (write_of f) es)
  parted [] o n = refl
  parted (e ∷ es) o n = at (eqb e.node n) refl (among e.number good) refl (parted es (both_right (all (pair_fits (seen good batch e)) (map (seen good batch) es)) _ o) n)
    where
      ws : List Write
      ws = map (write_of f) es

      at : (b : Bool) → eqb e.node n ≡ b → (g : Bool) → among e.number good ≡ g → of_node n ws ≡ sure good n ws ++ waiting good n ws
          → pick b (write_of f e ∷ of_node n ws) (of_node n ws) ≡ pick (both b g) (write_of f e ∷ sure good n ws) (sure good n ws) ++ pick (both b (not g)) (write_of f e ∷ waiting good n ws) (waiting good n ws)
      at false y g z k = rw (no_both g, no_both (not g)) k
      at true y true z k = rw (both_yes true, both_no true) (ap (◌∷◌ (write_of f e)) k)
      at true y false z k =
          let s : sure good n ws ≡ [] = behind n e es y z (both_left _ _ o) in
          rw (both_no true, both_yes true, s) (ap (◌∷◌ (write_of f e)) (k ∙ ap (◌++ waiting good n ws) s))

module _ (files : ℕ → List ℕ) (W : World) (t : Tale) (k : Agrees files W t) where
  abbrev es : List Entry
  es = k.stands.entries

  pub parted_held : Parted t.good t.held
  parted_held =
      rw (← k.written) (parted (round W.ring k.stands.ring.n) t.good (numbers_of t.batch) es (rw k.told at (hs_fit W.ring W.state k.stands).order))

  told : holding es (listed (reopened es)) ≡ map (seen [] []) es
  told =
      ap (λ xs. holding es (take xs (reopened es).writes)) (sym (length-map es comes_back))
      ∙ ap (λ xs. holding xs (listed (with_held (reopened es) (map comes_back es)))) (sym (ap (map entry_of) (back_seen es) ∙ seen_entries [] [] es))
      ∙ held_again (reopened es) (map comes_back es) ∙ back_seen es

  pub agrees_reopen : (c : Call) (vs : List ℕ) → Agrees files (record { ring = W.ring; state = reopened es; shore = W.shore; out = None }) (tell_by reopens c vs t)
  agrees_reopen c vs = record {
    stands = stands_as W.ring (reopened es) k.stands.ring es k.stands.reading (reopened_stands W.ring k.stands.ring es k.stands.reading);
    written = k.written;
    told = told;
    pinned = pins_none;
    below_good = tt;
    below_batch = tt;
    on_shore = shore_restarts files W.shore t.accepted t.held t.good k.on_shore parted_held;
    flying = refl;
    out_fits = refl;
  }
