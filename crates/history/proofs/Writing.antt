-- A write that is accepted: the world and the tale still agree.
use Rattle.std.specs.Prelude.{Option, None, Some}
use Prim.Native.Nat.{ℕ, ◌+◌, ◌<◌}
use mathlib.Core.Path.{◌≡◌, sym, ap, ◌∙◌}
use mathlib.Core.Bool.{Bool, true, false}
use mathlib.Core.List.{List, [], ◌∷◌, ◌++◌, map, map-append, append_assoc}
use native.Mathlib.Omega.{arith}
use lib.ListN.{length}
use Rattle.layout.specs.Bytes.{round}
use Rattle.walk.specs.declared.Entry.{Entry}
use Rattle.walk.specs.Walk.{readable, reading_of, Write, write_of, written}
use Rattle.layout.proofs.Tests.{never, true_not_false}
use Rattle.store.specs.Store.{stored}
use Rattle.ring.specs.Ring.{grown}
use Rattle.ring.proofs.Laws.{stored_reads, stored_holds}
use Rattle.state.specs.declared.State.{State}
use Rattle.state.specs.declared.Held.{Held}
use Rattle.state.specs.Lists.{pick, unflushed, listed, holding, entry_of, with_next, with_held}
use Rattle.state.proofs.Finding.{Each, each_by, each_join}
use Rattle.rules.specs.Call.{Call, writes}
use Rattle.rules.specs.Outcome.{new_entry}
use Rattle.rules.proofs.Owning.{Writable}
use Rattle.rules.proofs.Standing.{Real, hs_entries, storable, stands_write}
use Rattle.rules.proofs.Fit.{held_again}
use Rattle.history.specs.World.{World}
use Rattle.history.specs.Tale.{Tale, among, numbers_of, tell_by}
use Rattle.state.proofs.Those.{those_append}
use Rattle.history.proofs.Seeing.{seen, written_seen}
use Rattle.history.proofs.Shores.{shore_writes, waiting, waits}
use Rattle.history.proofs.Agreeing.{Agrees, SheetOut, OutFits}
use Rattle.history.proofs.Changing.{stands_as, holds_as, fresh}

module _ (files : ℕ → List ℕ) (W : World) (t : Tale) (k : Agrees files W t) (c : Call)
    (w : Writable k.stands.ring W.state c.node c.offset (length c.bytes)) (v : Real c) where
  abbrev r : List ℕ
  r = W.ring

  abbrev s : State
  s = W.state

  abbrev es : List Entry
  es = k.stands.entries

  abbrev e : Entry
  e = new_entry k.stands.ring W.state.next c

  abbrev r' : List ℕ
  r' = stored W.ring k.stands.ring.n e c.bytes

  abbrev new : Held
  new = record { entry = e; phase = unflushed }

  abbrev hs : List Held
  hs = holding k.stands.entries (listed W.state)

  abbrev s' : State
  s' = with_next (with_held s (hs ++ new ∷ [])) (s.next + 1)

  abbrev t' : Tale
  t' = tell_by writes c (s.next ∷ []) t

  reads : reading_of r' ≡ readable (grown k.stands.ring e) (es ++ e ∷ [])
  reads = stored_reads r k.stands.ring es e c.bytes k.stands.reading (storable r s k.stands c w v)

  holds : map (write_of (round r' k.stands.ring.n)) (es ++ e ∷ []) ≡ t.held ++ written e c.bytes ∷ []
  holds =
      holds_as r' (grown k.stands.ring e) (es ++ e ∷ []) (map (write_of (round r k.stands.ring.n)) es ++ written e c.bytes ∷ []) reads
      (stored_holds r k.stands.ring es e c.bytes k.stands.reading (storable r s k.stands c w v))
      ∙ ap (◌++ written e c.bytes ∷ []) k.written

  entries : map entry_of (hs ++ new ∷ []) ≡ es ++ e ∷ []
  entries = map-append entry_of hs (new ∷ []) ∙ ap (◌++ e ∷ []) (hs_entries r s k.stands)

  new_good : among s.next t.good ≡ false
  new_good = fresh s.next t.good k.below_good

  new_batch : among s.next (numbers_of t.batch) ≡ false
  new_batch = fresh s.next (numbers_of t.batch) k.below_batch

  tells : holding (es ++ e ∷ []) (listed s') ≡ map (seen t.good (numbers_of t.batch)) (es ++ e ∷ [])
  tells =
      ap (λ xs. holding xs (listed s')) (sym entries) ∙ held_again s (hs ++ new ∷ [])
      ∙ ap (◌++ new ∷ []) k.told ∙ written_seen t.good (numbers_of t.batch) es e new_good new_batch

  grows : (ks : List ℕ) → Each (λ n. n < s.next) ks → Each (λ n. n < s.next + 1) ks
  grows ks o = each_by _ _ ks (λ n h. omega arith) o

  -- a new write waits behind those that wait
  sheet_stays : (sheet : List ℕ) → SheetOut sheet W.shore t → SheetOut sheet W.shore t'
  sheet_stays sheet o = record {
    node = o.node;
    named = o.named;
    is = o.is;
    ends = o.ends;
    rest = o.rest ++ waiting t.good o.node (x ∷ []);
    front =
        those_append (waits t.good o.node) t.held (x ∷ []) ∙ ap (◌++ waiting t.good o.node (x ∷ [])) o.front
        ∙ append_assoc t.batch o.rest (waiting t.good o.node (x ∷ []));
    apart = each_join _ o.rest (waiting t.good o.node (x ∷ [])) o.apart (at (waits t.good o.node x));
    own = each_join _ t.held (x ∷ []) o.own ((λ z. never (true_not z)), tt);
    stood = o.stood;
  }
    where
      x : Write
      x = written e c.bytes

      at : (b : Bool) → Each (λ v. among v.number (numbers_of t.batch) ≡ false) (pick b (x ∷ []) [])
      at true = (new_batch, tt)
      at false = tt

      true_not : among s.next (numbers_of t.batch) ≡ true → ◌≡◌ {A = ℕ} 0 1
      true_not z = absurd (true_not_false _ z new_batch)

  fits_by : (out : Option (List ℕ)) → OutFits out W.shore t → OutFits out W.shore t'
  fits_by None o = o
  fits_by (Some sheet) o = sheet_stays sheet o

  pub agrees_write : Agrees files (record { ring = r'; state = s'; shore = W.shore; out = W.out }) t'
  agrees_write = record {
    stands = stands_as r' s' (grown k.stands.ring e) (es ++ e ∷ []) reads (stands_write r s k.stands c w v);
    written = holds;
    told = tells;
    pinned = k.pinned;
    below_good = grows t.good k.below_good;
    below_batch = grows (numbers_of t.batch) k.below_batch;
    on_shore = shore_writes files W.shore t.accepted t.held t.good k.on_shore (written e c.bytes) new_good;
    flying = k.flying;
    out_fits = fits_by W.out k.out_fits;
  }
