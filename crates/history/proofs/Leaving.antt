-- Letting go: what leaves the ring is what the tale lets leave, and the rest stands as it stood.
use Prim.Native.Nat.{ℕ}
use mathlib.Core.Path.{◌≡◌, refl, sym, ap, ◌∙◌}
use mathlib.Core.Bool.{true}
use mathlib.Core.List.{List, [], ◌∷◌, ◌++◌, map, map-append}
use Rattle.layout.specs.Bytes.{round}
use Rattle.layout.specs.declared.Ring.{Ring}
use Rattle.layout.proofs.Tests.{both_left}
use Rattle.walk.specs.declared.Entry.{Entry}
use Rattle.walk.specs.Walk.{readable, reading_of, slots_used, write_of, writes_of}
use Rattle.store.specs.Store.{head_moved}
use Rattle.ring.specs.Ring.{slot_after, shrunk}
use Rattle.ring.proofs.Laws.{moved_reads, moved_holds}
use Rattle.state.specs.declared.State.{State}
use Rattle.state.specs.declared.Held.{Held}
use Rattle.state.specs.declared.Pin.{Pin}
use Rattle.state.specs.Lists.{listed, holding, entry_of, with_held}
use Rattle.state.specs.Pins.{leaving, staying, slots_left}
use Rattle.state.proofs.Finding.{Each, each_by, each_map}
use Rattle.rules.proofs.Fit.{held_again}
use Rattle.history.specs.Tale.{among, leave}
use Rattle.history.proofs.Seeing.{seen, goes, rest_of, gone_of, gone_rest, gone_each, leave_seen, staying_seen, leaving_seen}
use Rattle.history.proofs.Pinning.{PinsAre, pins_keep}
use Rattle.history.proofs.Changing.{holds_as}

pub seen_entries : (good batch : List ℕ) (es : List Entry) → map entry_of (map (seen good batch) es) ≡ es
seen_entries good batch [] = refl
seen_entries good batch (e ∷ es) = ap (◌∷◌ e) (seen_entries good batch es)

-- a ring with those entries; the held writes hs, as the tale tells them; a state with those pins, which the tale has live
module _ (r : List ℕ) (g : Ring) (es : List Entry) (q : reading_of r ≡ readable g es) (good batch : List ℕ) (hs : List Held) (told : hs ≡ map (seen good batch) es)
    (s : State) (live : List Pin) (p : PinsAre s.pins live) where
  abbrev f : ℕ → ℕ
  f = round r g.n

  abbrev pub rest : List Entry
  rest = rest_of (goes (round r g.n) good live) es

  abbrev gone : List Entry
  gone = gone_of (goes (round r g.n) good live) es

  stays : staying s.pins hs ≡ map (seen good batch) rest
  stays = ap (staying s.pins) told ∙ staying_seen f good batch s.pins live (λ h. pins_keep s.pins live p h (write_of f h.entry) refl refl) es

  leaves : map entry_of (leaving s.pins hs) ≡ gone
  leaves =
      ap (λ ks. map entry_of (leaving s.pins ks)) told
      ∙ ap (map entry_of) (leaving_seen f good batch s.pins live (λ h. pins_keep s.pins live p h (write_of f h.entry) refl refl) es) ∙ seen_entries good batch gone

  abbrev pub past : List ℕ
  past = head_moved r (slot_after g (slots_left s.pins hs))

  split : reading_of r ≡ readable g (gone ++ rest)
  split = q ∙ ap (readable g) (gone_rest (goes f good live) es)

  at_past : past ≡ head_moved r (slot_after g (slots_used gone))
  at_past = ap (λ xs. head_moved r (slot_after g (slots_used xs))) leaves

  pub past_reads : reading_of past ≡ readable (shrunk g (slots_used gone)) rest
  past_reads = ap reading_of at_past ∙ moved_reads r g gone rest split

  pub past_holds : map (write_of (round past g.n)) rest ≡ leave good live (map (write_of f) es)
  past_holds =
      holds_as past (shrunk g (slots_used gone)) rest (map (write_of f) rest) past_reads (ap writes_of at_past ∙ moved_holds r g gone rest split)
      ∙ sym (leave_seen f good live es)

  pub past_told : holding rest (listed (with_held s (staying s.pins hs))) ≡ map (seen good batch) rest
  past_told =
      ap (λ xs. holding xs (listed (with_held s (staying s.pins hs)))) (sym (ap (map entry_of) stays ∙ seen_entries good batch rest))
      ∙ held_again s (staying s.pins hs) ∙ stays

  -- those that leave were reported good, and stand before the rest
  pub past_split : map (write_of f) es ≡ map (write_of f) gone ++ leave good live (map (write_of f) es)
  past_split = ap (map (write_of f)) (gone_rest (goes f good live) es) ∙ map-append (write_of f) gone rest ∙ ap (◌++◌ (map (write_of f) gone)) (sym (leave_seen f good live es))

  pub past_good : Each (λ w. among w.number good ≡ true) (map (write_of f) gone)
  past_good = each_map (λ w. among w.number good ≡ true) (write_of f) gone (each_by _ _ gone (λ e z. both_left _ _ z) (gone_each (goes f good live) es))
