-- A flush start that sends a sheet: the world and the tale still agree.
use Rattle.std.specs.Prelude.{Option, None, Some}
use Prim.Native.Nat.{ℕ, zero, suc, ◌+◌, ◌*◌, ◌≤◌, ◌<◌}
use mathlib.Core.Path.{◌≡◌, refl, sym, ap, ◌∙◌, subst}
use mathlib.Core.Bool.{Bool, true, false}
use mathlib.Core.List.{List, [], ◌∷◌, map}
use native.Mathlib.Omega.{arith}
use borrow.Author.Tests.{eq-eqb, ne_eqb, le-leb}
use lib.ListN.{length, take, drop, take-append-drop}
use lib.Seq.{take_at}
use Rattle.layout.specs.Sizes.{number_limit, file_end, slot_size, head_size}
use Rattle.layout.specs.Bytes.{round}
use Rattle.layout.proofs.Tests.{never, both_left, both_right}
use Rattle.layout.proofs.Views.{bytes_length}
use Rattle.walk.specs.declared.Entry.{Entry}
use Rattle.walk.specs.Walk.{Rising, Write, write_of}
use Rattle.walk.proofs.Chain.{AllInRing}
use Rattle.ring.proofs.Laws.{readable_facts}
use Rattle.state.specs.declared.State.{State}
use Rattle.state.specs.declared.Held.{Held}
use Rattle.state.specs.Lists.{pick, all, listed, holding, entry_of, with_next, with_flush, with_held, those}
use Rattle.state.specs.Batch.{most_batch, batch_of, taken_of}
use Rattle.state.proofs.Bools.{both_intro}
use Rattle.state.proofs.Finding.{Each, each_by, each_take, each_map}
use Rattle.sheet.specs.Sheet.{sheet_of, laid_at}
use Rattle.sheet.proofs.Covered.{ends_by}
use Rattle.sheet.proofs.Storing.{laid_front}
use Rattle.rules.specs.Call.{Call, starts}
use Rattle.rules.specs.Flush.{has_batch, sheet_for}
use Rattle.rules.proofs.Owning.{next_facts}
use Rattle.rules.proofs.Fit.{held_again}
use Rattle.rules.proofs.Taking.{taken_entries}
use Rattle.rules.proofs.Standing.{Real, hs_fit, hs_entries, stands_start}
use Rattle.history.specs.World.{World}
use Rattle.history.specs.Tale.{Tale, numbers_of, tell_by}
use Rattle.state.proofs.Those.{each_those}
use Rattle.history.proofs.Seeing.{seen, is_open, below_seen, batch_seen, taken_told}
use Rattle.history.proofs.Agreeing.{Agrees, SheetOut, OutFits, is_none}
use Rattle.history.proofs.Changing.{stands_as}
use Rattle.history.proofs.Rising.{InOrder, rising_order, order_keep, order_apart, order_own}

-- ---- what is said of every write is said of those that are taken

all_keep : (p q : Write → Bool) (ws : List Write) → all p ws ≡ true → all p (those q ws) ≡ true
all_keep p q [] o = refl
all_keep p q (w ∷ ws) o = at (q w) (all_keep p q ws (both_right (p w) _ o))
  where
    at : (b : Bool) → all p (those q ws) ≡ true → all p (pick b (w ∷ those q ws) (those q ws)) ≡ true
    at true k = both_intro _ _ (both_left _ _ o) k
    at false k = k

all_take : (p : Write → Bool) (m : ℕ) (ws : List Write) → all p ws ≡ true → all p (take m ws) ≡ true
all_take p zero ws o = refl
all_take p (suc m) [] o = refl
all_take p (suc m) (w ∷ ws) o = both_intro _ _ (both_left _ _ o) (all_take p m ws (both_right (p w) _ o))

ends_all : (f : ℕ → ℕ) (n : ℕ) (es : List Entry) → AllInRing n es → all (ends_by file_end) (map (write_of f) es) ≡ true
ends_all f n [] o = refl
ends_all f n (e ∷ es) o =
    let l = bytes_length f (e.slot * slot_size + head_size) e.length in
    let h = o.0.valid.end in
    both_intro _ _ (le-leb _ file_end (subst (λ x. e.offset + x ≤ file_end) (sym l) h)) (ends_all f n es o.1)

map_twice : (f : ℕ → ℕ) (ks : List Held) → map (write_of f) (map entry_of ks) ≡ map (λ h. write_of f h.entry) ks
map_twice f [] = refl
map_twice f (h ∷ ks) = ap (◌∷◌ (write_of f h.entry)) (map_twice f ks)

-- numbers of held writes are below the next
pub held_below : (files : ℕ → List ℕ) (W : World) (t : Tale) (k : Agrees files W t) → Each (λ w. w.number < W.state.next) t.held
held_below files W t k =
    let es = k.stands.entries in
    let f = round W.ring k.stands.ring.n in
    subst (Each (λ w. w.number < W.state.next)) k.written
    (each_map (λ w. w.number < W.state.next) (write_of f) es
    (below_seen W.state.next t.good (numbers_of t.batch) es (rw k.told at (hs_fit W.ring W.state k.stands).numbers)))

module _ (files : ℕ → List ℕ) (W : World) (t : Tale) (k : Agrees files W t) (c : Call) (v : Real c) (idle : W.state.flush ≤ 0) (l : W.state.next + 1 ≤ number_limit)
    (some_wait : has_batch c.node (holding k.stands.entries (listed W.state)) ≡ true) where
  abbrev r : List ℕ
  r = W.ring

  abbrev s : State
  s = W.state

  abbrev es : List Entry
  es = k.stands.entries

  abbrev hs : List Held
  hs = holding k.stands.entries (listed W.state)

  abbrev f : ℕ → ℕ
  f = round W.ring k.stands.ring.n

  abbrev t' : Tale
  t' = tell_by starts c (s.next ∷ 0 ∷ []) t

  abbrev batch : List Write
  batch = take most_batch (those (is_open c.node t.good) t.held)

  abbrev sheet : List ℕ
  sheet = sheet_for c.node r k.stands.ring hs

  abbrev s' : State
  s' = with_next (with_flush (with_held s (taken_of c.node hs)) s.next) (s.next + 1)

  none_by : (out : Option (List ℕ)) → is_none out ≡ true → OutFits out W.shore t → t.batch ≡ []
  none_by None e o = o
  none_by (Some x) e o = never (cc)

  -- no sheet is out, so no batch is
  none_out : t.batch ≡ []
  none_out =
      let z : s.flush ≡ 0 = omega arith in
      none_by W.out (k.flying ∙ eq-eqb s.flush 0 z) k.out_fits

  told : hs ≡ map (seen t.good []) es
  told = k.told ∙ ap (λ b. map (seen t.good (numbers_of b)) es) none_out

  facts : Rising 0 es
  facts = (readable_facts r k.stands.ring es k.stands.reading).rising

  is_sheet : sheet ≡ sheet_of c.node batch
  is_sheet =
      ap (sheet_of c.node) (map_twice f (batch_of c.node hs) ∙ ap (λ ks. map (λ h. write_of f h.entry) (batch_of c.node ks)) told
      ∙ batch_seen c.node t.good f es ∙ ap (λ ws. take most_batch (those (is_open c.node t.good) ws)) k.written)

  taken : taken_of c.node hs ≡ map (seen t.good (numbers_of batch)) es
  taken =
      ap (taken_of c.node) told ∙ taken_told c.node t.good f 0 es facts
      ∙ ap (λ ws. map (seen t.good (numbers_of (take most_batch (those (is_open c.node t.good) ws)))) es) k.written

  told' : holding es (listed s') ≡ map (seen t.good (numbers_of batch)) es
  told' =
      ap (λ xs. holding xs (listed s')) (sym (taken_entries c.node most_batch hs ∙ hs_entries r s k.stands))
      ∙ held_again s (taken_of c.node hs) ∙ taken

  grows : (ks : List ℕ) → Each (λ n. n < s.next) ks → Each (λ n. n < s.next + 1) ks
  grows ks o = each_by _ _ ks (λ n h. omega arith) o

  below : Each (λ w. w.number < s.next) t.held
  below = held_below files W t k

  below_taken : Each (λ n. n < s.next) (numbers_of batch)
  below_taken = each_map (λ n. n < s.next) (λ w. w.number) batch (each_take (λ w. w.number < s.next) most_batch (those (is_open c.node t.good) t.held) (each_those (λ w. w.number < s.next) (is_open c.node t.good) t.held below))

  ends : all (ends_by file_end) batch ≡ true
  ends =
      all_take (ends_by file_end) most_batch (those (is_open c.node t.good) t.held) (all_keep (ends_by file_end) (is_open c.node t.good) t.held
      (ap (all (ends_by file_end)) (sym k.written) ∙ ends_all f k.stands.ring.n es (readable_facts r k.stands.ring es k.stands.reading).inside))

  order : InOrder 0 t.held
  order = subst (InOrder 0) k.written (rising_order f 0 es facts)

  sent_out : SheetOut sheet W.shore t'
  sent_out = record {
    node = c.node;
    named = v.node;
    is = is_sheet;
    ends = ends;
    rest = drop most_batch (those (is_open c.node t.good) t.held);
    front = sym (take-append-drop most_batch (those (is_open c.node t.good) t.held));
    apart = order_apart most_batch 0 (those (is_open c.node t.good) t.held) (order_keep (is_open c.node t.good) 0 t.held order);
    own = each_by _ _ t.held (λ w h z. both_left _ _ (h z)) (order_own (is_open c.node t.good) most_batch 0 t.held order);
    stood = λ j z q x. never (cc);
  }

  -- what stands in the front of the lent buffer is the sheet
  pub front_sheet : (b : List ℕ) → take (length sheet) (laid_at b 0 sheet) ≡ sheet
  front_sheet b = ap (take (length sheet)) (laid_front b sheet) ∙ take_at sheet (drop (length sheet) b) (length sheet) refl

  pub agrees_start : Agrees files (record { ring = r; state = s'; shore = W.shore; out = Some sheet }) t'
  agrees_start = record {
    stands = stands_as r s' k.stands.ring es k.stands.reading (stands_start r s k.stands c.node idle l some_wait);
    written = k.written;
    told = told';
    pinned = k.pinned;
    below_good = grows t.good k.below_good;
    below_batch = grows (numbers_of batch) below_taken;
    on_shore = k.on_shore;
    flying = let b = (next_facts s.next s.flush k.stands.fit.next).0 in sym (ne_eqb s.next 0 (λ e. omega arith));
    out_fits = sent_out;
  }
