-- The fill claim, over every history: for a pin that is live at the fill, bytes fetched from the shore at one moment after the pin, and no restart between, the r bytes are
-- those of the history's file at the moment of the fill, and r is the lesser of n and what that file has from the offset. Document 01, "Moves", paragraph "Fill".
use Rattle.std.specs.Prelude.{None}
use Prim.Native.Nat.{ℕ, ◌+◌, ◌-◌, ◌*◌, ◌≤◌, ◌<◌}
use mathlib.Core.Path.{◌≡◌, refl, sym, ap, ◌∙◌, subst}
use mathlib.Core.Bool.{Bool, true, false}
use mathlib.Core.List.{List, [], ◌∷◌, ◌++◌, map}
use native.Mathlib.Omega.{arith}
use lib.ListN.{length, get_or}
use borrow.Author.Tests.{leb-false}
use lib.Dec.{eqb, leb}
use Rattle.layout.specs.Sizes.{slot_size, head_size}
use Rattle.layout.specs.Bytes.{round}
use Rattle.layout.proofs.Views.{bytes_length}
use Rattle.walk.specs.declared.Entry.{Entry}
use Rattle.walk.specs.Walk.{Write, write_of}
use Rattle.walk.proofs.Chain.{AllInRing}
use Rattle.store.specs.Store.{is_makeable}
use Rattle.ring.proofs.Laws.{readable_facts}
use Rattle.state.specs.declared.Pin.{Pin}
use Rattle.state.specs.Lists.{pick, listed, holding, entry_of, those}
use Rattle.state.specs.Asks.{cached_end, lesser}
use Rattle.state.proofs.Finding.{Each}
use Rattle.shore.specs.File.{lay, puts_all}
use Rattle.shore.proofs.Again.{absorb}
use Rattle.sheet.specs.Sheet.{end_of}
use Rattle.rules.specs.Call.{fill_read}
use Rattle.rules.specs.Fill.{is_of, writes_for, fill_count, filled}
use Rattle.rules.specs.Refusals.{refusal_of}
use Rattle.rules.specs.Outcome.{says, lent_by, outcome}
use Rattle.history.specs.World.{World, Move, call, land, begins, world}
use Rattle.history.specs.Tale.{Tale, numbers_of, tale}
use Rattle.history.specs.Fair.{AllFair}
use Rattle.history.proofs.Seeing.{seen, cached_seen}
use Rattle.history.proofs.Shores.{file_of, of_node}
use Rattle.history.proofs.Agreeing.{Agrees}
use Rattle.history.proofs.Restarting.{parted_held}
use Rattle.history.proofs.Rising.{InOrder, rising_order}
use Rattle.history.proofs.Changes.{change}
use Rattle.history.proofs.Tickets.{NoRestart, later_next}
use Rattle.history.proofs.Marks.{Marked, tale_marked}
use Rattle.history.proofs.Pinned.{is_live_in, in_each, live_back}
use Rattle.history.proofs.Reaching.{from, early, parted_from, fetched_from, Reaches, reaches_by}
use Rattle.history.proofs.Filling.{claim_count, claim_bytes}
use Rattle.history.proofs.Demand.{agrees}

-- ---- the node's held writes, as the fill has them and as the tale has them

those_seen : (f : ℕ → ℕ) (node : ℕ) (good batch : List ℕ) (es : List Entry) → map (write_of f) (map entry_of (those (is_of node) (map (seen good batch) es))) ≡ of_node node (map (write_of f) es)
those_seen f node good batch [] = refl
those_seen f node good batch (e ∷ es) = at (eqb e.node node) (those_seen f node good batch es)
  where
    at : (b : Bool) → map (write_of f) (map entry_of (those (is_of node) (map (seen good batch) es))) ≡ of_node node (map (write_of f) es)
        → map (write_of f) (map entry_of (pick b (seen good batch e ∷ those (is_of node) (map (seen good batch) es)) (those (is_of node) (map (seen good batch) es)))) ≡ pick b (write_of f e ∷ of_node node (map (write_of f) es)) (of_node node (map (write_of f) es))
    at true k = ap (◌∷◌ (write_of f e)) k
    at false k = k

bytes_some : (f : ℕ → ℕ) (n : ℕ) (node : ℕ) (es : List Entry) → AllInRing n es → Each (λ w. 0 < length w.bytes) (of_node node (map (write_of f) es))
bytes_some f n node [] o = tt
bytes_some f n node (e ∷ es) o = at (eqb e.node node) (bytes_some f n node es o.1)
  where
    at : (b : Bool) → Each (λ w. 0 < length w.bytes) (of_node node (map (write_of f) es)) → Each (λ w. 0 < length w.bytes) (pick b (write_of f e ∷ of_node node (map (write_of f) es)) (of_node node (map (write_of f) es)))
    at true k = ((let l = bytes_length f (e.slot * slot_size + head_size) e.length in let h = o.0.valid.bytes in omega arith), k)
    at false k = k

module _ (r : List ℕ) (makeable : is_makeable (length r) ≡ true) (files : ℕ → List ℕ)
    (base later : List Move) (fair : AllFair (begins r files) (later ++ base)) (calm : NoRestart later)
    (p : Pin) (live_then : is_live_in p (tale (begins r files) base).live ≡ true) (live_now : is_live_in p (tale (begins r files) (later ++ base)).live ≡ true) where
  abbrev begin : World
  begin = begins r files

  -- the shore's file at the fetch
  abbrev S : List ℕ
  S = (world (begins r files) base).shore p.node

  fair_from : (ls : List Move) → AllFair begin (ls ++ base) → AllFair begin base
  fair_from [] f = f
  fair_from (m ∷ ls) f = fair_from ls f.1

  marked : Marked (world begin base).state.next (tale begin base).good (tale begin base).held p
  marked = in_each (Marked (world begin base).state.next (tale begin base).good (tale begin base).held) p (tale begin base).live (tale_marked begin base (fair_from later fair)) live_then

  order : (ms : List Move) → AllFair begin ms → InOrder 0 (tale begin ms).held
  order ms f =
      let k = agrees r makeable files ms f in
      subst (InOrder 0) k.written
      (rising_order (round (world begin ms).ring k.stands.ring.n) 0 k.stands.entries (readable_facts (world begin ms).ring k.stands.ring k.stands.entries k.stands.reading).rising)

  at_fetch : Reaches p.node p.mark files S p refl refl (tale begin base)
  at_fetch =
      let f = fair_from later fair in
      let k = agrees r makeable files base f in
      fetched_from p.node p.mark files (world begin base).shore (tale begin base).accepted (tale begin base).held (tale begin base).good k.on_shore
      (parted_held files (world begin base) (tale begin base) k) (order base f) marked.low

  since : (ls : List Move) → AllFair begin (ls ++ base) → NoRestart ls → is_live_in p (tale begin (ls ++ base)).live ≡ true → Reaches p.node p.mark files S p refl refl (tale begin (ls ++ base))
  since [] f d e = at_fetch
  since (call c ∷ ls) f d e =
      let own = later_next begin base p.number marked.own ls f.1 d.1 in
      let mark = later_next begin base p.mark marked.mark ls f.1 d.1 in
      let before = live_back p c (world begin (ls ++ base)).ring (world begin (ls ++ base)).state (tale begin (ls ++ base)) own e in
      reaches_by p.node p.mark files S p refl refl (world begin (ls ++ base)).state (tale begin (ls ++ base)) _ mark e
      (change c (world begin (ls ++ base)).ring (world begin (ls ++ base)).state (tale begin (ls ++ base)) f.0.not_made) (since ls f.1 d.1 before)
  since (land j ∷ ls) f d e = since ls f.1 d e

  -- the world and the tale at the fill
  abbrev W : World
  W = world (begins r files) (later ++ base)

  abbrev t : Tale
  t = tale (begins r files) (later ++ base)

  k : Agrees files W t
  k = agrees r makeable files (later ++ base) fair

  abbrev ws : List Write
  ws = of_node p.node (tale (begins r files) (later ++ base)).held

  -- the history's file
  abbrev file : List ℕ
  file = file_of files (tale (begins r files) (later ++ base)).accepted p.node

  over : lay S (puts_all ws) ≡ file
  over =
      let e = parted_from p.node p.mark 0 t.held (order (later ++ base) fair) in
      ap (lay S) e
      ∙ absorb S file (puts_all (early p.node p.mark t.held)) (puts_all (from p.node p.mark t.held)) (since later fair calm live_now)
      (ap (lay file) (sym e) ∙ k.on_shore.has p.node)

  -- ---- the fill itself

  abbrev es : List Entry
  es = k.stands.entries

  abbrev f : ℕ → ℕ
  f = round (world (begins r files) (later ++ base)).ring k.stands.ring.n

  holds : map (write_of f) es ≡ t.held
  holds = k.written

  own_writes : writes_for p.node W.ring k.stands.ring (holding es (listed W.state)) ≡ ws
  own_writes =
      ap (λ hs. map (write_of f) (map entry_of (those (is_of p.node) hs))) k.told ∙ those_seen f p.node t.good (numbers_of t.batch) es ∙ ap (of_node p.node) holds

  own_end : cached_end p.node (holding es (listed W.state)) ≡ end_of ws
  own_end = ap (cached_end p.node) k.told ∙ cached_seen f t.good (numbers_of t.batch) p.node es ∙ ap (λ xs. end_of (of_node p.node xs)) holds

  some_bytes : Each (λ w. 0 < length w.bytes) ws
  some_bytes =
      subst (λ xs. Each (λ w. 0 < length w.bytes) (of_node p.node xs)) holds
      (bytes_some f k.stands.ring.n p.node es (readable_facts W.ring k.stands.ring es k.stands.reading).inside)

  -- g is "the lesser of n and what the file has from that offset", and the bytes before g are that file's
  module _ (offset g : ℕ) (buffer : List ℕ) (granted : refusal_of (fill_read p.number p.node offset g buffer) W.ring W.state ≡ None)
      (lesser_is : g ≡ lesser (length buffer) (length S - offset)) (fetched : (i : ℕ) → i < g → get_or buffer i 0 ≡ get_or S (offset + i) 0) where
    abbrev pub count : ℕ
    count = fill_count (length buffer) g offset (end_of ws)

    abbrev pub after : List ℕ
    after = filled ws offset g (fill_count (length buffer) g offset (end_of ws)) buffer

    pub fill_outcome : outcome (fill_read p.number p.node offset g buffer) W.ring W.state ≡ lent_by (says (count ∷ [])) W.state W.ring after
    unfolding outcome
    fill_outcome = rw (granted, k.stands.reading, own_writes, own_end) refl

    -- r is the lesser of n and what the history's file has from the offset
    pub fill_count_law : count ≡ lesser (length buffer) (length file - offset)
    fill_count_law = claim_count S ws some_bytes offset g buffer lesser_is fetched ∙ ap (λ x. lesser (length buffer) (length x - offset)) over

    within : count ≤ length buffer
    within = subst (◌≤ length buffer) (sym fill_count_law) (at (leb (length buffer) (length file - offset)) refl)
      where
        at : (b : Bool) → leb (length buffer) (length file - offset) ≡ b → pick b (length buffer) (length file - offset) ≤ length buffer
        at true e = omega arith
        at false e = let h = leb-false (length buffer) (length file - offset) e in omega arith

    -- and the r bytes are those of the history's file
    pub fill_bytes : (i : ℕ) → i < count → get_or after i 0 ≡ get_or file (offset + i) 0
    fill_bytes i h = claim_bytes S ws some_bytes offset g buffer lesser_is fetched count i h (let w = within in omega arith) ∙ ap (λ x. get_or x (offset + i) 0) over
