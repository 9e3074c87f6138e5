-- The mission's third demand, over every history: from an empty ring in any buffer of a valid length and any shore files, after any moves that keep the premises.
use Rattle.std.specs.Prelude.{None, Some}
use Prim.Native.Nat.{ℕ, ◌+◌, ◌-◌}
use mathlib.Core.Path.{◌≡◌, refl, sym, ap, ◌∙◌}
use mathlib.Core.Bool.{true, not}
use mathlib.Core.List.{List, [], ◌∷◌, ◌++◌, append-nil}
use native.Mathlib.Omega.{arith}
use lib.ListN.{length}
use lib.Dec.{ltb}
use Rattle.layout.specs.Sizes.{slots_of}
use Rattle.layout.specs.Bytes.{both, round}
use Rattle.reason.specs.declared.Reason.TheVariants.{NoRoom, Unreadable, StateUnfit}
use Rattle.layout.proofs.Tests.{sized_sound}
use Rattle.walk.specs.Walk.{Write, Reading, reading_of, writes_of}
use Rattle.store.specs.Store.{is_makeable, slots_for, made}
use Rattle.ring.specs.Ring.{empty_ring}
use Rattle.ring.proofs.Laws.{readable_facts, made_reads}
use Rattle.state.specs.Lists.{any, with_next, reopened, those}
use Rattle.state.specs.Asks.{ticket_done}
use Rattle.shore.specs.File.{lay, puts_all}
use Rattle.rules.specs.Call.{Call, writes, takes_ticket, is_one, ring_of, entries_of, held_of, reopen_ring}
use Rattle.rules.specs.Refusals.{applies, refusal_of}
use Rattle.rules.specs.Outcome.{says, lent_by, outcome_by, done_by, outcome}
use Rattle.rules.proofs.Order.{same_some}
use Rattle.rules.proofs.Staying.{reopened_stands, never_unreadable, never_unfit}
use Rattle.history.specs.World.{World, Move, call, begins, world}
use Rattle.history.specs.Tale.{Tale, slots_taken, nothing_yet, numbers_of, is_of, in_reach, is_good, tell, tell_by, tale}
use Rattle.history.specs.Fair.{AllFair}
use Rattle.history.proofs.Pinning.{pins_none}
use Rattle.history.proofs.Shores.{nothing_lost}
use Rattle.history.proofs.Agreeing.{Agrees}
use Rattle.history.proofs.Changing.{stands_as}
use Rattle.history.proofs.Restarting.{parted_held}
use Rattle.history.proofs.Stepping.{agrees_move}
use Rattle.history.proofs.Seeing.{ticket_seen}
use Rattle.history.proofs.Starting.{held_below}
use Rattle.history.proofs.Tickets.{Since, NoRestart, tale_suffix, later_since, asks_old}
use Rattle.history.proofs.Room.{world_length, slots_taken_law}

module _ (r : List ℕ) (makeable : is_makeable (length r) ≡ true) (files : ℕ → List ℕ) where
  abbrev begin : World
  begin = begins r files

  agrees_begin : Agrees files (begins r files) nothing_yet
  unfolding lay puts_all
  agrees_begin =
      let q = made_reads r (sized_sound r (slots_for (length r)) makeable) in
      record {
        stands = stands_as (made r) (reopened []) (empty_ring (slots_for (length r))) [] q (reopened_stands (made r) (empty_ring (slots_for (length r))) [] q);
        written = refl;
        told = refl;
        pinned = pins_none;
        below_good = tt;
        below_batch = tt;
        on_shore = record { sends = λ n. refl; has = λ n. refl };
        flying = refl;
        out_fits = refl;
      }

  pub agrees : (ms : List Move) → AllFair (begins r files) ms → Agrees files (world (begins r files) ms) (tale (begins r files) ms)
  agrees [] f = agrees_begin
  agrees (m ∷ ms) f = agrees_move files (world (begins r files) ms) (tale (begins r files) ms) (agrees ms f.1) m f.0

  module _ (ms : List Move) (fair : AllFair (begins r files) ms) where
    abbrev W : World
    W = world (begins r files) ms

    abbrev t : Tale
    t = tale (begins r files) ms

    -- "the ring holds exactly the writes that the history says must be held"
    pub exactly_held : writes_of (world (begins r files) ms).ring ≡ Some (tale (begins r files) ms).held
    exactly_held =
        let k = agrees ms fair in
        (readable_facts W.ring k.stands.ring k.stands.entries k.stands.reading).writes ∙ ap Some k.written

    -- "the shore file with the ring laid over it is the starting file with all accepted writes laid on in order"
    pub nothing_is_lost : (n : ℕ) → lay ((world (begins r files) ms).shore n) (puts_all (those (is_of n) (tale (begins r files) ms).held))
        ≡ lay (files n) (puts_all (those (is_of n) (tale (begins r files) ms).accepted))
    nothing_is_lost n =
        let k = agrees ms fair in
        nothing_lost files W.shore t.accepted t.held t.good k.on_shore (parted_held files W t k) n

    -- the same with the ring read from its bytes
    pub ring_over_shore : (ws : List Write) → writes_of (world (begins r files) ms).ring ≡ Some ws
        → (n : ℕ) → lay ((world (begins r files) ms).shore n) (puts_all (those (is_of n) ws)) ≡ lay (files n) (puts_all (those (is_of n) (tale (begins r files) ms).accepted))
    ring_over_shore ws e n =
        let same : ws ≡ t.held = same_some ws t.held (sym e ∙ exactly_held) in
        ap (λ xs. lay (W.shore n) (puts_all (those (is_of n) xs))) same ∙ nothing_is_lost n

    -- "and 8 and 12 never come"
    pub never_8 : (c : Call) → refusal_of c W.ring W.state ≡ Some Unreadable → ⊥
    never_8 c = never_unreadable c W.ring W.state (agrees ms fair).stands

    pub never_12 : (c : Call) → refusal_of c W.ring W.state ≡ Some StateUnfit → ⊥
    never_12 c = never_unfit c W.ring W.state (agrees ms fair).stands

    -- the ring has as many slots as at the start
    slots_stay : (agrees ms fair).stands.ring.n ≡ slots_for (length r)
    slots_stay =
        let k = agrees ms fair in
        let a = (readable_facts W.ring k.stands.ring k.stands.entries k.stands.reading).sized.len in
        let b = (readable_facts (made r) (empty_ring (slots_for (length r))) [] (made_reads r (sized_sound r (slots_for (length r)) makeable))).sized.len in
        let l = world_length (begins r files) ms fair in
        omega arith

    -- "No room" only when the writes that must still be held leave too few slots: row 4 says just that, and by `refused_when` and `refused_then` 4 is given exactly
    -- when its row applies and no earlier one does
    pub room_by_history : (c : Call) → applies c W.ring W.state NoRoom
        ≡ both (is_one c (writes ∷ [])) (ltb (slots_for (length r) - 1 - slots_taken (tale (begins r files) ms).held) (slots_of (length c.bytes)))
    room_by_history c =
        let k = agrees ms fair in
        let f = round W.ring k.stands.ring.n in
        let u = (readable_facts W.ring k.stands.ring k.stands.entries k.stands.reading).used in
        let g : ring_of (reading_of W.ring) ≡ k.stands.ring = ap ring_of k.stands.reading in
        let taken : k.stands.ring.used ≡ slots_taken t.held = u ∙ slots_taken_law f k.stands.entries ∙ ap slots_taken k.written in
        ap (λ x. both (is_one c (writes ∷ [])) (ltb (x.n - 1 - x.used) (slots_of (length c.bytes)))) g
        ∙ ap (λ n. both (is_one c (writes ∷ [])) (ltb (n - 1 - k.stands.ring.used) (slots_of (length c.bytes)))) slots_stay
        ∙ ap (λ n. both (is_one c (writes ∷ [])) (ltb (slots_for (length r) - 1 - n) (slots_of (length c.bytes)))) taken

    -- after any history, reopening gives the same writes, all Unflushed; that is a move like any other, so the theorems go on holding across it
    pub reopens_same : outcome reopen_ring W.ring W.state ≡ outcome_by (says ((reopened (agrees ms fair).stands.entries).next ∷ [])) (reopened (agrees ms fair).stands.entries) W.ring
    unfolding outcome refusal_of both
    reopens_same = rw (agrees ms fair).stands.reading

  -- ---- tickets: taken by the call c after some moves, and asked after later ones without a restart

  module _ (earlier : List Move) (c : Call) (takes : c.kind ≡ takes_ticket) (later : List Move) (fair : AllFair (begins r files) (later ++ call c ∷ earlier)) (calm : NoRestart later)
      (granted : refusal_of c (world (begins r files) earlier).ring (world (begins r files) earlier).state ≡ None) where
    abbrev W₀ : World
    W₀ = world (begins r files) earlier

    abbrev ticket : ℕ
    ticket = (world (begins r files) earlier).state.next

    abbrev W₁ : World
    W₁ = world (begins r files) (later ++ call c ∷ earlier)

    abbrev t₁ : Tale
    t₁ = tale (begins r files) (later ++ call c ∷ earlier)

    fair_from : (ls : List Move) → AllFair (begins r files) (ls ++ call c ∷ earlier) → AllFair (begins r files) earlier
    fair_from [] f = f.1
    fair_from (m ∷ ls) f = fair_from ls f.1

    done_is : (x : Reading) → done_by c.kind c (ring_of x) (entries_of x) (held_of x W₀.state) W₀.ring W₀.state ≡ done_by takes_ticket c (ring_of x) (entries_of x) (held_of x W₀.state) W₀.ring W₀.state
    done_is x = ap (λ kind. done_by kind c (ring_of x) (entries_of x) (held_of x W₀.state) W₀.ring W₀.state) takes

    ticket_outcome : outcome c W₀.ring W₀.state ≡ lent_by (says (ticket ∷ [])) (with_next W₀.state (ticket + 1)) W₀.ring c.buffer
    unfolding outcome
    ticket_outcome = rw granted (done_is (reading_of W₀.ring))

    ticket_tale : (tale (begins r files) (call c ∷ earlier)).held ≡ (tale (begins r files) earlier).held
    ticket_tale =
        ap (λ o. (tell (tale (begins r files) earlier) c o.said).held) ticket_outcome ∙ ap (λ kind. (tell_by kind c (ticket ∷ []) (tale (begins r files) earlier)).held) takes

    -- the writes accepted before the ticket: those that have left, and those that are held
    pub ticket_since : Since (tale (begins r files) earlier).accepted ticket (tale (begins r files) (later ++ call c ∷ earlier)).held
    ticket_since =
        let f = fair_from later fair in
        let u = tale_suffix (begins r files) earlier f in
        let e = ticket_tale in
        later_since (begins r files) (call c ∷ earlier) (tale (begins r files) earlier).accepted ticket
        (record {
          gone = u.gone;
          old = (tale (begins r files) earlier).held;
          new = [];
          then = u.is;
          now = e ∙ sym (append-nil (tale (begins r files) earlier).held);
          below = held_below files W₀ (tale (begins r files) earlier) (agrees earlier f);
          above = tt;
        })
        (let z = ap (λ o. o.state.next) ticket_outcome in omega arith) later fair calm

    -- asked, it is done exactly when each of those in reach that is held has been in a batch reported good since the restart
    pub ticket_is_done : (node : ℕ) → ticket_done ticket node (held_of (reading_of W₁.ring) W₁.state) ≡ not (any (λ w. both (in_reach node w) (not (is_good t₁ w))) ticket_since.old)
    ticket_is_done node =
        let k = agrees (later ++ call c ∷ earlier) fair in
        let f = round W₁.ring k.stands.ring.n in
        ap (λ x. ticket_done ticket node (held_of x W₁.state)) k.stands.reading ∙ ap (ticket_done ticket node) k.told
        ∙ ticket_seen f t₁.good (numbers_of t₁.batch) ticket node k.stands.entries
        ∙ ap (λ ws. not (any (λ w. both (ltb w.number ticket) (both (in_reach node w) (not (is_good t₁ w)))) ws)) k.written
        ∙ ap not (asks_old (λ w. both (in_reach node w) (not (is_good t₁ w))) ticket (tale (begins r files) earlier).accepted t₁.held ticket_since)
