-- What each return of make and reopen comes to: a ring that is made reopens as empty.
use Rattle.std.specs.Prelude.{Result, Ok, Err}
use Prim.Native.Nat.{ℕ, ◌≤◌}
use mathlib.Core.Path.{◌≡◌, refl, sym, ◌∙◌, ap}
use mathlib.Core.Bool.{Bool, true, false}
use mathlib.Core.List.{List, [], ◌∷◌}
use lib.ListN.{length}
use Rattle.reason.specs.declared.Reason.{Reason}
use Rattle.reason.specs.declared.Reason.TheVariants.{Unreadable, BadBuffer}
use Rattle.layout.specs.Bytes.{both}
use Rattle.layout.specs.declared.Ring.{Ring}
use Rattle.layout.proofs.Tests.{never, sized_sound}
use Rattle.walk.specs.declared.Entry.{Entry}
use Rattle.walk.specs.declared.Walked.{Walked}
use Rattle.layout.specs.Sizes.{most_entries}
use Rattle.layout.specs.Rack.{items}
use Rattle.walk.specs.Walk.{Rising, Reading, readable, unreadable, reading_of, answer_of}
use Rattle.walk.proofs.Readings.{answer_refused}
use Rattle.store.specs.Store.{slots_for, is_makeable, made, made_answer}
use Rattle.ring.specs.Ring.{empty_ring}
use Rattle.ring.proofs.Laws.{made_reads}
use Rattle.state.specs.declared.State.{State}
use Rattle.state.specs.Lists.{reopened}
use Rattle.judge.proofs.Rules.{read_entries, walked_few}
use Rattle.rules.specs.Call.{make_ring, reopen_ring}
use Rattle.rules.specs.Refusals.{refusal_of}
use Rattle.rules.specs.Outcome.{outcome_by, says, refuses, outcome}

-- ---- reopen

module _ (r : List ℕ) (s : State) where
  no_ring : reading_of r ≡ unreadable → outcome_by (refuses Unreadable) s r ≡ outcome reopen_ring r s
  unfolding outcome refusal_of both
  no_ring q = rw q

  reopens : (g : Ring) (es : List Entry) → reading_of r ≡ readable g es → outcome_by (says ((reopened es).next ∷ [])) (reopened es) r ≡ outcome reopen_ring r s
  unfolding outcome refusal_of both
  reopens g es q = rw q

  refused_at : (why : Reason) (x : Reading) → reading_of r ≡ x → Err why ≡ answer_of x → outcome_by (refuses why) s r ≡ outcome reopen_ring r s
  refused_at why x q e = let k = answer_refused x why (sym e) in rw k.1 (no_ring (q ∙ k.0))

  pub reopen_refused : (why : Reason) → Err why ≡ answer_of (reading_of r) → outcome_by (refuses why) s r ≡ outcome reopen_ring r s
  reopen_refused why e = refused_at why (reading_of r) refl e

  -- the walk's entries are es
  module _ (w : Walked) (o : Ok w ≡ answer_of (reading_of r)) (es : List Entry) (h : es ≡ items w.entries) where
    pub walked : (length es ≤ most_entries) × Rising 0 es
    walked = rw h (walked_few r w o)

    pub reopen_done : outcome reopen_ring r s ≡ outcome_by (says ((reopened es).next ∷ [])) (reopened es) r
    reopen_done = rw h (sym (reopens w.ring (items w.entries) (read_entries (reading_of r) w o)))

-- ---- make

same_made : (a b : Reason) → ◌≡◌ {A = Result (Unit {0}) Reason} (Err a) (Err b) → a ≡ b
same_made a b e = cc

module _ (r : List ℕ) (s : State) where
  -- a buffer of a valid length
  module _ (e : is_makeable (length r) ≡ true) where
    made_opens : reading_of (made r) ≡ readable (empty_ring (slots_for (length r))) []
    made_opens = made_reads r (sized_sound r (slots_for (length r)) e)

    makes : outcome_by (says []) (reopened []) (made r) ≡ outcome make_ring r s
    unfolding outcome refusal_of both
    makes = rw e

    -- "the state it gives is the one that reopening that ring gives"
    pub made_state : (outcome reopen_ring (made r) s).state ≡ (outcome make_ring r s).state
    made_state = ap (λ o. o.state) (sym (reopens (made r) s (empty_ring (slots_for (length r))) [] made_opens) ∙ made_same)
      where
        made_same : outcome_by (says (1 ∷ [])) (reopened []) (made r) ≡ outcome_by (says (1 ∷ [])) (outcome make_ring r s).state (made r)
        made_same = ap (λ o. outcome_by (says (1 ∷ [])) o.state (made r)) makes

  no_buffer : is_makeable (length r) ≡ false → outcome_by (refuses BadBuffer) s (made r) ≡ outcome make_ring r s
  unfolding outcome refusal_of both made
  no_buffer e = rw e

  refused_by : (why : Reason) (b : Bool) → is_makeable (length r) ≡ b → made_answer r ≡ Err why → outcome_by (refuses why) s (made r) ≡ outcome make_ring r s
  unfolding made_answer
  refused_by why true e o = never (let w : ◌≡◌ {A = Result (Unit {0}) Reason} (Ok tt) (Err why) = (rw e at o) in cc)
  refused_by why false e o =
      let z : why ≡ BadBuffer = same_made why BadBuffer (sym (rw e at o)) in
      rw z (no_buffer e)

  pub make_refused : (why : Reason) → made_answer r ≡ Err why → outcome_by (refuses why) s (made r) ≡ outcome make_ring r s
  make_refused why o = refused_by why (is_makeable (length r)) refl o

  done_by_law : (b : Bool) → is_makeable (length r) ≡ b → made_answer r ≡ Ok tt → outcome_by (says []) (reopened []) (made r) ≡ outcome make_ring r s
  unfolding made_answer
  done_by_law true e o = makes e
  done_by_law false e o = never (let w : ◌≡◌ {A = Result (Unit {0}) Reason} (Err BadBuffer) (Ok tt) = (rw e at o) in cc)

  pub make_done : made_answer r ≡ Ok tt → (t : State) (r' : List ℕ) → r' ≡ made r → t ≡ reopened [] → outcome_by (says []) t r' ≡ outcome make_ring r s
  make_done o t r' m q = rw (m, q) (done_by_law (is_makeable (length r)) refl o)
