-- A call that is planned: its plan's steps are the call's steps, each finds its ring, and run to the end they leave the
-- outcome's ring. Document 02, Q-8.
use Rattle.std.specs.Prelude.{Option, None, Some, Err}
use Prim.Native.Nat.{ℕ, ◌+◌, ◌≤◌, ◌<◌}
use mathlib.Core.Path.{◌≡◌, refl, sym, ap, ◌∙◌}
use mathlib.Core.Bool.{Bool, true, false}
use mathlib.Core.List.{List, [], ◌∷◌, map}
use native.Mathlib.Omega.{arith}
use native.Mathlib.Nat.{mod-lt}
use lib.ListN.{length, take}
use Rattle.layout.specs.Rack.{items}
use Rattle.reason.specs.declared.Reason.{Reason}
use Rattle.reason.specs.declared.Reason.TheVariants.{Unreadable, StateUnfit}
use Rattle.layout.specs.declared.Ring.{Ring}
use Rattle.layout.proofs.Tests.{never}
use Rattle.layout.proofs.Sizes.{slots_some}
use Rattle.walk.specs.declared.Entry.{Entry}
use Rattle.walk.specs.Walk.{Reading, readable, unreadable, reading_of}
use Rattle.walk.proofs.Readings.{reading_sound, reading_header}
use Rattle.store.specs.Steps.{Step, run}
use Rattle.store.specs.Storing.{store_steps, head_steps}
use Rattle.store.proofs.Steps.{cut_none}
use Rattle.ring.specs.Ring.{slot_after}
use Rattle.ring.proofs.Laws.{readable_facts}
use Rattle.plan.specs.declared.Plan.{Plan}
use Rattle.plan.specs.Plan.{plan_steps, no_plan, head_plan, entry_plan, step_count, step_waits, stepped}
use Rattle.plan.proofs.Stepping.{stepped_runs, stepped_all}
use Rattle.plan.proofs.Finding.{head_steps_law, head_finds, entry_steps, entry_finds}
use Rattle.state.specs.declared.State.{State}
use Rattle.state.specs.declared.Held.{Held}
use Rattle.state.specs.Moves.{good, reported}
use Rattle.state.specs.Pins.{slots_left}
use Rattle.judge.specs.declared.Judged.{Judged}
use Rattle.judge.specs.Fits.{fits}
use Rattle.judge.specs.Answers.{judged_of}
use Rattle.judge.proofs.Rules.{fits_sound}
use Rattle.rules.specs.Call.{Call, Kind, makes, reopens, writes, pins, unpins, asks_end, reports, starts, fills, takes_ticket, asks_ticket, asks_turn, is_one, ring_of, held_of}
use Rattle.rules.specs.Refusals.{refusal_of, own}
use Rattle.rules.specs.Outcome.{refuses, new_entry, unpinned, done_by, unless, outcome}
use Rattle.rules.specs.Steps.{report_steps, steps_by, steps_of, ring_cut}
use Rattle.rules.specs.Plans.{go_plan, report_plan, plan_by, unless_no, plan_of, planned_by, planned}
use Rattle.rules.specs.Known.{Known}
use Rattle.rules.proofs.Judging.{Judges, unreadable_refused, unfit_refused, judge_no, passes}
use Rattle.rules.proofs.Owning.{next_facts}
use Rattle.rules.proofs.Standing.{Stands}
use Rattle.rules.proofs.Staying.{may_write}
use Rattle.rules.proofs.Cuts.{outcome_runs}

-- ---- what the judge refuses is planned as nothing

module _ (c : Call) (o : Judges c) (r : List ℕ) (s : State) where
  pub plan_refuses : (why : Reason) → Err why ≡ judged_of (reading_of r) s → planned_by (refuses why) s no_plan ≡ planned c r s
  unfolding outcome plan_of
  plan_refuses why e = rw (judge_no c o r s why e)

-- ---- what the judge let pass goes by the rest of the order

module _ (c : Call) (o : Judges c) (r : List ℕ) (s : State) (j : Judged) (k : Known r s j) where
  pub plan_passes : planned c r s
      ≡ (let out = unless (own c r (readable j.ring k.entries) s) r s c.buffer (done_by c.kind c j.ring k.entries (items j.held) r s) in
      planned_by out.said out.state (unless_no (own c r (readable j.ring k.entries) s) (plan_by c.kind c j.ring (items j.held) s)))
  unfolding outcome plan_of
  plan_passes = rw (passes c o r s j k, k.reading, k.held)

-- ---- a call that tests 8 and 12, and isn't refused: the ring reads, and the state fits

module _ (c : Call) (o : Judges c) (r : List ℕ) (s : State) (free : refusal_of c r s ≡ None) where
  fit_by : (g : Ring) (es : List Entry) → reading_of r ≡ readable g es → (b : Bool) → fits es s ≡ b → Stands r s
  fit_by g es q true f = record { ring = g; entries = es; reading = q; fit = fits_sound es s f }
  fit_by g es q false f = never (let w : None ≡ Some StateUnfit = sym free ∙ unfit_refused c o r s g es q f in cc)

  stands_by : (x : Reading) → reading_of r ≡ x → Stands r s
  stands_by unreadable q = never (let w : None ≡ Some Unreadable = sym free ∙ unreadable_refused c o r s q in cc)
  stands_by (readable g es) q = fit_by g es q (fits es s) refl

  pub passed_stands : Stands r s
  passed_stands = stands_by (reading_of r) refl

-- ---- of any call on any ring and state

module _ (c : Call) (r : List ℕ) (s : State) where
  -- a plan that has those steps, each of which finds its ring
  record Plans (p : Plan) (xs : List Step) : Type 0 where
    steps : plan_steps p c.bytes ≡ xs
    finds : (k : ℕ) → k < step_count p → step_waits p (run r (take k (plan_steps p c.bytes))) c.bytes k ≡ true

  plans_none : Plans no_plan []
  unfolding plan_steps
  plans_none = record { steps = refl; finds = λ k l. absurd (let w : ⊥ = omega arith in w) }

  plans_head : (k : Stands r s) (u : ℕ) → Plans (head_plan k.ring (slot_after k.ring u)) (head_steps r (slot_after k.ring u))
  plans_head k u =
      let h = reading_header (reading_sound r k.ring k.entries k.reading) in
      let f = readable_facts r k.ring k.entries k.reading in
      let z = f.head in
      record {
        steps = head_steps_law r k.ring h (slot_after k.ring u) c.bytes;
        finds = head_finds r k.ring h (slot_after k.ring u) c.bytes (mod-lt (k.ring.head + u) (omega arith));
      }

  plans_entry : (free : refusal_of c r s ≡ None) (k : Stands r s) → c.kind ≡ writes
      → Plans (entry_plan k.ring (new_entry k.ring s.next c)) (store_steps k.ring.n (new_entry k.ring s.next c) c.bytes)
  plans_entry free k e =
      let h = reading_header (reading_sound r k.ring k.entries k.reading) in
      let f = readable_facts r k.ring k.entries k.reading in
      let w = may_write c r s k free e in
      let u = f.free in
      let m = w.room in
      let x = slots_some (length c.bytes) in
      let n = (next_facts s.next s.flush k.fit.next).0 in
      let d = new_entry k.ring s.next c in
      record {
        steps = entry_steps r k.ring h d c.bytes (λ z. let y : ⊥ = omega arith in y);
        finds = entry_finds r k.ring h d c.bytes (λ z. let y : ⊥ = omega arith in y) refl refl w.most (omega arith);
      }

  plans_report : (b : Bool) (k : Stands r s) (hs : List Held) → Plans (report_plan b k.ring hs s) (report_steps b k.ring hs r s)
  plans_report true k hs = plans_head k (slots_left s.pins (map (reported good) hs))
  plans_report false k hs = plans_none

  -- of a call that isn't refused
  module _ (free : refusal_of c r s ≡ None) where
    stands : is_one c (makes ∷ reopens ∷ []) ≡ false → is_one c (makes ∷ []) ≡ false → Stands r s
    stands a b = passed_stands c (record { reads = b; fits = a }) r s free

    on : (k : Stands r s) (p : Ring → List Held → Plan) (xs : Ring → List Held → List Step) → Plans (p k.ring (held_of (reading_of r) s)) (xs k.ring (held_of (reading_of r) s))
        → Plans (p (ring_of (reading_of r)) (held_of (reading_of r) s)) (xs (ring_of (reading_of r)) (held_of (reading_of r) s))
    on k p xs o = let g : ring_of (reading_of r) ≡ k.ring = ap ring_of k.reading in rw g o

    plans_by : (kind : Kind) → c.kind ≡ kind
        → Plans (plan_by kind c (ring_of (reading_of r)) (held_of (reading_of r) s) s) (steps_by kind c (ring_of (reading_of r)) (held_of (reading_of r) s) r s)
    plans_by makes e = plans_none
    plans_by reopens e = plans_none
    plans_by writes e =
        let k = stands (rw e) (rw e) in
        on k (λ g hs. entry_plan g (new_entry g s.next c)) (λ g hs. store_steps g.n (new_entry g s.next c) c.bytes) (plans_entry free k e)
    plans_by pins e = plans_none
    plans_by unpins e =
        let k = stands (rw e) (rw e) in
        on k (λ g hs. go_plan g hs (unpinned s c.number)) (λ g hs. head_steps r (slot_after g (slots_left (unpinned s c.number).pins hs))) (plans_head k _)
    plans_by asks_end e = plans_none
    plans_by reports e =
        let k = stands (rw e) (rw e) in
        on k (λ g hs. report_plan c.good g hs s) (λ g hs. report_steps c.good g hs r s) (plans_report c.good k (held_of (reading_of r) s))
    plans_by starts e = plans_none
    plans_by fills e = plans_none
    plans_by takes_ticket e = plans_none
    plans_by asks_ticket e = plans_none
    plans_by asks_turn e = plans_none

  plans_when : (x : Option Reason) → refusal_of c r s ≡ x → Plans (plan_of c r s) (steps_of c r s)
  unfolding plan_of steps_of
  plans_when None o = rw o (plans_by o c.kind refl)
  plans_when (Some why) o = rw o plans_none

  plans : Plans (plan_of c r s) (steps_of c r s)
  plans = plans_when (refusal_of c r s) refl

  -- the plan's steps are the call's
  pub plan_steps_law : plan_steps (plan_of c r s) c.bytes ≡ steps_of c r s
  plan_steps_law = plans.steps

  -- each finds its ring, and is made
  pub plan_finds : (k : ℕ) → k < step_count (plan_of c r s) → step_waits (plan_of c r s) (run r (take k (steps_of c r s))) c.bytes k ≡ true
  plan_finds k l = ap (λ xs. step_waits (plan_of c r s) (run r (take k xs)) c.bytes k) (sym plan_steps_law) ∙ plans.finds k l

  -- after k of them the ring is as after a cut behind k steps that left no rubbish
  pub plan_goes : (k : ℕ) → k ≤ step_count (plan_of c r s) → stepped (plan_of c r s) c.bytes k r ≡ ring_cut c r s k []
  plan_goes k l =
      stepped_runs (plan_of c r s) c.bytes r plans.finds k l ∙ ap (λ xs. run r (take k xs)) plan_steps_law ∙ sym (cut_none (steps_of c r s) r k)

  -- after all of them it is the outcome's
  pub plan_ends : is_one c (makes ∷ []) ≡ false → stepped (plan_of c r s) c.bytes (step_count (plan_of c r s)) r ≡ (outcome c r s).ring
  plan_ends not_made =
      stepped_all (plan_of c r s) c.bytes r plans.finds ∙ ap (run r) plan_steps_law ∙ sym (outcome_runs c r s not_made)
