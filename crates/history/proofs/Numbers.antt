-- Numbers given out between two restarts (of writes, pins, flushes and tickets) rise and are all different; a refused call takes none.
-- Document 01, "Moves": "Writes, pins, flush starts and tickets each take the next number. A refused call takes none."
use Rattle.std.specs.Prelude.{Option, None, Some}
use Prim.Native.Nat.{ℕ, ◌+◌, ◌≤◌, ◌<◌}
use mathlib.Core.Path.{◌≡◌, refl, sym, ap, ◌∙◌, subst}
use mathlib.Core.Bool.{Bool, true, false}
use mathlib.Core.List.{List, [], ◌∷◌}
use native.Mathlib.Omega.{arith}
use Rattle.reason.specs.declared.Reason.{Reason}
use Rattle.layout.specs.declared.Ring.{Ring}
use Rattle.layout.proofs.Tests.{never}
use Rattle.walk.specs.declared.Entry.{Entry}
use Rattle.state.specs.declared.State.{State}
use Rattle.state.specs.declared.Held.{Held}
use Rattle.state.specs.Lists.{pick}
use Rattle.rules.specs.Call.{Call, Kind, makes, reopens, writes, pins, unpins, asks_end, reports, starts, fills, takes_ticket, asks_ticket, asks_turn, is_one}
use Rattle.rules.specs.Flush.{has_batch}
use Rattle.rules.specs.Refusals.{refusal_of}
use Rattle.rules.specs.Outcome.{refuses, lent_by, report_done, start_done, done_by, outcome}
use Rattle.history.specs.World.{World, Move, call, land, is_done, world}
use Rattle.history.specs.Tale.{Tale, tell, tell_by, tale}
use Rattle.history.specs.Fair.{AllFair}
use Rattle.history.proofs.Stepping.{refused_not}

-- the newest first: each is below the one given after it, and all are below the next
abbrev pub Falling : ℕ → List ℕ → Type 0
Falling next [] = Unit {0}
Falling next (n ∷ ns) = (n < next) × Falling n ns

-- a refused call changes neither the state nor a byte
pub refused_same : (c : Call) (r : List ℕ) (s : State) (why : Reason) → refusal_of c r s ≡ Some why → outcome c r s ≡ lent_by (refuses why) s r c.buffer
unfolding outcome
refused_same c r s why o = rw o

-- ---- what a call that isn't refused says and tells

module _ (c : Call) (r : List ℕ) (s : State) where
  report_said : (b : Bool) (g : Ring) (hs : List Held) → is_done (report_done b g hs r s).said ≡ true
  report_said true g hs = refl
  report_said false g hs = refl

  start_said : (b : Bool) (g : Ring) (hs : List Held) → is_done (start_done b c.node g hs r s c.buffer).said ≡ true
  start_said true g hs = refl
  start_said false g hs = refl

  done_said : (kind : Kind) (g : Ring) (es : List Entry) (hs : List Held) → is_done (done_by kind c g es hs r s).said ≡ true
  done_said makes g es hs = refl
  done_said reopens g es hs = refl
  done_said writes g es hs = refl
  done_said pins g es hs = refl
  done_said unpins g es hs = refl
  done_said asks_end g es hs = refl
  done_said reports g es hs = report_said c.good g hs
  done_said starts g es hs = start_said (has_batch c.node hs) g hs
  done_said fills g es hs = refl
  done_said takes_ticket g es hs = refl
  done_said asks_ticket g es hs = refl
  done_said asks_turn g es hs = refl

  -- the tale goes by the kind
  pub told_done : (t : Tale) (kind : Kind) → c.kind ≡ kind → (g : Ring) (es : List Entry) (hs : List Held)
      → tell t c (done_by kind c g es hs r s).said ≡ tell_by kind c (done_by kind c g es hs r s).said.values t
  told_done t kind e g es hs =
      let vs = (done_by kind c g es hs r s).said.values in
      ap (λ b. pick b (tell_by c.kind c vs t) t) (done_said kind g es hs) ∙ ap (λ x. tell_by x c vs t) e

module _ (c : Call) (r : List ℕ) (s : State) (t : Tale) (k : Falling s.next t.given) (not_made : is_one c (makes ∷ []) ≡ false) where
  one_more : Falling (s.next + 1) (s.next ∷ t.given)
  one_more = (omega arith, k)

  report_falls : (b : Bool) → c.good ≡ b → (g : Ring) (hs : List Held) → Falling (report_done b g hs r s).state.next (tell_by reports c [] t).given
  report_falls true z g hs = rw z k
  report_falls false z g hs = rw z k

  -- what a report says has no value
  report_by : (b : Bool) → c.good ≡ b → (g : Ring) (hs : List Held) → Falling (report_done b g hs r s).state.next (tell_by reports c (report_done b g hs r s).said.values t).given
  report_by true z g hs = report_falls true z g hs
  report_by false z g hs = report_falls false z g hs

  start_falls : (b : Bool) (g : Ring) (hs : List Held) → Falling (start_done b c.node g hs r s c.buffer).state.next (tell_by starts c (start_done b c.node g hs r s c.buffer).said.values t).given
  start_falls true g hs = one_more
  start_falls false g hs = k

  done_falls : (kind : Kind) → c.kind ≡ kind → (g : Ring) (es : List Entry) (hs : List Held)
      → Falling (done_by kind c g es hs r s).state.next (tell_by kind c (done_by kind c g es hs r s).said.values t).given
  done_falls makes e g es hs = never (let w : true ≡ false = (rw e at not_made) in cc)
  done_falls reopens e g es hs = tt
  done_falls writes e g es hs = one_more
  done_falls pins e g es hs = one_more
  done_falls unpins e g es hs = k
  done_falls asks_end e g es hs = k
  done_falls reports e g es hs = report_by c.good refl g hs
  done_falls starts e g es hs = start_falls (has_batch c.node hs) g hs
  done_falls fills e g es hs = k
  done_falls takes_ticket e g es hs = one_more
  done_falls asks_ticket e g es hs = k
  done_falls asks_turn e g es hs = k

  done_as : (kind : Kind) → c.kind ≡ kind → (g : Ring) (es : List Entry) (hs : List Held)
      → Falling (done_by kind c g es hs r s).state.next (tell t c (done_by kind c g es hs r s).said).given
  done_as kind e g es hs =
      subst (λ x. Falling (done_by kind c g es hs r s).state.next x.given) (sym (told_done c r s t kind e g es hs)) (done_falls kind e g es hs)

  step_by : (x : Option Reason) → refusal_of c r s ≡ x → Falling (outcome c r s).state.next (tell t c (outcome c r s).said).given
  unfolding outcome
  step_by None o = rw o (done_as c.kind refl _ _ _)
  step_by (Some why) o = rw (o, refused_not why) k

-- over every history, numbers given out since the last restart rise, all different, and below the next
pub numbers_rise : (W : World) → (ms : List Move) → AllFair W ms → Falling (world W ms).state.next (tale W ms).given
numbers_rise W [] f = tt
numbers_rise W (call c ∷ ms) f =
    step_by c (world W ms).ring (world W ms).state (tale W ms) (numbers_rise W ms f.1) f.0.not_made (refusal_of c (world W ms).ring (world W ms).state) refl
numbers_rise W (land k ∷ ms) f = numbers_rise W ms f.1

-- no call but a restart takes a number back
module _ (c : Call) (r : List ℕ) (s : State) (not_made : is_one c (makes ∷ []) ≡ false) (not-restart : is_one c (reopens ∷ []) ≡ false) where
  report_next : (b : Bool) (g : Ring) (hs : List Held) → s.next ≤ (report_done b g hs r s).state.next
  report_next true g hs = omega arith
  report_next false g hs = omega arith

  start_next : (b : Bool) (g : Ring) (hs : List Held) → s.next ≤ (start_done b c.node g hs r s c.buffer).state.next
  start_next true g hs = omega arith
  start_next false g hs = omega arith

  done_next : (kind : Kind) → c.kind ≡ kind → (g : Ring) (es : List Entry) (hs : List Held) → s.next ≤ (done_by kind c g es hs r s).state.next
  done_next makes e g es hs = never (let w : true ≡ false = (rw e at not_made) in cc)
  done_next reopens e g es hs = never (let w : true ≡ false = (rw e at not-restart) in cc)
  done_next writes e g es hs = omega arith
  done_next pins e g es hs = omega arith
  done_next unpins e g es hs = omega arith
  done_next asks_end e g es hs = omega arith
  done_next reports e g es hs = report_next c.good g hs
  done_next starts e g es hs = start_next (has_batch c.node hs) g hs
  done_next fills e g es hs = omega arith
  done_next takes_ticket e g es hs = omega arith
  done_next asks_ticket e g es hs = omega arith
  done_next asks_turn e g es hs = omega arith

  next_by : (x : Option Reason) → refusal_of c r s ≡ x → s.next ≤ (outcome c r s).state.next
  unfolding outcome
  next_by None o = rw o (done_next c.kind refl _ _ _)
  next_by (Some why) o = rw o (omega arith)

  pub next_up : s.next ≤ (outcome c r s).state.next
  next_up = next_by (refusal_of c r s) refl
