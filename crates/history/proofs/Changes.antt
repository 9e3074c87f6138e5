-- What a call does to the writes of the tale: nothing, one write more, or some that leave.
use Rattle.std.specs.Prelude.{Option, None, Some}
use Prim.Native.Nat.{ℕ}
use mathlib.Core.Path.{◌≡◌, refl, sym, subst}
use mathlib.Core.Bool.{Bool, true, false}
use mathlib.Core.List.{List, [], ◌∷◌, ◌++◌}
use Rattle.reason.specs.declared.Reason.{Reason}
use Rattle.layout.specs.declared.Ring.{Ring}
use Rattle.layout.proofs.Tests.{never}
use Rattle.walk.specs.declared.Entry.{Entry}
use Rattle.walk.specs.Walk.{Write}
use Rattle.state.specs.declared.State.{State}
use Rattle.state.specs.declared.Held.{Held}
use Rattle.rules.specs.Call.{Call, Kind, makes, reopens, writes, pins, unpins, asks_end, reports, starts, fills, takes_ticket, asks_ticket, asks_turn, is_one}
use Rattle.rules.specs.Flush.{has_batch}
use Rattle.rules.specs.Refusals.{refusal_of}
use Rattle.rules.specs.Outcome.{report_done, start_done, done_by, outcome}
use Rattle.history.specs.Tale.{Tale, leave, tell, tell_by}
use Rattle.history.proofs.Numbers.{told_done}
use Rattle.history.proofs.Stepping.{refused_not}

pub data Change (s : State) (t u : Tale) : Type 0 where
  stays : u.accepted ≡ t.accepted → u.held ≡ t.held → Change s t u
  grew : (w : Write) → w.number ≡ s.next → u.accepted ≡ t.accepted ++ w ∷ [] → u.held ≡ t.held ++ w ∷ [] → Change s t u
  let_go : (good : List ℕ) → u.accepted ≡ t.accepted → u.held ≡ leave good u.live t.held → Change s t u

module _ (c : Call) (r : List ℕ) (s : State) (t : Tale) (not_made : is_one c (makes ∷ []) ≡ false) where
  report_changes : (b : Bool) → c.good ≡ b → (g : Ring) (hs : List Held) → Change s t (tell_by reports c (report_done b g hs r s).said.values t)
  report_changes true z g hs = rw z (let_go _ refl refl)
  report_changes false z g hs = rw z (stays refl refl)

  start_changes : (b : Bool) (g : Ring) (hs : List Held) → Change s t (tell_by starts c (start_done b c.node g hs r s c.buffer).said.values t)
  start_changes true g hs = stays refl refl
  start_changes false g hs = stays refl refl

  done_changes : (kind : Kind) → c.kind ≡ kind → (g : Ring) (es : List Entry) (hs : List Held) → Change s t (tell_by kind c (done_by kind c g es hs r s).said.values t)
  done_changes makes e g es hs = never (let w : true ≡ false = (rw e at not_made) in cc)
  done_changes reopens e g es hs = stays refl refl
  done_changes writes e g es hs = grew (record { number = s.next; node = c.node; handle = c.handle; offset = c.offset; bytes = c.bytes }) refl refl refl
  done_changes pins e g es hs = stays refl refl
  done_changes unpins e g es hs = let_go t.good refl refl
  done_changes asks_end e g es hs = stays refl refl
  done_changes reports e g es hs = report_changes c.good refl g hs
  done_changes starts e g es hs = start_changes (has_batch c.node hs) g hs
  done_changes fills e g es hs = stays refl refl
  done_changes takes_ticket e g es hs = stays refl refl
  done_changes asks_ticket e g es hs = stays refl refl
  done_changes asks_turn e g es hs = stays refl refl

  changes_by : (x : Option Reason) → refusal_of c r s ≡ x → Change s t (tell t c (outcome c r s).said)
  unfolding outcome
  changes_by None o = rw o (subst (Change s t) (sym (told_done c r s t c.kind refl _ _ _)) (done_changes c.kind refl _ _ _))
  changes_by (Some why) o = rw (o, refused_not why) (stays refl refl)

  pub change : Change s t (tell t c (outcome c r s).said)
  change = changes_by (refusal_of c r s) refl
