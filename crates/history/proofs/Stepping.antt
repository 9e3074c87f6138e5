-- Every move keeps the world and the tale in agreement: a call of any kind, refused or not, and a landing.
use Rattle.std.specs.Prelude.{Option, None, Some}
use Prim.Native.Nat.{ℕ, ◌<◌}
use mathlib.Core.Path.{◌≡◌, refl, sym, ap, ◌∙◌, subst}
use mathlib.Core.Bool.{Bool, true, false}
use mathlib.Core.List.{List, [], ◌∷◌}
use native.Mathlib.Omega.{arith}
use borrow.Author.Tests.{eqb-true, ne_eqb, ltb-true, ltb-false}
use lib.Dec.{eqb, ltb}
use Rattle.reason.specs.declared.Reason.{Reason}
use Rattle.reason.specs.Reason.{number_of}
use Rattle.layout.specs.Bytes.{both}
use Rattle.layout.proofs.Tests.{never, both_left, both_right}
use Rattle.walk.specs.declared.Entry.{Entry}
use Rattle.state.specs.declared.State.{State}
use Rattle.state.specs.declared.Held.{Held}
use Rattle.state.specs.Lists.{pick, no_pin, listed, holding}
use Rattle.state.specs.Pins.{pin_place}
use Rattle.state.proofs.Bools.{both_fails, not_fails}
use Rattle.state.proofs.Finding.{place_there}
use Rattle.rules.specs.Call.{Call, Kind, makes, reopens, writes, pins, unpins, asks_end, reports, starts, fills, takes_ticket, asks_ticket, asks_turn, is_one}
use Rattle.rules.specs.Flush.{has_batch}
use Rattle.rules.specs.Refusals.{refusal_of}
use Rattle.rules.specs.Outcome.{Outcome, says, refuses, lent_by, report_done, start_done, done_by, outcome}
use Rattle.rules.proofs.Saying.{number_some}
use Rattle.rules.proofs.Standing.{Real}
use Rattle.rules.proofs.Staying.{free, numbered, may_write}
use Rattle.history.specs.World.{World, Move, call, land, is_done, out_after, called, after}
use Rattle.history.specs.Tale.{Tale, tell, tell_by, told}
use Rattle.history.specs.Fair.{FairCall, Fair}
use Rattle.history.proofs.Agreeing.{Agrees, OutFits, is_none}
use Rattle.history.proofs.Writing.{agrees_write}
use Rattle.history.proofs.Numbering.{agrees_ticket, agrees_pin}
use Rattle.history.proofs.Releasing.{agrees_unpin, agrees_bad, agrees_good}
use Rattle.history.proofs.Starting.{agrees_start, front_sheet}
use Rattle.history.proofs.Restarting.{agrees_reopen}
use Rattle.history.proofs.Landing.{agrees_land}

-- ---- the same world and tale, told in other words

module _ (files : ℕ → List ℕ) where
  agrees_as : (r : List ℕ) (s : State) (shore : ℕ → List ℕ) (out out' : Option (List ℕ)) (u u' : Tale) → out ≡ out' → u ≡ u'
      → Agrees files (record { ring = r; state = s; shore = shore; out = out' }) u' → Agrees files (record { ring = r; state = s; shore = shore; out = out }) u
  agrees_as r s shore out out' u u' e f k = rw (e, f) k

-- a refusal isn't done
pub refused_not : (why : Reason) → is_done (refuses why) ≡ false
refused_not why = ne_eqb (number_of why) 0 (λ e. let h = number_some why in omega arith)

module _ (c : Call) (o : Outcome) (out : Option (List ℕ)) where
  -- a call that neither restarts nor reports nor starts leaves the sheet that is out
  out_stays : is_one c (reopens ∷ []) ≡ false → is_one c (reports ∷ []) ≡ false → is_one c (starts ∷ []) ≡ false → out_after c o out ≡ out
  out_stays a b d = rw (a, b, d) (at (is_done o.said))
    where
      at : (x : Bool) → pick x out out ≡ out
      at true = refl
      at false = refl

  out_kept : is_one c (reopens ∷ []) ≡ false → is_done o.said ≡ false → out_after c o out ≡ out
  out_kept a b = rw (a, b)

  out_ended : is_one c (reopens ∷ []) ≡ false → is_done o.said ≡ true → is_one c (reports ∷ []) ≡ true → out_after c o out ≡ None
  out_ended a b d = rw (a, b, d)

module _ (files : ℕ → List ℕ) (W : World) (t : Tale) (k : Agrees files W t) (c : Call) (fair : FairCall W t c) where
  abbrev r : List ℕ
  r = W.ring

  abbrev s : State
  s = W.state

  abbrev es : List Entry
  es = k.stands.entries

  abbrev hs : List Held
  hs = holding k.stands.entries (listed W.state)

  real : Real c
  real = record { node = fair.node; handle = fair.handle }

  abbrev done : Kind → Outcome
  done kind = done_by kind c k.stands.ring es hs r s

  abbrev Goal : Outcome → Type 0
  Goal o = Agrees files (called W c o) (tell t c o.said)

  told_as : (kind : Kind) → c.kind ≡ kind → (vs : List ℕ) → tell t c (says vs) ≡ tell_by kind c vs t
  told_as kind e vs = ap (λ x. tell_by x c vs t) e

  -- a call that only asks
  asks : (kind : Kind) → c.kind ≡ kind → (vs b : List ℕ) → tell_by kind c vs t ≡ t → is_one c (reopens ∷ []) ≡ false → is_one c (reports ∷ []) ≡ false → is_one c (starts ∷ []) ≡ false
      → Goal (lent_by (says vs) s r b)
  asks kind e vs b f x y z =
      agrees_as files r s W.shore (out_after c (lent_by (says vs) s r b) W.out) W.out (tell t c (says vs)) t
      (out_stays c (lent_by (says vs) s r b) W.out x y z) (told_as kind e vs ∙ f) k

  -- a flush is under way exactly while a sheet is out
  sheet_by_law : (out : Option (List ℕ)) → is_none out ≡ false → (sheet : List ℕ) × (out ≡ Some sheet)
  sheet_by_law None e = never (cc)
  sheet_by_law (Some sheet) e = (sheet, refl)

  module _ (o : refusal_of c r s ≡ None) where
    outcome_is : outcome c r s ≡ done_by c.kind c k.stands.ring es hs r s
    unfolding outcome
    outcome_is = rw (o, k.stands.reading)

    abbrev reported_as : Bool → Outcome
    reported_as b =
        lent_by (report_done b k.stands.ring hs r s).said (report_done b k.stands.ring hs r s).state (report_done b k.stands.ring hs r s).ring c.buffer

    said_done_law : (b : Bool) → is_done (reported_as b).said ≡ true
    said_done_law true = refl
    said_done_law false = refl

    went_by : (b : Bool) → c.good ≡ b → c.kind ≡ reports → (sheet : List ℕ) → W.out ≡ Some sheet → Goal (reported_as b)
    went_by true z e sheet x =
        agrees_as files _ _ W.shore (out_after c (reported_as true) W.out) None (tell t c (says [])) _
        (out_ended c (reported_as true) W.out (rw e) refl (rw e)) (told_as reports e [])
        (agrees_good files W t k sheet (subst (λ u. OutFits u W.shore t) x k.out_fits) c z
        (fair.whole (rw e) z (ap (λ p. is_done p.said) (outcome_is ∙ ap (λ kind. done_by kind c k.stands.ring es hs r s) e) ∙ said_done_law c.good) sheet x))
    went_by false z e sheet x =
        agrees_as files _ _ W.shore (out_after c (reported_as false) W.out) None (tell t c (says [])) _
        (out_ended c (reported_as false) W.out (rw e) refl (rw e)) (told_as reports e [])
        (agrees_bad files W t k sheet (subst (λ u. OutFits u W.shore t) x k.out_fits) c z)

    went : c.kind ≡ reports → Goal (reported_as c.good)
    went e =
        let f = both_left _ _ (not_fails _ (both_fails _ _ (free c r s k.stands o 6 (omega arith)) (rw e))) in
        let n : 0 < s.flush = ltb-true 0 s.flush f in
        let w = sheet_by_law W.out (k.flying ∙ ne_eqb s.flush 0 (λ x. omega arith)) in
        went_by c.good refl e w.0 w.1

    abbrev started_as : Bool → Outcome
    started_as b = start_done b c.node k.stands.ring hs r s c.buffer

    started : (b : Bool) → has_batch c.node hs ≡ b → c.kind ≡ starts → Goal (started_as b)
    started false z e =
        agrees_as files r s W.shore (out_after c (started_as false) W.out) W.out (tell t c (says [])) t (rw e) (told_as starts e []) k
    started true z e =
        let f = ltb-false 0 s.flush (both_fails _ _ (free c r s k.stands o 5 (omega arith)) (rw e)) in
        let l = numbered c r s k.stands o (rw (e, k.stands.reading) z) in
        agrees_as files r _ W.shore (out_after c (started_as true) W.out) _ (tell t c (started_as true).said) _
        (rw e (ap Some (front_sheet files W t k c real f l z c.buffer))) (told_as starts e _) (agrees_start files W t k c real f l z)

    granted : (kind : Kind) → c.kind ≡ kind → Goal (done kind)
    granted makes e = never (let w : true ≡ false = (rw e at fair.not_made) in cc)
    granted reopens e =
        agrees_as files r _ W.shore (out_after c (done reopens) W.out) None (tell t c (done reopens).said) _
        (rw e) (told_as reopens e (done reopens).said.values) (agrees_reopen files W t k c [])
    granted writes e =
        agrees_as files _ _ W.shore (out_after c (done writes) W.out) W.out (tell t c (done writes).said) _
        (out_stays c (done writes) W.out (rw e) (rw e) (rw e)) (told_as writes e _) (agrees_write files W t k c (may_write c r s k.stands o e) real)
    granted pins e =
        let f = not_fails _ (both_fails _ _ (free c r s k.stands o 8 (omega arith)) (rw e)) in
        let p = place_there (λ p. eqb p.number 0) no_pin s.pins f in
        agrees_as files _ _ W.shore (out_after c (done pins) W.out) W.out (tell t c (done pins).said) _
        (out_stays c (done pins) W.out (rw e) (rw e) (rw e)) (told_as pins e _)
        (agrees_pin files W t k c (numbered c r s k.stands o (rw e)) (pin_place 0 s.pins) p.0 (eqb-true _ _ p.1))
    granted unpins e =
        let l : 7 < 12 = omega arith in
        let f = rw e at (both_right (ltb 0 c.number) _ (not_fails _ (both_fails _ _ (free c r s k.stands o 7 l) (rw e)))) in
        let n = ltb-true 0 c.number (both_left _ _ (not_fails _ (both_fails _ _ (free c r s k.stands o 7 l) (rw e)))) in
        agrees_as files _ _ W.shore (out_after c (done unpins) W.out) W.out (tell t c (done unpins).said) _
        (out_stays c (done unpins) W.out (rw e) (rw e) (rw e)) (told_as unpins e _)
        (agrees_unpin files W t k c n (place_there (λ p. eqb p.number c.number) no_pin s.pins f).0)
    granted asks_end e = asks asks_end e _ c.buffer refl (rw e) (rw e) (rw e)
    granted reports e = went e
    granted starts e = started (has_batch c.node hs) refl e
    granted fills e = asks fills e (done fills).said.values (done fills).buffer refl (rw e) (rw e) (rw e)
    granted takes_ticket e =
        agrees_as files _ _ W.shore (out_after c (done takes_ticket) W.out) W.out (tell t c (done takes_ticket).said) _
        (out_stays c (done takes_ticket) W.out (rw e) (rw e) (rw e)) (told_as takes_ticket e _) (agrees_ticket files W t k c (numbered c r s k.stands o (rw e)))
    granted asks_ticket e = asks asks_ticket e _ c.buffer refl (rw e) (rw e) (rw e)
    granted asks_turn e = asks asks_turn e _ c.buffer refl (rw e) (rw e) (rw e)

  -- a restart is never refused
  reopens_granted : c.kind ≡ reopens → refusal_of c r s ≡ None
  unfolding refusal_of both
  reopens_granted e = rw (e, k.stands.reading)

  refused : (why : Reason) → refusal_of c r s ≡ Some why → Goal (lent_by (refuses why) s r c.buffer)
  refused why o =
      agrees_as files r s W.shore (out_after c (lent_by (refuses why) s r c.buffer) W.out) W.out (tell t c (refuses why)) t
      (out_kept c (lent_by (refuses why) s r c.buffer) W.out (not_reopen c.kind refl) (refused_not why)) (rw (refused_not why)) k
    where
      not_reopen : (kind : Kind) → c.kind ≡ kind → is_one c (reopens ∷ []) ≡ false
      not_reopen makes e = rw e
      not_reopen reopens e = never (let w : None ≡ Some why = sym (reopens_granted e) ∙ o in cc)
      not_reopen writes e = rw e
      not_reopen pins e = rw e
      not_reopen unpins e = rw e
      not_reopen asks_end e = rw e
      not_reopen reports e = rw e
      not_reopen starts e = rw e
      not_reopen fills e = rw e
      not_reopen takes_ticket e = rw e
      not_reopen asks_ticket e = rw e
      not_reopen asks_turn e = rw e

  step_by : (x : Option Reason) → refusal_of c r s ≡ x → Goal (outcome c r s)
  unfolding outcome
  step_by None o = rw (o, k.stands.reading) (granted o c.kind refl)
  step_by (Some why) o = rw o (refused why o)

  pub agrees_call : Agrees files (after W (call c)) (told W (call c) t)
  agrees_call = step_by (refusal_of c r s) refl

-- one move more
pub agrees_move : (files : ℕ → List ℕ) (W : World) (t : Tale) → Agrees files W t → (m : Move) → Fair W t m → Agrees files (after W m) (told W m t)
agrees_move files W t k (call c) f = agrees_call files W t k c f
agrees_move files W t k (land j) f = agrees_land files W t k j
