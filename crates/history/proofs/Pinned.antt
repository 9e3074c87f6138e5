-- Since a pin was given, the ring laid over any shore file seen after it is the history's file: what the pin reaches from its mark on stays.
use Rattle.std.specs.Prelude.{Option, None, Some}
use Prim.Native.Nat.{ℕ, ◌<◌}
use mathlib.Core.Path.{◌≡◌, refl, sym, ap, ◌∙◌, subst}
use mathlib.Core.Bool.{Bool, true, false}
use mathlib.Core.List.{List, [], ◌∷◌, ◌++◌}
use native.Mathlib.Omega.{arith}
use borrow.Author.Tests.{eqb-true, ne_eqb}
use lib.Dec.{eqb}
use Rattle.reason.specs.declared.Reason.{Reason}
use Rattle.layout.specs.Bytes.{both}
use Rattle.layout.specs.declared.Ring.{Ring}
use Rattle.layout.proofs.Tests.{never, both_left, both_right}
use Rattle.walk.specs.declared.Entry.{Entry}
use Rattle.state.specs.declared.State.{State}
use Rattle.state.specs.declared.Pin.{Pin}
use Rattle.state.specs.declared.Held.{Held}
use Rattle.state.specs.Lists.{pick, any, those}
use Rattle.state.proofs.Bools.{no_both}
use Rattle.state.proofs.Pairs.{any_append}
use Rattle.state.proofs.Finding.{Each}
use Rattle.rules.specs.Call.{Call, Kind, makes, reopens, writes, pins, unpins, asks_end, reports, starts, fills, takes_ticket, asks_ticket, asks_turn}
use Rattle.rules.specs.Flush.{has_batch}
use Rattle.rules.specs.Refusals.{refusal_of}
use Rattle.rules.specs.Outcome.{report_done, start_done, done_by, outcome}
use Rattle.history.specs.Tale.{Tale, pin_of, tell, tell_by}
use Rattle.history.proofs.Numbers.{told_done}
use Rattle.history.proofs.Stepping.{refused_not}

-- ---- a pin among the live ones

abbrev pub same_pin : Pin → Pin → Bool
same_pin p x = both (eqb x.number p.number) (both (eqb x.mark p.mark) (eqb x.node p.node))

abbrev pub is_live_in : Pin → List Pin → Bool
is_live_in p live = any (same_pin p) live

same_pin_law : (p x : Pin) → same_pin p x ≡ true → x ≡ p
same_pin_law p x e =
    let a : x.number ≡ p.number = eqb-true _ _ (both_left _ _ e) in
    let t = both_right (eqb x.number p.number) _ e in
    let b : x.mark ≡ p.mark = eqb-true _ _ (both_left _ _ t) in
    let d : x.node ≡ p.node = eqb-true _ _ (both_right (eqb x.mark p.mark) _ t) in
    alike x.number p.number x.mark p.mark x.node p.node a b d
  where
    alike : (a b c d e f : ℕ) → a ≡ b → c ≡ d → e ≡ f → ◌≡◌ {A = Pin} (record { number = a; mark = c; node = e }) (record { number = b; mark = d; node = f })
    alike a b c d e f x y z = rw (x, y, z) refl

-- what is said of every live pin is said of it
pub in_each : (P : Pin → Type 0) (p : Pin) (live : List Pin) → Each P live → is_live_in p live ≡ true → P p
in_each P p [] o e = never (cc)
in_each P p (x ∷ live) o e = at (same_pin p x) refl e (in_each P p live o.1)
  where
    at : (b : Bool) → same_pin p x ≡ b → pick b true (is_live_in p live) ≡ true → (is_live_in p live ≡ true → P p) → P p
    at true z y k = subst P (same_pin_law p x z) o.0
    at false z y k = k y

-- where it is live a test that it passes is passed by some live pin
pub in_any : (q : Pin → Bool) (p : Pin) (live : List Pin) → q p ≡ true → is_live_in p live ≡ true → any q live ≡ true
in_any q p [] h e = never (cc)
in_any q p (x ∷ live) h e = at (same_pin p x) refl e (in_any q p live h)
  where
    last : (a : Bool) → any q live ≡ true → pick a true (any q live) ≡ true
    last true z = refl
    last false z = z

    at : (b : Bool) → same_pin p x ≡ b → pick b true (is_live_in p live) ≡ true → (is_live_in p live ≡ true → any q live ≡ true) → pick (q x) true (any q live) ≡ true
    at true z y k = ap (λ u. pick u true (any q live)) (ap q (same_pin_law p x z) ∙ h)
    at false z y k = last (q x) (k y)

-- ---- a pin that is live was live before, unless it was given just now

any_keep : (q f : Pin → Bool) (live : List Pin) → any q (those f live) ≡ true → any q live ≡ true
any_keep q f [] e = e
any_keep q f (x ∷ live) e = at (f x) (q x) refl e (any_keep q f live)
  where
    at : (b d : Bool) → q x ≡ d → any q (pick b (x ∷ those f live) (those f live)) ≡ true → (any q (those f live) ≡ true → any q live ≡ true) → pick d true (any q live) ≡ true
    at b true z y k = refl
    at true false z y k = k (rw z at y)
    at false false z y k = k y

module _ (p : Pin) (c : Call) (r : List ℕ) (s : State) (t : Tale) (h : p.number < s.next) where
  not_new : (x : Pin) → x.number ≡ s.next → same_pin p x ≡ false
  not_new x e = rw (ne_eqb x.number p.number (λ z. omega arith)) (no_both _)

  pinned_back : is_live_in p (t.live ++ pin_of t s.next c.node ∷ []) ≡ true → is_live_in p t.live ≡ true
  pinned_back e =
      at (is_live_in p t.live) (sym (any_append (same_pin p) t.live (pin_of t s.next c.node ∷ []) ∙ ap (λ b. pick (is_live_in p t.live) true (pick b true false)) (not_new (pin_of t s.next c.node) refl)) ∙ e)
    where
      at : (b : Bool) → pick b true false ≡ true → b ≡ true
      at true z = refl
      at false z = z

  report_back : (b : Bool) → c.good ≡ b → (g : Ring) (hs : List Held) → is_live_in p (tell_by reports c (report_done b g hs r s).said.values t).live ≡ true → is_live_in p t.live ≡ true
  report_back true z g hs e = rw z at e
  report_back false z g hs e = rw z at e

  start_back : (b : Bool) (g : Ring) (hs : List Held) → is_live_in p (tell_by starts c (start_done b c.node g hs r s c.buffer).said.values t).live ≡ true → is_live_in p t.live ≡ true
  start_back true g hs e = e
  start_back false g hs e = e

  done_back : (kind : Kind) (g : Ring) (es : List Entry) (hs : List Held) → is_live_in p (tell_by kind c (done_by kind c g es hs r s).said.values t).live ≡ true → is_live_in p t.live ≡ true
  done_back makes g es hs e = e
  done_back reopens g es hs e = never (cc)
  done_back writes g es hs e = e
  done_back pins g es hs e = pinned_back e
  done_back unpins g es hs e = any_keep (same_pin p) _ t.live e
  done_back asks_end g es hs e = e
  done_back reports g es hs e = report_back c.good refl g hs e
  done_back starts g es hs e = start_back (has_batch c.node hs) g hs e
  done_back fills g es hs e = e
  done_back takes_ticket g es hs e = e
  done_back asks_ticket g es hs e = e
  done_back asks_turn g es hs e = e

  back_by : (x : Option Reason) → refusal_of c r s ≡ x → is_live_in p (tell t c (outcome c r s).said).live ≡ true → is_live_in p t.live ≡ true
  unfolding outcome
  back_by None o e = done_back c.kind _ _ _ (rw (told_done c r s t c.kind refl _ _ _) at (rw o at e))
  back_by (Some why) o e = rw (o, refused_not why) at e

  pub live_back : is_live_in p (tell t c (outcome c r s).said).live ≡ true → is_live_in p t.live ≡ true
  live_back = back_by (refusal_of c r s) refl
