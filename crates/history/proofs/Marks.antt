-- Marks stand at or below what waits: a live pin's mark is at most the number of every held write in its reach that isn't good yet. That is what a fill leans on.
use Rattle.std.specs.Prelude.{Option, None, Some}
use Prim.Native.Nat.{ℕ, ◌+◌, ◌≤◌, ◌<◌}
use mathlib.Core.Path.{◌≡◌, refl, sym, ap, ◌∙◌, subst}
use mathlib.Core.Bool.{Bool, true, false, not}
use mathlib.Core.List.{List, [], ◌∷◌, ◌++◌}
use native.Mathlib.Omega.{arith}
use borrow.Author.Tests.{leb-true, leb-false}
use lib.Dec.{eqb, leb}
use Rattle.reason.specs.declared.Reason.{Reason}
use Rattle.layout.specs.Bytes.{both}
use Rattle.layout.specs.declared.Ring.{Ring}
use Rattle.layout.proofs.Tests.{never, both_left}
use Rattle.walk.specs.declared.Entry.{Entry}
use Rattle.walk.specs.Walk.{Write}
use Rattle.state.specs.declared.State.{State}
use Rattle.state.specs.declared.Pin.{Pin}
use Rattle.state.specs.declared.Held.{Held}
use Rattle.state.specs.Lists.{pick, those}
use Rattle.state.proofs.Bools.{both_intro}
use Rattle.state.proofs.Pairs.{any_append}
use Rattle.state.proofs.Finding.{Each, each_by, each_join, each_right}
use Rattle.rules.specs.Call.{Call, Kind, makes, reopens, writes, pins, unpins, asks_end, reports, starts, fills, takes_ticket, asks_ticket, asks_turn, is_one}
use Rattle.rules.specs.Flush.{has_batch}
use Rattle.rules.specs.Refusals.{refusal_of}
use Rattle.rules.specs.Outcome.{report_done, start_done, done_by, outcome}
use Rattle.history.specs.World.{World, Move, call, land, world}
use Rattle.history.specs.Tale.{Tale, among, numbers_of, in_reach, least, leave, pin_of, tell, tell_by, tale}
use Rattle.history.specs.Fair.{AllFair}
use Rattle.state.proofs.Those.{each_those}
use Rattle.history.proofs.Numbers.{told_done}
use Rattle.history.proofs.Stepping.{refused_not}
use Rattle.history.proofs.Tickets.{parts}

-- a write that waits in reach of a node
abbrev pub still_waits : List ℕ → ℕ → Write → Bool
still_waits good node w = both (in_reach node w) (not (among w.number good))

pub record Marked (next : ℕ) (good : List ℕ) (held : List Write) (p : Pin) : Type 0 where
  pub own : p.number < next
  pub mark : p.mark < next
  pub low : Each (λ w. still_waits good p.node w ≡ true → p.mark ≤ w.number) held

-- ---- the least

least_own : (own : ℕ) (ws : List Write) → least own ws ≤ own
least_own own [] = omega arith
least_own own (w ∷ ws) = at (leb w.number (least own ws)) refl (least_own own ws)
  where
    at : (b : Bool) → leb w.number (least own ws) ≡ b → least own ws ≤ own → pick b w.number (least own ws) ≤ own
    at true e h = omega (arith, leb-true w.number (least own ws) e)
    at false e h = h

least_each : (own : ℕ) (q : Write → Bool) (ws : List Write) → Each (λ w. q w ≡ true → least own (those q ws) ≤ w.number) ws
least_each own q [] = tt
least_each own q (w ∷ ws) = at (q w) refl (least_each own q ws)
  where
    lower : (m k : ℕ) → m ≤ k → (vs : List Write) → Each (λ v. q v ≡ true → k ≤ v.number) vs → Each (λ v. q v ≡ true → m ≤ v.number) vs
    lower m k h vs o = each_by _ _ vs (λ v u z. let l = u z in omega arith) o

    first : (b : Bool) → leb w.number (least own (those q ws)) ≡ b → (pick b w.number (least own (those q ws)) ≤ w.number) × (pick b w.number (least own (those q ws)) ≤ least own (those q ws))
    first true e = (omega arith, leb-true w.number (least own (those q ws)) e)
    first false e = (let l = leb-false w.number (least own (those q ws)) e in omega arith, omega arith)

    at : (b : Bool) → q w ≡ b → Each (λ v. q v ≡ true → least own (those q ws) ≤ v.number) ws → Each (λ v. q v ≡ true → least own (pick b (w ∷ those q ws) (those q ws)) ≤ v.number) (w ∷ ws)
    at true e o =
        let f = first (leb w.number (least own (those q ws))) refl in
        ((λ z. f.0), lower _ _ f.1 ws o)
    at false e o = ((λ z. never (cc)), o)

-- ---- a mark stays low

module _ (p : Pin) where
  marked_next : (next more : ℕ) (good : List ℕ) (held : List Write) → next ≤ more → Marked next good held p → Marked more good held p
  marked_next next more good held h k = let a = k.own in let b = k.mark in record { own = omega arith; mark = omega arith; low = k.low }

  marked_grows : (next : ℕ) (good : List ℕ) (held : List Write) (w : Write) → next ≤ w.number → Marked next good held p → Marked (next + 1) good (held ++ w ∷ []) p
  marked_grows next good held w h k =
      let a = k.own in
      let b = k.mark in
      record { own = omega arith; mark = omega arith; low = each_join _ held (w ∷ []) k.low ((λ z. omega arith), tt) }

  marked_leaves : (next : ℕ) (good g : List ℕ) (ps : List Pin) (held : List Write) → Marked next good held p → Marked next good (leave g ps held) p
  marked_leaves next good g ps held k =
      let q = parts g ps [] held in
      record { own = k.own; mark = k.mark; low = subst (Each _) (sym q.left) (each_join _ q.old' q.new' (nothing q.old' q.gone q.olds) (each_right _ q.off q.new' (subst (Each _) q.news k.low))) }
    where
      nothing : (old gone : List Write) → [] ≡ gone ++ old → Each (λ w. still_waits good p.node w ≡ true → p.mark ≤ w.number) old
      nothing [] gone e = tt
      nothing (w ∷ old) [] e = never (cc)
      nothing (w ∷ old) (v ∷ gone) e = never (cc)

  -- what is good stays good
  good_more : (good b : List ℕ) (w : Write) → still_waits (good ++ b) p.node w ≡ true → still_waits good p.node w ≡ true
  good_more good b w e = at (among w.number good) refl (ap (λ x. both (in_reach p.node w) (not x)) (sym (any_append (λ k. eqb k w.number) good b)) ∙ e)
    where
      at : (x : Bool) → among w.number good ≡ x → both (in_reach p.node w) (not (pick x true (among w.number b))) ≡ true → both (in_reach p.node w) (not x) ≡ true
      at true z y = y
      at false z y = left (in_reach p.node w) (not (among w.number b)) y
        where
          left : (u v : Bool) → both u v ≡ true → both u true ≡ true
          left u v o = both_intro u true (both_left u v o) refl

  marked_good : (next : ℕ) (good b : List ℕ) (held : List Write) → Marked next good held p → Marked next (good ++ b) held p
  marked_good next good b held k = record { own = k.own; mark = k.mark; low = each_by _ _ held (λ w u z. u (good_more good b w z)) k.low }

abbrev pub AllMarked : ℕ → Tale → Type 0
AllMarked next t = Each (Marked next t.good t.held) t.live

-- ---- every call keeps it

module _ (c : Call) (r : List ℕ) (s : State) (t : Tale) (k : AllMarked s.next t) (not_made : is_one c (makes ∷ []) ≡ false) where
  one_more : AllMarked (s.next + 1) t
  one_more = each_by _ _ t.live (λ p m. marked_next p s.next (s.next + 1) t.good t.held (omega arith) m) k

  new_pin_law : Marked (s.next + 1) t.good t.held (pin_of t s.next c.node)
  new_pin_law =
      let l = least_own s.next (those (still_waits t.good c.node) t.held) in
      record { own = omega arith; mark = omega arith; low = least_each s.next (still_waits t.good c.node) t.held }

  report_marked : (b : Bool) → c.good ≡ b → (g : Ring) (hs : List Held) → AllMarked (report_done b g hs r s).state.next (tell_by reports c (report_done b g hs r s).said.values t)
  report_marked true z g hs =
      rw z (each_by _ _ t.live (λ p m. marked_leaves p s.next (t.good ++ numbers_of t.batch) _ t.live t.held (marked_good p s.next t.good (numbers_of t.batch) t.held m)) k)
  report_marked false z g hs = rw z k

  start_marked : (b : Bool) (g : Ring) (hs : List Held)
      → AllMarked (start_done b c.node g hs r s c.buffer).state.next (tell_by starts c (start_done b c.node g hs r s c.buffer).said.values t)
  start_marked true g hs = one_more
  start_marked false g hs = k

  done_marked : (kind : Kind) → c.kind ≡ kind → (g : Ring) (es : List Entry) (hs : List Held)
      → AllMarked (done_by kind c g es hs r s).state.next (tell_by kind c (done_by kind c g es hs r s).said.values t)
  done_marked makes e g es hs = never (let w : true ≡ false = (rw e at not_made) in cc)
  done_marked reopens e g es hs = tt
  done_marked writes e g es hs = each_by _ _ t.live (λ p m. marked_grows p s.next t.good t.held _ (omega arith) m) k
  done_marked pins e g es hs = each_join _ t.live (pin_of t s.next c.node ∷ []) one_more (new_pin_law, tt)
  done_marked unpins e g es hs =
      each_those _ _ t.live (each_by _ _ t.live (λ p m. marked_leaves p s.next t.good t.good _ t.held m) k)
  done_marked asks_end e g es hs = k
  done_marked reports e g es hs = report_marked c.good refl g hs
  done_marked starts e g es hs = start_marked (has_batch c.node hs) g hs
  done_marked fills e g es hs = k
  done_marked takes_ticket e g es hs = one_more
  done_marked asks_ticket e g es hs = k
  done_marked asks_turn e g es hs = k

  marked_by : (x : Option Reason) → refusal_of c r s ≡ x → AllMarked (outcome c r s).state.next (tell t c (outcome c r s).said)
  unfolding outcome
  marked_by None o = rw o (subst (AllMarked _) (sym (told_done c r s t c.kind refl _ _ _)) (done_marked c.kind refl _ _ _))
  marked_by (Some why) o = rw (o, refused_not why) k

pub tale_marked : (W : World) (ms : List Move) → AllFair W ms → AllMarked (world W ms).state.next (tale W ms)
tale_marked W [] f = tt
tale_marked W (call c ∷ ms) f =
    marked_by c (world W ms).ring (world W ms).state (tale W ms) (tale_marked W ms f.1) f.0.not_made (refusal_of c (world W ms).ring (world W ms).state) refl
tale_marked W (land j ∷ ms) f = tale_marked W ms f.1
