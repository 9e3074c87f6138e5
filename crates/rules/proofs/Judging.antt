-- From the judge's word to the outcome: a call that it refuses, and what a call that it lets pass may count on.
use Rattle.std.specs.Prelude.{Some, Result, Ok, Err}
use Prim.Native.Nat.{ℕ}
use mathlib.Core.Path.{◌≡◌, refl, sym, ◌∙◌, ap}
use mathlib.Core.Bool.{Bool, true, false}
use mathlib.Core.List.{List, [], ◌∷◌}
use Rattle.reason.specs.declared.Reason.{Reason}
use Rattle.reason.specs.declared.Reason.TheVariants.{Unreadable, StateUnfit}
use Rattle.layout.specs.Sizes.{most_entries}
use Rattle.layout.specs.Bytes.{both}
use Rattle.layout.specs.Rack.{items, rack_of}
use Rattle.layout.specs.declared.Ring.{Ring}
use Rattle.layout.proofs.Racks.{items_of}
use Rattle.layout.proofs.Tests.{never}
use Rattle.walk.specs.declared.Entry.{Entry}
use Rattle.walk.specs.Walk.{Reading, readable, unreadable, reading_of}
use Rattle.state.specs.declared.State.{State}
use Rattle.state.specs.Lists.{holding, listed, no_held}
use Rattle.judge.specs.declared.Judged.{Judged}
use Rattle.judge.specs.Fits.{fits}
use Rattle.judge.specs.Answers.{judged_of}
use Rattle.judge.proofs.Rules.{ok_same}
use Rattle.rules.specs.Call.{Call, makes, reopens, is_one}
use Rattle.rules.specs.Refusals.{refusal_of, own}
use Rattle.rules.specs.Outcome.{lent_by, refuses, done_by, unless, outcome}
use Rattle.rules.specs.Known.{Known}

-- a call that tests 8 and 12
pub record Judges (c : Call) : Type 0 where
  pub reads : is_one c (makes ∷ []) ≡ false
  pub fits : is_one c (makes ∷ reopens ∷ []) ≡ false

-- ---- what the judge says

module _ (r : List ℕ) (s : State) where
  known_yes : (g : Ring) (es : List Entry) → reading_of r ≡ readable g es → fits es s ≡ true → Known r s (record { ring = g; held = rack_of no_held (holding es (listed s)) })
  known_yes g es q f = record { entries = es; reading = q; fit = f; held = items_of most_entries no_held (holding es (listed s)) }

  module _ (j : Judged) where
    known_by : (h : Ring) (es : List Entry) (b : Bool) → reading_of r ≡ readable h es → fits es s ≡ b → Ok j ≡ judged_of (readable h es) s → Known r s j
    known_by h es true q f e =
        let w : record { ring = h; held = rack_of no_held (holding es (listed s)) } ≡ j = ok_same _ _ (sym (rw f at e)) in
        rw (← w) (known_yes h es q f)
    known_by h es false q f e = never (let w : ◌≡◌ {A = Result Judged Reason} (Ok j) (Err StateUnfit) = (rw f at e) in cc)

    known_at : (x : Reading) → reading_of r ≡ x → Ok j ≡ judged_of x s → Known r s j
    known_at unreadable q e = never (cc)
    known_at (readable h es) q e = known_by h es (fits es s) q refl e

    pub known : Ok j ≡ judged_of (reading_of r) s → Known r s j
    known e = known_at (reading_of r) refl e

-- ---- what the judge refuses, the call refuses

same_reason : (a b : Reason) → ◌≡◌ {A = Result Judged Reason} (Err a) (Err b) → a ≡ b
same_reason a b e = cc

module _ (c : Call) (o : Judges c) (r : List ℕ) (s : State) where
  pub unreadable_refused : reading_of r ≡ unreadable → refusal_of c r s ≡ Some Unreadable
  unfolding refusal_of both
  unreadable_refused q = rw (q, o.reads)

  pub unfit_refused : (g : Ring) (es : List Entry) → reading_of r ≡ readable g es → fits es s ≡ false → refusal_of c r s ≡ Some StateUnfit
  unfolding refusal_of both
  unfit_refused g es q f = rw (q, o.reads, o.fits, f)

  refused_by : (why : Reason) (h : Ring) (es : List Entry) (b : Bool) → reading_of r ≡ readable h es → fits es s ≡ b
      → Err why ≡ judged_of (readable h es) s → refusal_of c r s ≡ Some why
  refused_by why h es true q f e = never (let w : ◌≡◌ {A = Result Judged Reason} (Err why) (Ok (record { ring = h; held = rack_of no_held (holding es (listed s)) })) = (rw f at e) in cc)
  refused_by why h es false q f e = unfit_refused h es q f ∙ ap Some (same_reason _ _ (sym (rw f at e)))

  refused_at : (why : Reason) (x : Reading) → reading_of r ≡ x → Err why ≡ judged_of x s → refusal_of c r s ≡ Some why
  refused_at why unreadable q e = unreadable_refused q ∙ ap Some (same_reason _ _ (sym e))
  refused_at why (readable h es) q e = refused_by why h es (fits es s) q refl e

  pub judge_no : (why : Reason) → Err why ≡ judged_of (reading_of r) s → refusal_of c r s ≡ Some why
  judge_no why e = refused_at why (reading_of r) refl e

  pub judge_refuses : (why : Reason) → Err why ≡ judged_of (reading_of r) s → lent_by (refuses why) s r c.buffer ≡ outcome c r s
  unfolding outcome
  judge_refuses why e = rw (refused_at why (reading_of r) refl e)

-- ---- what it lets pass goes by the rest of the order

module _ (c : Call) (o : Judges c) (r : List ℕ) (s : State) (j : Judged) (k : Known r s j) where
  pub passes : refusal_of c r s ≡ own c r (readable j.ring k.entries) s
  unfolding refusal_of both
  passes = rw (k.reading, o.reads, o.fits, k.fit)

  pub judge_passes : outcome c r s ≡ unless (own c r (readable j.ring k.entries) s) r s c.buffer (done_by c.kind c j.ring k.entries (items j.held) r s)
  unfolding outcome
  judge_passes = rw (passes, k.reading, k.held)
