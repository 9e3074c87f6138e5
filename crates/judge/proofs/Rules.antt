-- "State fits" as a record of its clauses, and what each test of the judge comes to.
use Prim.Native.Nat.{ℕ, ◌≤◌}
use Rattle.std.specs.Prelude.{Result, Ok, Err}
use Rattle.std.specs.List.{list_all, zip}
use mathlib.Core.Path.{◌≡◌, refl, sym, ◌∙◌, ap}
use mathlib.Core.Bool.{Bool, true, false}
use mathlib.Core.List.{List}
use borrow.Author.Tests.{eqb-true, eq-eqb}
use lib.ListN.{length}
use lib.Dec.{eqb}
use Rattle.layout.specs.Sizes.{most_entries}
use Rattle.layout.specs.Rack.{items, rack_of}
use Rattle.layout.specs.declared.Ring.{Ring}
use Rattle.layout.proofs.Racks.{items_of}
use Rattle.layout.proofs.Tests.{both_left, both_right, not_true_false, true_not_false, never}
use Rattle.reason.specs.declared.Reason.{Reason}
use Rattle.reason.specs.declared.Reason.TheVariants.{StateUnfit}
use Rattle.walk.specs.declared.Entry.{Entry}
use Rattle.walk.specs.Walk.{Rising, Reading, readable, unreadable, answer_of, reading_of, no_entry}
use Rattle.walk.specs.declared.Walked.{Walked}
use Rattle.walk.proofs.Readings.{answer_refused, reading_sound, entries_few, entries_rise}
use Rattle.state.specs.declared.State.{State}
use Rattle.state.specs.Lists.{holding, listed, no_held}
use Rattle.state.proofs.Bools.{both_intro}
use Rattle.judge.specs.Fits.{listed_fits, list_fits, next_fits, pins_fit, held_fits, fits}
use Rattle.judge.specs.declared.Judged.{Judged}
use Rattle.judge.specs.Answers.{judged_of}
use Rattle.judge.proofs.Fitting.{list_zip}

pub record IsFit (es : List Entry) (s : State) : Type 0 where
  pub count : s.count ≡ length es
  pub list : list_fits s.next es (listed s) ≡ true
  pub next : next_fits s.next s.flush ≡ true
  pub pins : pins_fit s.next s.pins ≡ true
  pub held : held_fits s (holding es (listed s)) ≡ true

module _ (es : List Entry) (s : State) where
  pub fits_true : IsFit es s → fits es s ≡ true
  unfolding fits
  fits_true o =
      both_intro _ _ (eq-eqb _ _ o.count) (both_intro _ _ o.list (both_intro _ _ o.next (both_intro _ _ o.pins o.held)))

  pub fits_sound : fits es s ≡ true → IsFit es s
  unfolding fits
  fits_sound e =
      let a = both_right (eqb s.count (length es)) _ e in
      let b = both_right (list_fits s.next es (listed s)) _ a in
      let c = both_right (next_fits s.next s.flush) _ b in
      record {
        count = eqb-true _ _ (both_left _ _ e);
        list = both_left _ _ a;
        next = both_left _ _ b;
        pins = both_left _ _ c;
        held = both_right (pins_fit s.next s.pins) _ c;
      }

  pub unfit : (g : Ring) → fits es s ≡ false → Err StateUnfit ≡ judged_of (readable g es) s
  unfit g k = rw k

  -- a test that fails unfits the state
  not_fit : (IsFit es s → ⊥) → fits es s ≡ false
  not_fit k = not_true_false _ (λ e. k (fits_sound e))

  pub unfit_count : (s.count ≡ length es → ⊥) → fits es s ≡ false
  unfit_count k = not_fit (λ o. k o.count)

  pub unfit_list : list_fits s.next es (listed s) ≡ false → fits es s ≡ false
  unfit_list k = not_fit (λ o. true_not_false _ o.list k)

  pub unfit_next : next_fits s.next s.flush ≡ false → fits es s ≡ false
  unfit_next k = not_fit (λ o. true_not_false _ o.next k)

  pub unfit_pins : pins_fit s.next s.pins ≡ false → fits es s ≡ false
  unfit_pins k = not_fit (λ o. true_not_false _ o.pins k)

  pub unfit_held : held_fits s (holding es (listed s)) ≡ false → fits es s ≡ false
  unfit_held k = not_fit (λ o. true_not_false _ o.held k)

  pub judge_fits : (g : Ring) (j : Judged) → fits es s ≡ true → j.ring ≡ g → j.held ≡ rack_of no_held (holding es (listed s)) → Ok j ≡ judged_of (readable g es) s
  judge_fits g j q a b = rw (q, ← a, ← b)

-- what the code finds of the entries, tests one after the other
module _ (s : State) (es : List Entry) (k : length es ≡ length (listed s)) where
  pub listed_by : (b : Bool) → b ≡ list_all (λ x. listed_fits s.next x.0.number x.1) (zip es (listed s)) → b ≡ list_fits s.next es (listed s)
  listed_by b o = o ∙ list_zip s.next es (listed s) k

pub ok_same : {A B : Type 0} (x y : A) → ◌≡◌ {A = Result A B} (Ok x) (Ok y) → x ≡ y
ok_same x y e = cc

-- ---- from the walk's answer to the reading

pub read_entries : (x : Reading) (w : Walked) → Ok w ≡ answer_of x → x ≡ readable w.ring (items w.entries)
read_entries unreadable w e = never (cc)
read_entries (readable g es) w e =
    let q : record { ring = g; entries = rack_of no_entry es } ≡ w = ok_same _ _ (sym e) in
    ap (readable g) (sym (items_of most_entries no_entry es)) ∙ ap (λ (v : Walked). readable v.ring (items v.entries)) q

pub read_refused : (x : Reading) (why : Reason) (s : State) → Err why ≡ answer_of x → Err why ≡ judged_of x s
read_refused unreadable why s e = rw (answer_refused unreadable why (sym e)).1 refl
read_refused (readable g es) why s e = never (cc)

pub walked_few : (r : List ℕ) (w : Walked) → Ok w ≡ answer_of (reading_of r) → (length (items w.entries) ≤ most_entries) × Rising 0 (items w.entries)
walked_few r w e =
    let k = reading_sound r w.ring (items w.entries) (read_entries (reading_of r) w e) in
    (entries_few k, entries_rise k)
