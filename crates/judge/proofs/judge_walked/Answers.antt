-- `judge::judge_walked` meets its contract: a test that fails unfits the state, and where none is left, it fits.
use mathlib.Core.Path.{◌≡◌, refl, sym, ap, ◌∙◌}
use borrow.Author.Rules.{rules}
use lib.ListN.{length}
use Rattle.std.proofs.lemmas.Grind.{common_steps}
use Rattle.layout.specs.Rack.{items, rack_of}
use Rattle.state.specs.Lists.{holding, listed, no_held}
use Rattle.judge.specs.Fits.{held_fits}
use Rattle.judge.proofs.Fitting.{holding_phases}
use Rattle.judge.proofs.Rules.{fits_true, unfit, unfit_count, unfit_list, unfit_next, unfit_pins, unfit_held, listed_by, judge_fits}
use Rattle.judge.proofs.judge_walked.Goals as goal

pub returns-then-s-entries : goal.returns-then-s-entries
returns-then-s-entries c = let s = c.args.s.now in
    unfit _ s _ (unfit_count _ s (λ n. c.if-s-entries.true (n ∙ sym (ap length c.as_slice-entries.ensures.value))))

pub returns-then-not-list_fits : goal.returns-then-not-list_fits
returns-then-not-list_fits c = let s = c.args.s.now in
    let k : length c.as_slice-entries.result.now ≡ length (listed s) = search (rules, common_steps) in
    let e = c.as_slice-entries.ensures.value in
    let l = listed_by s _ (rw e at k) _ (rw e at c.list_fits.ensures) in
    unfit _ s _ (unfit_list _ s (sym l ∙ c.if-not-list_fits.true))

pub held_fits-requires : goal.held_fits-requires
held_fits-requires c = let s = c.args.s.now in
    let k : length c.as_slice-entries.result.now ≡ length (listed s) = search (rules, common_steps) in
    let e = c.as_slice-entries.ensures.value in
    let l = listed_by s _ (rw e at k) _ (rw e at c.list_fits.ensures) in
    let h : items c.hold-held.result ≡ holding (items c.args.walked.now.entries) (listed s) = c.hold-held.ensures.items ∙ ap (λ es. holding es (listed s)) e in
    rw (c.as_slice.ensures.value, h) (holding_phases s.next _ (listed s) (sym l ∙ c.if-not-list_fits.false))

pub returns-then-not-next_fits : goal.returns-then-not-next_fits
returns-then-not-next_fits c = let s = c.args.s.now in
    unfit _ s _ (unfit_next _ s (sym c.next_fits.ensures ∙ c.if-not-next_fits.true))

pub returns-then-not-pins_fit : goal.returns-then-not-pins_fit
returns-then-not-pins_fit c = let s = c.args.s.now in
    unfit _ s _ (unfit_pins _ s (sym c.pins_fit.ensures ∙ c.if-not-pins_fit.true))

pub returns-then-not-held_fits : goal.returns-then-not-held_fits
returns-then-not-held_fits c = let s = c.args.s.now in
    let h : c.as_slice.result.now ≡ holding (items c.args.walked.now.entries) (listed s) =
    c.as_slice.ensures.value ∙ c.hold-held.ensures.items ∙ ap (λ es. holding es (listed s)) c.as_slice-entries.ensures.value in
    unfit _ s _ (unfit_held _ s (sym (c.held_fits.ensures ∙ ap (held_fits s) h) ∙ c.if-not-held_fits.true))

pub returns : goal.returns
returns c = let s = c.args.s.now in
    let k : length c.as_slice-entries.result.now ≡ length (listed s) = search (rules, common_steps) in
    let e = c.as_slice-entries.ensures.value in
    let l = listed_by s _ (rw e at k) _ (rw e at c.list_fits.ensures) in
    let g : items c.hold-held.result ≡ holding (items c.args.walked.now.entries) (listed s) = c.hold-held.ensures.items ∙ ap (λ es. holding es (listed s)) e in
    judge_fits (items c.args.walked.now.entries) s _ (record { ring = c.args.walked.now.ring; held = c.hold-held.result })
    (fits_true _ s
    (record {
      count = c.if-s-entries.false ∙ ap length e;
      list = sym l ∙ c.if-not-list_fits.false;
      next = sym c.next_fits.ensures ∙ c.if-not-next_fits.false;
      pins = sym c.pins_fit.ensures ∙ c.if-not-pins_fit.false;
      held = sym (c.held_fits.ensures ∙ ap (held_fits s) (c.as_slice.ensures.value ∙ g)) ∙ c.if-not-held_fits.false;
    }))
    refl (c.hold-held.ensures.tidy ∙ ap (rack_of no_held) g)
