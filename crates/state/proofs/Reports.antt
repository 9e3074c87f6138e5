-- What a report leaves of a held write: its entry, and a state that fits.
use Prim.Native.Nat.{ℕ}
use mathlib.Core.Path.{◌≡◌, refl}
use mathlib.Core.Bool.{Bool, true, false}
use mathlib.Core.List.{List, [], ◌∷◌, map}
use lib.Dec.{eqb}
use Rattle.layout.proofs.Tests.{both_left, both_right}
use Rattle.state.specs.declared.Held.{Held}
use Rattle.state.specs.Lists.{all, in_flight, entry_of, phase_fits}
use Rattle.state.specs.Moves.{move_of, good, bad, reported}
use Rattle.state.proofs.Bools.{both_intro}
use borrow.Author.Tests.{eqb-true}

-- a report is good or bad
pub data Event : ℕ → Type 0 where
  is_good : Event good
  is_bad : Event bad

module _ (event : ℕ) where
  entry_by : (h : Held) (b : Bool) → eqb h.phase in_flight ≡ b → entry_of (reported event h) ≡ entry_of h
  unfolding reported
  entry_by h true e = rw e
  entry_by h false e = rw e

  pub report_entry : (h : Held) → entry_of (reported event h) ≡ entry_of h
  report_entry h = entry_by h (eqb h.phase in_flight) refl

  pub report_entries : (hs : List Held) → map entry_of (map (reported event) hs) ≡ map entry_of hs
  report_entries [] = refl
  report_entries (h ∷ hs) = rw (report_entry h, report_entries hs)

fit_moved : (event : ℕ) → Event event → (h : Held) → phase_fits (record { entry = h.entry; phase = move_of in_flight event }) ≡ true
unfolding move_of
fit_moved event is_good h = refl
fit_moved event is_bad h = refl

fit_by : (event : ℕ) → Event event → (h : Held) (b : Bool) → eqb h.phase in_flight ≡ b → phase_fits h ≡ true → phase_fits (reported event h) ≡ true
unfolding reported
fit_by event v h true e f = rw (e, eqb-true h.phase in_flight e) (fit_moved event v h)
fit_by event v h false e f = rw e f

pub report_fits : (event : ℕ) → Event event → (hs : List Held) → all phase_fits hs ≡ true → all phase_fits (map (reported event) hs) ≡ true
report_fits event v [] f = refl
report_fits event v (h ∷ hs) f =
    both_intro _ _ (fit_by event v h (eqb h.phase in_flight) refl (both_left _ _ f)) (report_fits event v hs (both_right (phase_fits h) _ f))
