-- The loop that collects the entries: those passed stand in the array, and what is left of the walk is still to come.
use Rattle.std.specs.Prelude.{None, Some, Option, Ok, Err}
use Prim.Native.Nat.{ℕ, ◌+◌, ◌-◌, ◌≤◌, ◌<◌}
use mathlib.Core.Path.{◌≡◌, refl, sym, ap, ◌∙◌}
use mathlib.Core.List.{List, [], ◌∷◌, ◌++◌, append-nil}
use native.Mathlib.Omega.{arith}
use lib.ListN.{length, length-append}
use Rattle.layout.specs.Sizes.{slots_of, most_entries}
use Rattle.layout.specs.Rack.{rack_of}
use Rattle.layout.specs.declared.Ring.{Ring}
use Rattle.layout.proofs.Sizes.{slots_some}
use Rattle.reason.specs.declared.Reason.TheVariants.{Unreadable}
use Rattle.walk.specs.declared.Entry.{Entry}
use Rattle.walk.specs.declared.Walked.{Walked}
use Rattle.walk.specs.Entry.{entry_at}
use Rattle.walk.specs.Walk.{step_at, more, walk, reads, start, no_entry, answer_of}
use Rattle.walk.proofs.Rules.{step_sound}
use Rattle.walk.proofs.Walks.{walk_end, walk_step, cursor}

-- entries in front of what a walk finds
abbrev after : List Entry → Option (List Entry) → Option (List Entry)
after [] w = w
after (e ∷ es) w = more e (after es w)

after_snoc : (es : List Entry) (e : Entry) (w : Option (List Entry)) → after (es ++ e ∷ []) w ≡ after es (more e w)
after_snoc [] e w = refl
after_snoc (x ∷ es) e w = ap (more x) (after_snoc es e w)

after_some : (es ks : List Entry) → after es (Some ks) ≡ Some (es ++ ks)
after_some [] ks = refl
after_some (x ∷ es) ks = ap (more x) (after_some es ks)

after_none : (es : List Entry) → after es None ≡ None
after_none [] = refl
after_none (x ∷ es) = ap (more x) (after_none es)

pub record Collecting (f : ℕ → ℕ) (g : Ring) (es : List Entry) (place left last : ℕ) : Type 0 where
  pub room : length es + left ≤ g.used
  pub where_to : place + left ≡ g.head + g.used
  pub rest : walk f g.n (start g) ≡ after es (walk f g.n (cursor place left last))

module _ (f : ℕ → ℕ) (g : Ring) where
  pub collect_start : (es : List Entry) → es ≡ [] → Collecting f g es g.head g.used 0
  collect_start es e = rw e (record { room = omega arith; where_to = refl; rest = refl })

  module _ (es : List Entry) (place left last : ℕ) (o : Collecting f g es place left last) where
    found_all : left ≤ 0 → walk f g.n (start g) ≡ Some es
    found_all l =
        o.rest ∙ ap (after es) (walk_end f g.n (cursor place left last) (omega arith)) ∙ after_some es [] ∙ ap Some (append-nil es)

    pub collect_end : left ≤ 0 → (w : Walked) → w.ring ≡ g → w.entries ≡ rack_of no_entry es → Ok w ≡ answer_of (reads g (walk f g.n (start g)))
    collect_end l w a b = rw (found_all l, ← a, ← b)

    pub collect_none : 0 < left → step_at f g.n (cursor place left last) ≡ None → Err Unreadable ≡ answer_of (reads g (walk f g.n (start g)))
    collect_none l q =
        let w : walk f g.n (start g) ≡ None =
        o.rest ∙ ap (after es) (walk_step f g.n (cursor place left last) l ∙ rw q) ∙ after_none es in
        rw w

    module _ (l : 0 < left) (e : Entry) (q : step_at f g.n (cursor place left last) ≡ Some e) where
      -- an entry found ends at the tail or before it
      pub collect_fits : slots_of e.length ≤ left
      collect_fits =
          let w = step_sound f (cursor place left last) (entry_at f g.n place) e q in
          rw (ap (λ (x : Entry). slots_of x.length) w.0) at w.1.fits

      pub collect_room : g.used ≤ most_entries → length es < most_entries
      collect_room m = omega (arith, o.room, l)

      pub collect_step : (es' : List Entry) → es' ≡ es ++ e ∷ [] → Collecting f g es' (place + slots_of e.length) (left - slots_of e.length) e.number
      collect_step es' a =
          let h = collect_fits in
          rw a
          (record {
            room = rw length-append (omega (arith, o.room, slots_some e.length));
            where_to = omega (arith, o.where_to);
            rest =
                o.rest
                ∙ ap (after es) (walk_step f g.n (cursor place left last) l ∙ rw q)
                ∙ sym (after_snoc es e (walk f g.n (cursor (place + slots_of e.length) (left - slots_of e.length) e.number)));
          })
