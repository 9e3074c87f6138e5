-- From the code's tests, batch and sheet to the outcome of a flush start.
use Rattle.std.specs.Prelude.{Option, None, Some}
use Prim.Native.Nat.{ℕ, ◌+◌, ◌≤◌, ◌<◌}
use mathlib.Core.Path.{◌≡◌, refl, sym, ap, ◌∙◌}
use mathlib.Core.Bool.{Bool, true, false}
use mathlib.Core.List.{List, [], ◌∷◌, map}
use native.Mathlib.Omega.{arith}
use borrow.Author.Tests.{eq-eqb, ne_eqb, lt-ltb, le-ltb}
use lib.ListN.{length, get_or, length-map, length-take}
use lib.Dec.{eqb, ltb}
use Rattle.reason.specs.declared.Reason.TheVariants.{NodeZero, NoNumber, FlushUnderWay, BadBuffer}
use Rattle.layout.specs.Sizes.{number_limit, most_entries}
use Rattle.layout.specs.Bytes.{both, round}
use Rattle.layout.specs.Rack.{items}
use Rattle.layout.proofs.Tests.{never}
use Rattle.walk.specs.declared.Entry.{Entry}
use Rattle.walk.specs.Walk.{readable, no_entry, write_of}
use Rattle.walk.proofs.Chain.{InRing}
use Rattle.state.specs.declared.State.{State}
use Rattle.state.specs.declared.Held.{Held}
use Rattle.state.specs.Lists.{pick, entry_of, with_next, with_flush, with_held, those}
use Rattle.state.specs.Batch.{most_batch, is_waiting, batch_of, taken_of}
use Rattle.state.proofs.Finding.{each_at, each_take, each_map}
use Rattle.state.proofs.Those.{each_those}
use Rattle.sheet.specs.Sheet.{sheet_of, laid_at}
use Rattle.sheet.specs.Places.{Laid, laid_if, made_from}
use Rattle.judge.specs.declared.Judged.{Judged}
use Rattle.rules.specs.Call.{start_flush}
use Rattle.rules.specs.Flush.{has_batch, sheet_for}
use Rattle.rules.specs.Refusals.{own}
use Rattle.rules.specs.Outcome.{lent_by, says, refuses, outcome}
use Rattle.rules.specs.Known.{Known}
use Rattle.rules.proofs.Judging.{Judges, judge_passes}
use Rattle.rules.proofs.Owning.{or, own_start, sure}
use Rattle.rules.proofs.Taking.{taken_entries}

pub judges_start : (node : ℕ) (b : List ℕ) → Judges (start_flush node b)
judges_start node b = record { reads = refl; fits = refl }

-- ---- the batch's entries

module _ (r : List ℕ) (s : State) (j : Judged) (k : Known r s j) (node : ℕ) where
  abbrev hs : List Held
  hs = items j.held

  module _ (es : List Entry) (e : es ≡ map entry_of (batch_of node hs)) where
    batch_counted : length es ≡ length (batch_of node hs)
    batch_counted = ap length e ∙ length-map (batch_of node hs) entry_of

    few : length es ≤ most_batch
    unfolding batch_of
    few = let c = batch_counted in let f = length-take most_batch (those (is_waiting node) hs) in omega arith

    -- the sheet that the code makes is the one on paper
    pub sheet_is : sheet_of node (map (write_of (round r j.ring.n)) es) ≡ sheet_for node r j.ring hs
    sheet_is = ap (λ es. sheet_of node (map (write_of (round r j.ring.n)) es)) e

    one : (i : ℕ) → i < length es → InRing j.ring.n (get_or es i no_entry)
    unfolding batch_of
    one i h =
        let o = each_map (InRing j.ring.n) entry_of (batch_of node hs) (each_take _ most_batch (those (is_waiting node) hs) (each_those _ (is_waiting node) hs (sure r s j k).inside)) in
        each_at (InRing j.ring.n) no_entry es i (rw e o) h

    pub batch_laid : Laid j.ring.n es
    batch_laid =
        record {
          batch = record { few = few; some = λ i h. (one i h).valid.bytes; most = λ i h. (one i h).valid.most; ends = λ i h. (one i h).valid.end };
          inside = λ i h. (one i h).slot;
        }

  -- the held writes with the batch taken
  module _ (hs' : List Held) (e : hs' ≡ taken_of node hs) where
    taken_long : length hs' ≡ length hs
    taken_long = ap length e ∙ sym (length-map (taken_of node hs) entry_of) ∙ ap length (taken_entries node most_batch hs) ∙ length-map hs entry_of

    pub taken_few : length hs' ≤ most_entries
    taken_few = let l = taken_long in let f = (sure r s j k).few in omega arith

  -- ---- the outcome, test by test

  module _ (b : List ℕ) where
    abbrev sheet : List ℕ
    sheet = sheet_for node r j.ring hs

    start_own : own (start_flush node b) r (readable j.ring k.entries) s
        ≡ or (eqb node 0) NodeZero
        (or (ltb 0 s.flush) FlushUnderWay
        (or (both (has_batch node hs) (eqb s.next number_limit)) NoNumber
        (or (both (has_batch node hs) (ltb (length b) (length (sheet_for node r j.ring hs)))) BadBuffer None)))
    start_own = rw k.held (own_start r (readable j.ring k.entries) s node b)

    pub start_zero : node ≡ 0 → lent_by (refuses NodeZero) s r b ≡ outcome (start_flush node b) r s
    start_zero e = sym (judge_passes (start_flush node b) (judges_start node b) r s j k ∙ rw (start_own, eq-eqb node 0 e))

    module _ (n : node ≡ 0 → ⊥) where
      pub start_under : 0 < s.flush → lent_by (refuses FlushUnderWay) s r b ≡ outcome (start_flush node b) r s
      start_under h = sym (judge_passes (start_flush node b) (judges_start node b) r s j k ∙ rw (start_own, ne_eqb node 0 n, lt-ltb 0 s.flush h))

      module _ (f : s.flush ≤ 0) (es : List Entry) (e : es ≡ map entry_of (batch_of node hs)) where
        pub start_nothing : length es ≡ 0 → lent_by (says []) s r b ≡ outcome (start_flush node b) r s
        unfolding both
        start_nothing z =
            let h : has_batch node hs ≡ false = le-ltb 0 (length (batch_of node hs)) (let c = batch_counted es e in omega arith) in
            sym (judge_passes (start_flush node b) (judges_start node b) r s j k ∙ rw (start_own, ne_eqb node 0 n, le-ltb 0 s.flush f, h))

        module _ (z : length es ≡ 0 → ⊥) where
          some_wait : has_batch node hs ≡ true
          some_wait = lt-ltb 0 (length (batch_of node hs)) (let c = batch_counted es e in omega (arith, z))

          pub start_number : s.next ≡ number_limit → lent_by (refuses NoNumber) s r b ≡ outcome (start_flush node b) r s
          unfolding both
          start_number l =
              sym (judge_passes (start_flush node b) (judges_start node b) r s j k
              ∙ rw (start_own, ne_eqb node 0 n, le-ltb 0 s.flush f, some_wait, eq-eqb s.next number_limit l))

          module _ (l : s.next ≡ number_limit → ⊥) (y : Option ℕ) (b' : List ℕ)
              (ym : y ≡ made_from (length b) (sheet_of node (map (write_of (round r j.ring.n)) es)))
              (yb : b' ≡ laid_if b (sheet_of node (map (write_of (round r j.ring.n)) es))) where
            made_by : (t : Bool) → ltb (length b) (length (sheet_for node r j.ring hs)) ≡ t → y ≡ pick t None (Some (length (sheet_for node r j.ring hs)))
            made_by t u = ym ∙ ap (made_from (length b)) (sheet_is es e) ∙ ap (λ v. pick v None (Some (length (sheet_for node r j.ring hs)))) u

            laid_by : (t : Bool) → ltb (length b) (length (sheet_for node r j.ring hs)) ≡ t → b' ≡ pick t b (laid_at b 0 (sheet_for node r j.ring hs))
            laid_by t u = yb ∙ ap (laid_if b) (sheet_is es e) ∙ ap (λ v. pick v b (laid_at b 0 (sheet_for node r j.ring hs))) u

            short_by : (t : Bool) → ltb (length b) (length (sheet_for node r j.ring hs)) ≡ t → y ≡ None → t ≡ true
            short_by true u v = refl
            short_by false u v = never (let w : y ≡ Some (length (sheet_for node r j.ring hs)) = made_by false u in cc)

            whole_by : (t : Bool) (m : ℕ) → ltb (length b) (length (sheet_for node r j.ring hs)) ≡ t → y ≡ Some m → (t ≡ false) × (m ≡ length (sheet_for node r j.ring hs))
            whole_by true m u v = never (let w : y ≡ None = made_by true u in cc)
            whole_by false m u v = (refl, (let w : y ≡ Some (length (sheet_for node r j.ring hs)) = made_by false u in cc))

            pub start_short : y ≡ None → lent_by (refuses BadBuffer) s r b' ≡ outcome (start_flush node b) r s
            unfolding both
            start_short v =
                let t = short_by (ltb (length b) (length (sheet_for node r j.ring hs))) refl v in
                sym (judge_passes (start_flush node b) (judges_start node b) r s j k
                ∙ rw (start_own, ne_eqb node 0 n, le-ltb 0 s.flush f, some_wait, ne_eqb s.next number_limit l, t, laid_by true t))

            pub start_done_law : (m : ℕ) (hs' : List Held) (t : State) → y ≡ Some m → hs' ≡ taken_of node hs
                → t ≡ with_next (with_flush (with_held s hs') s.next) (s.next + 1) → lent_by (says (s.next ∷ m ∷ [])) t r b' ≡ outcome (start_flush node b) r s
            unfolding both
            start_done_law m hs' t v w o =
                let u = whole_by (ltb (length b) (length (sheet_for node r j.ring hs))) m refl v in
                sym (judge_passes (start_flush node b) (judges_start node b) r s j k
                ∙ rw (start_own, ne_eqb node 0 n, le-ltb 0 s.flush f, some_wait, ne_eqb s.next number_limit l, u.0, u.1, o, w, laid_by false u.0))
