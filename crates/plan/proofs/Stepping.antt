-- A plan step by step: which step is the head byte's and which the entry's, and that steps which all find their ring are a run.
use Rattle.std.specs.Prelude.{Result}
use Rattle.reason.specs.declared.Reason.{Reason}
use Rattle.plan.specs.declared.Span.{Span}
use Prim.Native.Nat.{ℕ, zero, suc, ◌+◌, ◌-◌, ◌≤◌, ◌<◌}
use mathlib.Core.Path.{◌≡◌, refl, sym, ap, ◌∙◌}
use mathlib.Core.Bool.{Bool, true, false}
use mathlib.Core.Logic.{◌⊎◌, inl, inr}
use mathlib.Core.List.{List, [], ◌∷◌, ◌++◌}
use native.Mathlib.Omega.{arith}
use lib.ListN.{length, get_or, take, length-append}
use lib.Dec.{eqb}
use lib.Seq.{take-suc, take_all}
use borrow.Author.Tests.{lt-ltb, le-ltb}
use Rattle.layout.specs.Sizes.{slots_of}
use Rattle.layout.specs.Bytes.{both}
use Rattle.layout.proofs.Tests.{lt_or_le}
use Rattle.walk.specs.declared.Entry.{Entry}
use Rattle.walk.specs.Header.{header_of}
use Rattle.store.specs.Steps.{Step, run_step, run}
use Rattle.store.specs.Store.{pick_bytes}
use Rattle.store.specs.Storing.{store_steps, store_step, tail_step, head_step, unless_same}
use Rattle.store.proofs.Steps.{run_append, step_length, store_count}
use Rattle.store.proofs.Storing.{store_slot, store_tail}
use Rattle.plan.specs.declared.Plan.{Plan}
use Rattle.plan.specs.Plan.{plan_steps, unless_none, head_count, step_count, head_waits, store_waits, step_waits, plan_step, step_ring, span_of, pick_stepped, step_answer, stepped}

-- ---- how many steps there are

unless_count : (b : Bool) (xs : List Step) (k : ℕ) → length xs ≡ k → length (unless_same b xs) ≡ unless_none b k
unless_count true xs k e = refl
unless_count false xs k e = e

few : (b : Bool) → unless_none b 1 ≤ 1
few true = omega arith
few false = omega arith

pub head_few : (p : Plan) → head_count p ≤ 1
head_few p = few (eqb p.from p.head)

pub plan_count : (p : Plan) (bs : List ℕ) → length (plan_steps p bs) ≡ step_count p
unfolding plan_steps
plan_count p bs =
    let a = length-append (unless_same (eqb p.from p.head) (head_step p.head ∷ [])) (unless_same (eqb p.entry.number 0) (store_steps p.n p.entry bs)) in
    let b = unless_count (eqb p.from p.head) (head_step p.head ∷ []) 1 refl in
    let c = unless_count (eqb p.entry.number 0) (store_steps p.n p.entry bs) (slots_of p.entry.length + 1) (store_count p.n p.entry bs) in
    omega arith

-- ---- which step is which

head_first : (b : Bool) (x : Step) (ys : List Step) (i : ℕ) (d : Step) → i < unless_none b 1 → get_or (unless_same b (x ∷ []) ++ ys) i d ≡ x
head_first true x ys i d h = absurd (let w : ⊥ = omega arith in w)
head_first false x ys zero d h = refl
head_first false x ys (suc i) d h = absurd (let w : ⊥ = omega arith in w)

then_entry : (a b : Bool) (x : Step) (ys : List Step) (m i : ℕ) (d : Step) → unless_none a 1 ≤ i → i < unless_none a 1 + unless_none b m
    → get_or (unless_same a (x ∷ []) ++ unless_same b ys) i d ≡ get_or ys (i - unless_none a 1) d
then_entry a true x ys m i d h l = absurd (let w : ⊥ = omega arith in w)
then_entry true false x ys m i d h l = ap (λ k. get_or ys k d) (let e : i ≡ i - 0 = omega arith in e)
then_entry false false x ys m zero d h l = absurd (let w : ⊥ = omega arith in w)
then_entry false false x ys m (suc i) d h l = ap (λ k. get_or ys k d) (let e : i ≡ suc i - 1 = omega arith in e)

entry_steps : (b : Bool) (m i c : ℕ) → c ≤ i → i < c + unless_none b m → i - c < m
entry_steps true m i c h l = absurd (let w : ⊥ = omega arith in w)
entry_steps false m i c h l = omega arith

module _ (p : Plan) (bs : List ℕ) (i : ℕ) where
  -- the head byte's
  module _ (h : i < head_count p) where
    pub head_step_law : plan_step p bs i ≡ head_step p.head
    unfolding plan_steps
    head_step_law = head_first (eqb p.from p.head) (head_step p.head) _ i (tail_step 0) h

    pub head_step_waits : (r : List ℕ) → step_waits p r bs i ≡ head_waits p (header_of r)
    unfolding step_waits
    head_step_waits r = rw (lt-ltb _ _ h)

  module _ (h : head_count p ≤ i) where
    -- there is none
    pub no_step_waits : step_count p ≤ i → (r : List ℕ) → step_waits p r bs i ≡ false
    unfolding step_waits both
    no_step_waits l r = rw (le-ltb _ _ h, le-ltb _ _ l)

    -- the entry's
    module _ (l : i < step_count p) where
      pub entry_step : plan_step p bs i ≡ store_step p.n p.entry bs (i - head_count p)
      unfolding plan_steps
      entry_step = then_entry (eqb p.from p.head) (eqb p.entry.number 0) (head_step p.head) (store_steps p.n p.entry bs) (slots_of p.entry.length + 1) i (tail_step 0) h l

      pub entry_step_waits : (r : List ℕ) → step_waits p r bs i ≡ store_waits p (length bs) (header_of r)
      unfolding step_waits both
      entry_step_waits r = rw (le-ltb _ _ h, lt-ltb _ _ l)

      pub entry_within : i - head_count p ≤ slots_of p.entry.length
      entry_within = let w = entry_steps (eqb p.entry.number 0) (slots_of p.entry.length + 1) i (head_count p) h l in omega arith

-- the bytes stored by a step of an entry don't depend on what they hold
pub span_same : (n : ℕ) (e : Entry) (bs : List ℕ) (j : ℕ) → j ≤ slots_of e.length → span_of (store_step n e [] j) ≡ span_of (store_step n e bs j)
span_same n e bs j h = at (lt_or_le j (slots_of e.length))
  where
    at : (j < slots_of e.length) ⊎ (slots_of e.length ≤ j) → span_of (store_step n e [] j) ≡ span_of (store_step n e bs j)
    at (inl l) = ap span_of (store_slot n e [] j l) ∙ sym (ap span_of (store_slot n e bs j l))
    at (inr l) = ap span_of (store_tail n e [] j (omega arith) ∙ sym (store_tail n e bs j (omega arith)))

-- ---- what one step leaves and answers, by whether its ring waits

module _ (p : Plan) (bs : List ℕ) (i : ℕ) (r : List ℕ) (b : Bool) (x : Step) (e : step_waits p r bs i ≡ b) (same : plan_step p bs i ≡ x) where
  pub ring_by_law : pick_bytes b (run_step r x) r ≡ step_ring p bs i r
  unfolding step_ring
  ring_by_law = sym (rw (e, same))

  pub answer_by : pick_stepped b (span_of x) ≡ step_answer p bs i r
  unfolding step_answer
  answer_by = sym (rw (e, same))

-- what the code does in a step of the entry's, by the count of head steps that it found
module _ (p : Plan) (bs : List ℕ) (i : ℕ) (r : List ℕ) (h : head_count p ≤ i) (l : i < step_count p) (heads : ℕ) (e : heads ≡ head_count p) (said : Result Span Reason) (out : List ℕ) where
  pub entry_made : said ≡ pick_stepped (store_waits p (length bs) (header_of r)) (span_of (store_step p.n p.entry [] (i - heads)))
      → out ≡ pick_bytes (store_waits p (length bs) (header_of r)) (run_step r (store_step p.n p.entry bs (i - heads))) r → (said ≡ step_answer p bs i r) × (out ≡ step_ring p bs i r)
  entry_made es eo =
      let w = entry_step_waits p bs i h l r in
      let s = entry_step p bs i h l ∙ ap (λ k. store_step p.n p.entry bs (i - k)) (sym e) in
      let d = entry_within p bs i h l in
      (es ∙ ap (pick_stepped (store_waits p (length bs) (header_of r))) (span_same p.n p.entry bs (i - heads) (omega arith)) ∙ answer_by p bs i r _ _ w s, eo ∙ ring_by_law p bs i r _ _ w s)

pub pick_length : (b : Bool) (r : List ℕ) (x : Step) → length (pick_bytes b (run_step r x) r) ≡ length r
pick_length true r x = step_length r x
pick_length false r x = refl

pub ring_length : (p : Plan) (bs : List ℕ) (i : ℕ) (r : List ℕ) → length (step_ring p bs i r) ≡ length r
unfolding step_ring
ring_length p bs i r = pick_length (step_waits p r bs i) r (plan_step p bs i)

-- ---- the loop over steps: the first i are made

pub record Going (p : Plan) (bs r₀ r : List ℕ) (i : ℕ) : Type 0 where
  pub same : length r ≡ length r₀
  pub is : r ≡ stepped p bs i r₀

module _ (p : Plan) (bs r₀ : List ℕ) where
  pub go_start : Going p bs r₀ r₀ 0
  unfolding stepped
  go_start = record { same = refl; is = refl }

  pub go_next : (r : List ℕ) (i : ℕ) → Going p bs r₀ r i → (r' : List ℕ) → r' ≡ step_ring p bs i r → Going p bs r₀ r' (i + 1)
  unfolding stepped
  go_next r i o r' e =
      record {
        same = ap length e ∙ ring_length p bs i r ∙ o.same;
        is = e ∙ ap (step_ring p bs i) o.is ∙ ap (λ k. stepped p bs k r₀) (let w : suc i ≡ i + 1 = omega arith in w);
      }

pub as_many : (p : Plan) (bs r : List ℕ) (i k : ℕ) → i ≡ k → stepped p bs i r ≡ stepped p bs k r
as_many p bs r i k e = ap (λ j. stepped p bs j r) e

-- ---- steps that all find their ring are a run of the plan's steps

module _ (p : Plan) (bs r : List ℕ) (waits : (k : ℕ) → k < step_count p → step_waits p (run r (take k (plan_steps p bs))) bs k ≡ true) where
  one_more : (k : ℕ) → k < step_count p → run_step (run r (take k (plan_steps p bs))) (plan_step p bs k) ≡ run r (take (suc k) (plan_steps p bs))
  unfolding run
  one_more k l =
      let c = plan_count p bs in
      sym (ap (run r) (take-suc (plan_steps p bs) k (tail_step 0) (omega arith)) ∙ run_append (take k (plan_steps p bs)) (plan_step p bs k ∷ []) r)

  pub stepped_runs : (k : ℕ) → k ≤ step_count p → stepped p bs k r ≡ run r (take k (plan_steps p bs))
  unfolding stepped step_ring run
  stepped_runs zero l = refl
  stepped_runs (suc k) l =
      let i = stepped_runs k (omega arith) in
      rw (i, waits k (omega arith)) (one_more k (omega arith))

  pub stepped_all : stepped p bs (step_count p) r ≡ run r (plan_steps p bs)
  stepped_all = stepped_runs (step_count p) (omega arith) ∙ ap (run r) (take_all (step_count p) (plan_steps p bs) (let c = plan_count p bs in omega arith))
