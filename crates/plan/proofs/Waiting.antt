-- Whether a ring is the one that a step waits for: a test holds where its facts do, and only there.
use Rattle.std.specs.Prelude.{None, Option, Some, Ok, Err}
use Prim.Native.Nat.{ℕ, ◌+◌, ◌≤◌, ◌<◌}
use mathlib.Core.Path.{◌≡◌, refl, sym, ap, ◌∙◌}
use mathlib.Core.Bool.{Bool, true, false}
use mathlib.Core.List.{List}
use native.Mathlib.Omega.{arith}
use native.Mathlib.Nat.{mod-lt}
use lib.ListN.{length}
use borrow.Author.Tests.{eq-eqb, le-leb, lt-ltb, eqb-true, leb-true, ltb-true}
use Rattle.reason.specs.declared.Reason.TheVariants.{StateUnfit}
use Rattle.layout.specs.Sizes.{largest, slots_of}
use Rattle.layout.specs.Bytes.{both, Sized}
use Rattle.layout.specs.declared.Ring.{Ring}
use Rattle.layout.proofs.Tests.{never, both_left, both_right, not_true_false}
use Rattle.walk.specs.Header.{header_of}
use Rattle.walk.proofs.Rules.{header_use}
use Rattle.store.specs.Store.{pick_bytes}
use Rattle.ring.specs.Ring.{tail_of}
use Rattle.plan.specs.declared.Plan.{Plan}
use Rattle.plan.specs.declared.Span.{Span}
use Rattle.plan.specs.Plan.{head_waits, store_waits, pick_stepped}

-- `head_waits`, as facts
pub record HeadReady (p : Plan) (g : Ring) : Type 0 where
  pub slots : g.n ≡ p.n
  pub from : g.head ≡ p.from
  pub below : p.head < p.n

-- `store_waits`, as facts
pub record StoreReady (p : Plan) (len : ℕ) (g : Ring) : Type 0 where
  pub slots : g.n ≡ p.n
  pub bytes : len ≡ p.entry.length
  pub most : p.entry.length ≤ largest
  pub tail : tail_of g ≡ p.entry.slot
  pub room : g.used + slots_of p.entry.length < g.n

module _ (p : Plan) (h : Option Ring) (g : Ring) (e : h ≡ Some g) where
  pub head_yes : HeadReady p g → head_waits p h ≡ true
  unfolding head_waits both
  head_yes o = rw (e, eq-eqb _ _ o.slots, eq-eqb _ _ o.from, lt-ltb _ _ o.below)

  pub head_sound : head_waits p h ≡ true → HeadReady p g
  unfolding head_waits
  head_sound t =
      let a = rw e at t in
      let b = both_right _ _ a in
      record { slots = eqb-true _ _ (both_left _ _ a); from = eqb-true _ _ (both_left _ _ b); below = ltb-true _ _ (both_right _ _ b) }

  pub head_no : (HeadReady p g → ⊥) → false ≡ head_waits p h
  head_no k = sym (not_true_false _ (λ t. k (head_sound t)))

  module _ (len : ℕ) where
    pub store_yes : StoreReady p len g → store_waits p len h ≡ true
    unfolding store_waits both
    store_yes o = rw (e, eq-eqb _ _ o.slots, eq-eqb _ _ o.bytes, le-leb _ _ o.most, eq-eqb _ _ o.tail, lt-ltb _ _ o.room)

    pub store_sound : store_waits p len h ≡ true → StoreReady p len g
    unfolding store_waits
    store_sound t =
        let a = rw e at t in
        let b = both_right _ _ a in
        let c = both_right _ _ b in
        let d = both_right _ _ c in
        record {
          slots = eqb-true _ _ (both_left _ _ a);
          bytes = eqb-true _ _ (both_left _ _ b);
          most = leb-true _ _ (both_left _ _ c);
          tail = eqb-true _ _ (both_left _ _ d);
          room = ltb-true _ _ (both_right _ _ d);
        }

    pub store_no : (StoreReady p len g → ⊥) → false ≡ store_waits p len h
    store_no k = sym (not_true_false _ (λ t. k (store_sound t)))

-- bytes without a header
pub head_bad : (p : Plan) (h : Option Ring) → h ≡ None → false ≡ head_waits p h
unfolding head_waits
head_bad p h e = sym (ap (head_waits p) e)

pub store_bad : (p : Plan) (len : ℕ) (h : Option Ring) → h ≡ None → false ≡ store_waits p len h
unfolding store_waits
store_bad p len h e = sym (ap (store_waits p len) e)

-- ---- what a step that finds its ring may count on

module _ (p : Plan) (r : List ℕ) where
  head_safe_by : (h : Option Ring) → header_of r ≡ h → head_waits p h ≡ true → (p.head < 256) × (2 < length r)
  head_safe_by None e t = never (let w : false ≡ true = head_bad p None refl ∙ t in cc)
  head_safe_by (Some g) e t =
      let o = head_sound p (Some g) g refl t in
      let z = (header_use r g e).sized in
      let n = o.slots in
      let b = o.below in
      let l = z.len in
      let m = z.high in
      let w = z.low in
      (omega arith, omega arith)

  pub head_safe : head_waits p (header_of r) ≡ true → (p.head < 256) × (2 < length r)
  head_safe t = head_safe_by (header_of r) refl t

  pub record Safe (len : ℕ) : Type 0 where
    pub sized : Sized r p.n
    pub slot : p.entry.slot < p.n
    pub bytes : p.entry.length ≡ len
    pub most : p.entry.length ≤ largest

  module _ (len : ℕ) where
    store_safe_by : (h : Option Ring) → header_of r ≡ h → store_waits p len h ≡ true → Safe len
    store_safe_by None e t = never (let w : false ≡ true = store_bad p len None refl ∙ t in cc)
    store_safe_by (Some g) e t =
        let o = store_sound p (Some g) g refl len t in
        let k = header_use r g e in
        let h = k.head in
        let s : p.entry.slot < g.n = rw (← o.tail) (mod-lt (g.head + g.used) (omega arith)) in
        record { sized = rw (← o.slots) k.sized; slot = rw (← o.slots) s; bytes = sym o.bytes; most = o.most }

    pub store_safe : store_waits p len (header_of r) ≡ true → Safe len
    store_safe t = store_safe_by (header_of r) refl t

-- ---- the one or the other

pub said_yes : (b : Bool) (s : Span) → b ≡ true → Ok s ≡ pick_stepped b s
said_yes b s e = sym (ap (λ x. pick_stepped x s) e)

pub said_no : (b : Bool) (s : Span) → b ≡ false → Err StateUnfit ≡ pick_stepped b s
said_no b s e = sym (ap (λ x. pick_stepped x s) e)

pub left_yes : (b : Bool) (r r' : List ℕ) → b ≡ true → r ≡ pick_bytes b r r'
left_yes b r r' e = sym (ap (λ x. pick_bytes x r r') e)

pub left_no : (b : Bool) (r r' : List ℕ) → b ≡ false → r' ≡ pick_bytes b r r'
left_no b r r' e = sym (ap (λ x. pick_bytes x r r') e)
