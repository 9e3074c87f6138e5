-- What a call that isn't refused changes, in the words of the tale: the ring's writes, and the state of each.
use Rattle.std.specs.Prelude.{Option, Some}
use Prim.Native.Nat.{ℕ, ◌<◌}
use mathlib.Core.Path.{◌≡◌, refl, sym, ap, ◌∙◌, subst}
use mathlib.Core.Bool.{false}
use mathlib.Core.List.{List, [], ◌∷◌, map}
use native.Mathlib.Omega.{arith}
use borrow.Author.Tests.{ne_eqb}
use Rattle.layout.specs.Bytes.{round}
use Rattle.layout.specs.declared.Ring.{Ring}
use Rattle.walk.specs.declared.Entry.{Entry}
use Rattle.walk.specs.Walk.{readable, reading_of, Write, write_of, writes_of}
use Rattle.ring.proofs.Laws.{readable_facts}
use Rattle.state.specs.declared.State.{State}
use Rattle.state.proofs.Finding.{Each}
use Rattle.judge.proofs.Rules.{IsFit}
use Rattle.rules.specs.Call.{entries_of}
use Rattle.rules.proofs.Standing.{Stands}
use Rattle.history.specs.Tale.{among}

-- ---- a good state, read in a way that is known

same_entries : (g h : Ring) (es ks : List Entry) → readable g es ≡ readable h ks → es ≡ ks
same_entries g h es ks e = ap entries_of e

pub fit_as : (r : List ℕ) (s : State) (g : Ring) (es : List Entry) → reading_of r ≡ readable g es → (k : Stands r s) → IsFit es s
fit_as r s g es q k = subst (λ xs. IsFit xs s) (same_entries k.ring g k.entries es (sym k.reading ∙ q)) k.fit

abbrev pub stands_as : (r : List ℕ) (s : State) (g : Ring) (es : List Entry) → reading_of r ≡ readable g es → Stands r s → Stands r s
stands_as r s g es q k = record { ring = g; entries = es; reading = q; fit = fit_as r s g es q k }

-- the writes that a ring holds, from what is known of its bytes
some_one : (xs ys : List Write) → ◌≡◌ {A = Option (List Write)} (Some xs) (Some ys) → xs ≡ ys
some_one xs ys e = cc

pub holds_as : (r : List ℕ) (g : Ring) (es : List Entry) (ws : List Write) → reading_of r ≡ readable g es → writes_of r ≡ Some ws → map (write_of (round r g.n)) es ≡ ws
holds_as r g es ws q e = some_one _ ws (sym (readable_facts r g es q).writes ∙ e)

-- a number that is given out next is none of those before
pub fresh : (n : ℕ) (ks : List ℕ) → Each (λ k. k < n) ks → among n ks ≡ false
fresh n [] o = refl
fresh n (k ∷ ks) o = rw (ne_eqb k n (λ e. let h = o.0 in omega arith)) (fresh n ks o.1)
