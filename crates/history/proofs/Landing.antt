-- A byte of the sheet that is out lands: the world and the tale still agree.
use Rattle.std.specs.Prelude.{Option, None, Some}
use Prim.Native.Nat.{ℕ, zero, suc}
use mathlib.Core.Path.{◌≡◌, refl, sym, ap, ◌∙◌, subst}
use mathlib.Core.Bool.{Bool, true, false}
use mathlib.Core.List.{List, [], ◌∷◌, ◌++◌, append-nil}
use native.Mathlib.Omega.{arith}
use borrow.Author.Tests.{eqb-true, eq-eqb}
use lib.ListN.{get_or}
use lib.Dec.{eqb}
use Rattle.layout.proofs.Tests.{never}
use Rattle.state.specs.Lists.{pick}
use Rattle.state.proofs.Finding.{Each}
use Rattle.state.proofs.Pairs.{any_append}
use Rattle.shore.specs.File.{Put, put, puts_all}
use Rattle.shore.proofs.Files.{touches, put_length, put_get}
use Rattle.shore.proofs.Covering.{touch_all}
use Rattle.sheet.specs.Sheet.{byte_of, sheet_of, node_in, puts_in}
use Rattle.sheet.proofs.Laying.{sheet_touches, sheet_bytes, sheet_node}
use Rattle.history.specs.World.{World, nth, put_on, landed}
use Rattle.history.specs.Tale.{Tale, among, hear}
use Rattle.history.proofs.Shores.{OnShore, shore_lands, waiting, puts_append}
use Rattle.history.proofs.Agreeing.{Agrees, Stood, SheetOut, OutFits}

-- ---- a put of a list

nth_touches : (k : ℕ) (qs : List Put) (q : Put) → nth k qs ≡ Some q → touches q.place qs ≡ true
nth_touches k [] q e = never (cc)
nth_touches zero (x ∷ qs) q e = let w : x ≡ q = cc in rw w (ap (λ b. pick b true (touches q.place qs)) (eq-eqb q.place q.place refl))
nth_touches (suc k) (x ∷ qs) q e = at (eqb x.place q.place) (nth_touches k qs q e)
  where
    at : (b : Bool) → touches q.place qs ≡ true → pick b true (touches q.place qs) ≡ true
    at true z = refl
    at false z = z

nth_each : (P : Put → Type 0) (k : ℕ) (qs : List Put) (q : Put) → Each P qs → nth k qs ≡ Some q → P q
nth_each P k [] q o e = never (cc)
nth_each P zero (x ∷ qs) q o e = let w : x ≡ q = cc in subst P w o.0
nth_each P (suc k) (x ∷ qs) q o e = nth_each P k qs q o.1 e

module _ (sheet : List ℕ) (shore : ℕ → List ℕ) (t : Tale) (o : SheetOut sheet shore t) where
  whole : sheet ≡ sheet_of o.node t.batch ++ []
  whole = o.is ∙ sym (append-nil (sheet_of o.node t.batch))

  pub out_node : node_in sheet ≡ o.node
  out_node = ap node_in whole ∙ sheet_node t.batch o.ends o.node [] o.named

  pub out_touches : (k : ℕ) (q : Put) → nth k (puts_in sheet) ≡ Some q → touches q.place (puts_all (waiting t.good o.node t.held)) ≡ true
  out_touches k q e =
      let a : touches q.place (puts_in (sheet_of o.node t.batch ++ [])) ≡ true = nth_touches k (puts_in (sheet_of o.node t.batch ++ [])) q (ap (λ x. nth k (puts_in x)) (sym whole) ∙ e) in
      let b : touches q.place (puts_all t.batch) ≡ true = touch_all t.batch q.place ∙ sym (sheet_touches t.batch o.ends o.node [] q.place) ∙ a in
      ap (λ ws. touches q.place (puts_all ws)) o.front ∙ ap (touches q.place) (puts_append t.batch o.rest)
      ∙ any_append (λ x. eqb x.place q.place) (puts_all t.batch) (puts_all o.rest) ∙ ap (λ x. pick x true (touches q.place (puts_all o.rest))) b

  out_bytes : (k : ℕ) (q : Put) → nth k (puts_in sheet) ≡ Some q → q.byte ≡ byte_of t.batch q.place
  out_bytes k q e =
      nth_each (λ x. x.byte ≡ byte_of t.batch x.place) k (puts_in (sheet_of o.node t.batch ++ [])) q (sheet_bytes t.batch o.ends o.node [])
      (ap (λ x. nth k (puts_in x)) (sym whole) ∙ e)

  -- what stood stands, and what landed stands
  stands_still : (f : List ℕ) (q x : Put) → q.byte ≡ byte_of t.batch q.place → x.byte ≡ byte_of t.batch x.place → Stood f x → Stood (put f q.place q.byte) x
  stands_still f q x a b s =
      let h = s.inside in
      record {
        byte = put_get f q.place q.byte x.place ∙ at (eqb q.place x.place) refl;
        inside = let l = put_length f q.place q.byte in omega arith;
      }
    where
      at : (z : Bool) → eqb q.place x.place ≡ z → pick z q.byte (get_or f x.place 0) ≡ x.byte
      at true e = a ∙ ap (byte_of t.batch) (eqb-true q.place x.place e) ∙ sym b
      at false e = s.byte

  stands_now : (f : List ℕ) (q : Put) → Stood (put f q.place q.byte) q
  stands_now f q = record {
    byte = put_get f q.place q.byte q.place ∙ ap (λ z. pick z q.byte (get_or f q.place 0)) (eq-eqb q.place q.place refl);
    inside = let l = put_length f q.place q.byte in omega arith;
  }

  put_on_law : (q : Put) → put_on shore (node_in sheet) (Some q) o.node ≡ put (shore o.node) q.place q.byte
  put_on_law q = ap (λ b. pick b (put (shore o.node) q.place q.byte) (shore o.node)) (eq-eqb (node_in sheet) o.node out_node)

  -- what is told of the sheet but what has landed of it
  heard : (shore' : ℕ → List ℕ) (k : ℕ) → ((j : ℕ) → among j (k ∷ t.landed) ≡ true → (x : Put) → nth j (puts_in sheet) ≡ Some x → Stood (shore' o.node) x) → SheetOut sheet shore' (hear t k)
  heard shore' k h =
      record { node = o.node; named = o.named; is = o.is; ends = o.ends; rest = o.rest; front = o.front; apart = o.apart; own = o.own; stood = h }

  pub out_lands : (k : ℕ) (q : Put) → nth k (puts_in sheet) ≡ Some q → SheetOut sheet (put_on shore (node_in sheet) (Some q)) (hear t k)
  out_lands k q e = heard (put_on shore (node_in sheet) (Some q)) k (λ j z x y. subst (λ f. Stood f x) (sym (put_on_law q)) (at j (eqb k j) refl z x y))
    where
      at : (j : ℕ) (b : Bool) → eqb k j ≡ b → pick b true (among j t.landed) ≡ true → (x : Put) → nth j (puts_in sheet) ≡ Some x → Stood (put (shore o.node) q.place q.byte) x
      at j true u z x y =
          let w : q ≡ x = same (sym e ∙ ap (λ i. nth i (puts_in sheet)) (eqb-true k j u) ∙ y) in
          subst (Stood (put (shore o.node) q.place q.byte)) w (stands_now (shore o.node) q)
        where
          same : ◌≡◌ {A = Option Put} (Some q) (Some x) → q ≡ x
          same h = cc
      at j false u z x y = stands_still (shore o.node) q x (out_bytes k q e) (out_bytes j x y) (o.stood j z x y)

  -- an index that is none changes nothing
  pub out_misses : (k : ℕ) → nth k (puts_in sheet) ≡ None → SheetOut sheet (put_on shore (node_in sheet) None) (hear t k)
  out_misses k e = heard (put_on shore (node_in sheet) None) k (λ j z x y. at j (eqb k j) refl z x y)
    where
      at : (j : ℕ) (b : Bool) → eqb k j ≡ b → pick b true (among j t.landed) ≡ true → (x : Put) → nth j (puts_in sheet) ≡ Some x → Stood (shore o.node) x
      at j true u z x y = never (let w : None ≡ Some x = sym e ∙ ap (λ i. nth i (puts_in sheet)) (eqb-true k j u) ∙ y in cc)
      at j false u z x y = o.stood j z x y

module _ (files : ℕ → List ℕ) (W : World) (t : Tale) (k : Agrees files W t) (j : ℕ) where
  on_shore_by : (sheet : List ℕ) (o : SheetOut sheet W.shore t) (x : Option Put) → nth j (puts_in sheet) ≡ x → OnShore files (put_on W.shore (node_in sheet) x) t.accepted t.held t.good
  on_shore_by sheet o None e = record { sends = k.on_shore.sends; has = k.on_shore.has }
  on_shore_by sheet o (Some q) e =
      rw (out_node sheet W.shore t o) (shore_lands files W.shore t.accepted t.held t.good k.on_shore o.node q (out_touches sheet W.shore t o j q e))

  sheet_by_law : (sheet : List ℕ) (o : SheetOut sheet W.shore t) (x : Option Put) → nth j (puts_in sheet) ≡ x → SheetOut sheet (put_on W.shore (node_in sheet) x) (hear t j)
  sheet_by_law sheet o None e = out_misses sheet W.shore t o j e
  sheet_by_law sheet o (Some q) e = out_lands sheet W.shore t o j q e

  on_shore : (out : Option (List ℕ)) → OutFits out W.shore t → OnShore files (landed W.shore out j) t.accepted t.held t.good
  on_shore None o = record { sends = k.on_shore.sends; has = k.on_shore.has }
  on_shore (Some sheet) o = on_shore_by sheet o (nth j (puts_in sheet)) refl

  fits : (out : Option (List ℕ)) → OutFits out W.shore t → OutFits out (landed W.shore out j) (hear t j)
  fits None o = o
  fits (Some sheet) o = sheet_by_law sheet o (nth j (puts_in sheet)) refl

  pub agrees_land : Agrees files (record { ring = W.ring; state = W.state; shore = landed W.shore W.out j; out = W.out }) (hear t j)
  agrees_land = record {
    stands = k.stands;
    written = k.written;
    told = k.told;
    pinned = k.pinned;
    below_good = k.below_good;
    below_batch = k.below_batch;
    on_shore = on_shore W.out k.out_fits;
    flying = k.flying;
    out_fits = fits W.out k.out_fits;
  }
