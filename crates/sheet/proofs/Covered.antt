-- The key, the end and the pieces of a batch of writes: which places are covered, and that all of them lie within the file.
use Rattle.std.specs.Prelude.{Option, None, Some}
use Prim.Native.Nat.{ℕ, zero, suc, ◌+◌, ◌≤◌, ◌<◌}
use native.Mathlib.Omega.{arith}
use mathlib.Core.Path.{◌≡◌, refl, ap, ◌∙◌}
use mathlib.Core.Bool.{Bool, true, false}
use mathlib.Core.Logic.{◌⊎◌, inl, inr}
use mathlib.Core.List.{List, [], ◌∷◌}
use borrow.Author.Tests.{leb-true}
use lib.ListN.{length}
use lib.Dec.{leb}
use Rattle.layout.proofs.Tests.{never, both_left, both_right, lt_or_le}
use Rattle.walk.specs.Walk.{Write}
use Rattle.state.specs.Lists.{pick, any, all}
use Rattle.state.proofs.Extremes.{larger_max}
use Rattle.shore.specs.Cover.{covers, newest}
use Rattle.shore.proofs.Covering.{spans_after, is_some, last_some}
use Rattle.sheet.specs.declared.Piece.{Piece}
use Rattle.sheet.specs.Sheet.{piece, key_in, key_of, end_of, goes_on, join, gather}
use Rattle.sheet.specs.Places.{is_short, grow, total}

-- ---- the key: 1 exactly where some write covers the place, else 0

key_in_law : (o : Option Write) → key_in o ≡ pick (is_some o) 1 0
key_in_law None = refl
key_in_law (Some w) = refl

pub key_is : (ws : List Write) (p : ℕ) → key_of ws p ≡ pick (any (covers p) ws) 1 0
unfolding key_of
key_is ws p = key_in_law (newest p ws) ∙ ap (λ (b : Bool). pick b 1 0) (last_some (covers p) ws)

pub covered_key : (ws : List Write) (p : ℕ) → any (covers p) ws ≡ true → key_of ws p ≡ 1
covered_key ws p e = key_is ws p ∙ ap (λ (b : Bool). pick b 1 0) e

pub bare_key : (ws : List Write) (p : ℕ) → any (covers p) ws ≡ false → key_of ws p ≡ 0
bare_key ws p e = key_is ws p ∙ ap (λ (b : Bool). pick b 1 0) e

-- ---- the end

pub behind_bare : (ws : List Write) (p : ℕ) → end_of ws ≤ p → any (covers p) ws ≡ false
behind_bare [] p h = refl
behind_bare (w ∷ ws) p h =
    let e = w.offset + length w.bytes in
    let l = larger_max e (end_of ws) in
    rw (spans_after w.offset (length w.bytes) p (omega arith)) (behind_bare ws p (omega arith))

pub behind_key : (ws : List Write) (p : ℕ) → end_of ws ≤ p → key_of ws p ≡ 0
behind_key ws p h = bare_key ws p (behind_bare ws p h)

pub covered_below : (ws : List Write) (p : ℕ) → any (covers p) ws ≡ true → p < end_of ws
covered_below ws p e = at (lt_or_le p (end_of ws))
  where
    at : (p < end_of ws) ⊎ (end_of ws ≤ p) → p < end_of ws
    at (inl h) = h
    at (inr h) = never (let z : any (covers p) ws ≡ false = behind_bare ws p h in cc)

-- a write ends at a place or before it
abbrev pub ends_by : ℕ → Write → Bool
ends_by n w = leb (w.offset + length w.bytes) n

pub end_within : (n : ℕ) (ws : List Write) → all (ends_by n) ws ≡ true → end_of ws ≤ n
end_within n [] e = omega arith
end_within n (w ∷ ws) e =
    let l = larger_max (w.offset + length w.bytes) (end_of ws) in
    let h : w.offset + length w.bytes ≤ n = leb-true _ _ (both_left _ _ e) in
    let k = end_within n ws (both_right (ends_by n w) _ e) in
    omega arith

-- ---- no more pieces, and no more bytes in them, than places

abbrev Few : ℕ → List Piece → Type 0
Few e qs = (length qs ≤ e) × (total qs ≤ e)

few_join : (k p : ℕ) (qs : List Piece) → Few p qs → Few (suc p) (join is_short k p qs)
few_join zero p qs h = (omega (arith, h.0), omega (arith, h.1))
few_join (suc k) p [] h = (omega arith, omega arith)
few_join (suc k) p (q ∷ qs) h = at (goes_on is_short q p (suc k))
  where
    at : (b : Bool) → Few (suc p) (pick b (piece q.start (q.size + 1) q.key ∷ qs) (piece p 1 (suc k) ∷ q ∷ qs))
    at true = (omega (arith, h.0), omega (arith, h.1))
    at false = (omega (arith, h.0), omega (arith, h.1))

few : (key : ℕ → ℕ) (e : ℕ) → Few e (grow key e)
unfolding gather
few key zero = (omega arith, omega arith)
few key (suc p) = few_join (key p) p (grow key p) (few key p)

pub grow_few : (key : ℕ → ℕ) (e : ℕ) → length (grow key e) ≤ e
grow_few key e = (few key e).0

pub grow_total : (key : ℕ → ℕ) (e : ℕ) → total (grow key e) ≤ e
grow_total key e = (few key e).1
