-- Racks: the items of a list's rack are that list, and a rack that is the rack of its items stays so.
use Prim.Native.Nat.{ℕ, suc, ◌+◌, ◌-◌, ◌<◌, min}
use mathlib.Core.Path.{◌≡◌, sym, ap, ◌∙◌}
use mathlib.Core.List.{List, [], ◌∷◌, ◌++◌, append_assoc}
use native.Mathlib.Omega.{arith}
use lib.ListN.{length, set, drop, replicate, length-append, length-replicate}
use Rattle.std.proofs.Math.Seq.{take-append_seam, drop-append_seam, set-append_seam}
use Rattle.layout.specs.Rack.{items, rack_of, IsTidy}
use Rattle.layout.specs.declared.rack.Rack.{Rack}

module _ {X : Type 0} (room : ℕ) (blank : X) where
  -- the items of a list's rack are the list
  pub items_of : (xs : List X) → items {room = room} (rack_of blank xs) ≡ xs
  unfolding items rack_of
  items_of xs = take-append_seam xs _

  tidy_of : (xs : List X) → IsTidy {room = room} blank (rack_of blank xs)
  tidy_of xs = ap (rack_of blank) (sym (items_of xs))

  -- blanks behind a list make a rack tidy
  tidy_by : (xs places : List X) (count : ℕ) → places ≡ xs ++ replicate (room - length xs) blank → count ≡ length xs
      → IsTidy {room = room} blank (record { places = places; count = count })
  unfolding rack_of
  tidy_by xs places count p n = rw (p, n) (tidy_of xs)

  module _ (r : Rack X room) (tidy : IsTidy blank r) where
    tidy_places : r.places ≡ items r ++ replicate (room - length (items r)) blank
    unfolding rack_of
    tidy_places = ap (λ (q : Rack X room). q.places) tidy

    tidy_count : r.count ≡ length (items r)
    unfolding rack_of
    tidy_count = ap (λ (q : Rack X room). q.count) tidy

    -- one more item takes a blank's place
    pub tidy_push : (x : X) → length (items r) < room → IsTidy {room = room} blank (record { places = set r.places r.count x; count = r.count + 1 })
    tidy_push x few =
        let xs = items r in
        let left : room - length xs ≡ suc (room - length (xs ++ x ∷ [])) = omega (arith, few, length-append xs (x ∷ [])) in
        tidy_by (xs ++ x ∷ []) _ _
        (ap (λ ps. set ps r.count x) (tidy_places ∙ ap (λ n. xs ++ replicate n blank) left)
        ∙ ap (λ i. set (xs ++ blank ∷ replicate (room - length (xs ++ x ∷ [])) blank) i x) tidy_count
        ∙ set-append_seam xs blank _ x
        ∙ sym (append_assoc xs (x ∷ []) _))
        (omega (arith, tidy_count, length-append xs (x ∷ [])))

    -- a change of the items, as many as they are, leaves the blanks behind them
    pub tidy_change : length r.places ≡ room → (n : ℕ) → n ≡ min r.count room → (xs : List X) → length xs ≡ n
        → IsTidy {room = room} blank (record { places = xs ++ drop n r.places; count = r.count })
    tidy_change long n few xs same =
        let room_is : room ≡ length (items r) + (room - length (items r)) =
        sym long ∙ ap length tidy_places ∙ length-append (items r) _ ∙ ap (λ i. length (items r) + i) (length-replicate _ blank) in
        let all : n ≡ length (items r) = omega (arith, few, tidy_count, room_is) in
        let behind : drop n r.places ≡ replicate (room - length (items r)) blank =
        ap (λ i. drop i r.places) all ∙ ap (drop (length (items r))) tidy_places ∙ drop-append_seam (items r) _ in
        tidy_by xs _ _ (ap (λ ys. xs ++ ys) (behind ∙ ap (λ i. replicate (room - i) blank) (sym (same ∙ all)))) (tidy_count ∙ sym (same ∙ all))
