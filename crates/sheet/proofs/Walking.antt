-- The walk over places: the newest write, and how far a key goes on.
use Prim.Native.Nat.{ℕ, ◌+◌, ◌≤◌, ◌<◌}
use native.Mathlib.Numerals.{add-one}
use mathlib.Core.Path.{◌≡◌}
use mathlib.Core.Bool.{true, false}
use mathlib.Core.List.{List}
use lib.ListN.{get_or}
use Rattle.std.specs.Prelude.{Some}
use Rattle.walk.specs.declared.Entry.{Entry}
use Rattle.walk.specs.Walk.{no_entry}
use Rattle.sheet.specs.Places.{overlies, top_of}

-- ---- the newest of one entry more

module _ (es : List Entry) where
  pub top_over : (n p : ℕ) → overlies p (get_or es n no_entry) ≡ true → Some n ≡ top_of es (n + 1) p
  unfolding top_of
  top_over n p e = rw (add-one, e)

  pub top_under : (n p : ℕ) → overlies p (get_or es n no_entry) ≡ false → top_of es n p ≡ top_of es (n + 1) p
  unfolding top_of
  top_under n p e = rw (add-one, e)

-- ---- the next start, and the piece's end

-- from a up to s all have the key k
pub record Through (c : ℕ → ℕ) (k a e s : ℕ) : Type 0 where
  pub from : a ≤ s
  pub most : s ≤ e
  pub each : (q : ℕ) → a ≤ q → q < s → c q ≡ k
