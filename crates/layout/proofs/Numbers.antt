-- Numbers in bytes: what the library reads from them and makes of them, and that a number stored as bytes is read back.
use Prim.Native.Nat.{ℕ, suc, ◌+◌, ◌/◌, ◌%◌, ◌<◌}
use mathlib.Core.Path.{◌≡◌, ◌∙◌}
use mathlib.Core.List.{List, [], ◌∷◌}
use native.Mathlib.Omega.{arith}
use Rattle.std.specs.Int.{w16, w32, w64, from_le_bytes, to_le_bytes}
use Rattle.layout.specs.Bytes.{number2, number4, number8, bytes_at, bytes2, bytes4, bytes8}

-- ---- `from_le_bytes` of the bytes at p is the number there

module _ (f : ℕ → ℕ) (p : ℕ) where
  two_at : bytes_at f p 2 ≡ f p ∷ f (p + 1) ∷ []
  unfolding bytes_at
  two_at = let e : suc p ≡ p + 1 = omega arith in rw e

  pub le2 : (bs : List ℕ) (x : ℕ) → x ≡ from_le_bytes w16 bs → bs ≡ bytes_at f p 2 → x ≡ number2 f p
  unfolding number2
  le2 bs x e b = e ∙ rw (b, two_at) (omega arith)

  four_at : bytes_at f p 4 ≡ f p ∷ f (p + 1) ∷ f (p + 2) ∷ f (p + 2 + 1) ∷ []
  unfolding bytes_at
  four_at =
      let a : suc p ≡ p + 1 = omega arith in
      let b : suc (suc p) ≡ p + 2 = omega arith in
      let d : suc (suc (suc p)) ≡ p + 2 + 1 = omega arith in
      rw (d, b, a)

  pub le4 : (bs : List ℕ) (x : ℕ) → x ≡ from_le_bytes w32 bs → bs ≡ bytes_at f p 4 → x ≡ number4 f p
  unfolding number4 number2
  le4 bs x e b = e ∙ rw (b, four_at) (omega arith)

  eight_at : bytes_at f p 8 ≡ f p ∷ f (p + 1) ∷ f (p + 2) ∷ f (p + 2 + 1) ∷ f (p + 4) ∷ f (p + 4 + 1) ∷ f (p + 4 + 2) ∷ f (p + 4 + 2 + 1) ∷ []
  unfolding bytes_at
  eight_at =
      let e1 : suc p ≡ p + 1 = omega arith in
      let e2 : suc (suc p) ≡ p + 2 = omega arith in
      let e3 : suc (suc (suc p)) ≡ p + 2 + 1 = omega arith in
      let e4 : suc (suc (suc (suc p))) ≡ p + 4 = omega arith in
      let e5 : suc (suc (suc (suc (suc p)))) ≡ p + 4 + 1 = omega arith in
      let e6 : suc (suc (suc (suc (suc (suc p))))) ≡ p + 4 + 2 = omega arith in
      let e7 : suc (suc (suc (suc (suc (suc (suc p)))))) ≡ p + 4 + 2 + 1 = omega arith in
      rw (e7, e6, e5, e4, e3, e2, e1)

  pub le8 : (bs : List ℕ) (x : ℕ) → x ≡ from_le_bytes w64 bs → bs ≡ bytes_at f p 8 → x ≡ number8 f p
  unfolding number8 number4 number2
  le8 bs x e b = e ∙ rw (b, eight_at) (omega arith)

-- ---- `to_le_bytes` of a number is the number as bytes

pub le_bytes4 : (x : ℕ) → to_le_bytes w32 x ≡ bytes4 x
unfolding bytes4 bytes2
le_bytes4 x =
    let a : x / 16777216 ≡ x / 65536 / 256 = omega arith in
    rw a

pub le_bytes8 : (x : ℕ) → to_le_bytes w64 x ≡ bytes8 x
unfolding bytes8 bytes4 bytes2
le_bytes8 x =
    let y = x / 4294967296 in
    let a : x / 16777216 ≡ x / 65536 / 256 = omega arith in
    let b : x / 1099511627776 ≡ x / 4294967296 / 256 = omega arith in
    let d : x / 281474976710656 ≡ x / 4294967296 / 65536 = omega arith in
    let e : x / 72057594037927936 ≡ x / 4294967296 / 65536 / 256 = omega arith in
    rw (a, b, d, e)

-- ---- a number stored as bytes is read back

module _ (f : ℕ → ℕ) (p x : ℕ) where
  pub number2_of : f p ≡ x % 256 → f (p + 1) ≡ (x / 256) % 256 → number2 f p ≡ x % 65536
  unfolding number2
  number2_of a b = rw (a, b) (omega arith)

  pub number4_of : number2 f p ≡ x % 65536 → number2 f (p + 2) ≡ (x / 65536) % 65536 → number4 f p ≡ x % 4294967296
  unfolding number4
  number4_of a b = rw (a, b) (omega arith)

  pub number8_of : x < 18446744073709551616 → number4 f p ≡ x % 4294967296 → number4 f (p + 4) ≡ (x / 4294967296) % 4294967296 → number8 f p ≡ x
  unfolding number8
  number8_of l a b = rw (a, b) (omega arith)
