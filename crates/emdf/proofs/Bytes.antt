-- Bytes that begin at any bit: each stands in two neighbours, and its bits are those of the list from there on.
use Prim.Native.Nat.{ℕ, zero, suc, ◌+◌, ◌*◌, ◌-◌, ◌/◌, ◌%◌, ◌^◌, ◌≤◌, ◌<◌}
use mathlib.Core.Path.{◌≡◌, refl, sym, ap, ◌∙◌}
use mathlib.Core.Bool.{Bool, true, false}
use mathlib.Core.List.{List, [], ◌∷◌, ◌++◌}
use native.Mathlib.Nat.{add-zero}
use native.Mathlib.Numerals.{add-one}
use native.Mathlib.Omega.{arith}
use lib.Dec.{leb}
use lib.ListN.{length, get_or}
use lib.Pow as pow
use borrow.Author.Tests.{leb-true, leb-false}
use Rattle.bits.specs.Bits.{bit_at, field}
use Rattle.emdf.specs.Say.{bytes_from}

-- a byte and the next
abbrev pub pair : List ℕ → ℕ → ℕ
pair s k = get_or s k 0 * 256 + get_or s (k + 1) 0

module _ (s : List ℕ) (k : ℕ) (small : get_or s (k + 1) 0 < 256) where
  bit_high : (m : ℕ) → m < 8 → bit_at s (k * 8 + m) ≡ pair s k / 2 ^ (15 - m) % 2
  unfolding bit_at
  bit_high m h =
      let d : (k * 8 + m) / 8 ≡ k = omega arith in
      let r : (k * 8 + m) % 8 ≡ m = omega arith in
      let e : 15 - m ≡ 8 + (7 - m) = omega arith in
      let top : pair s k / 2 ^ 8 ≡ get_or s k 0 = omega arith in
      rw (d, r, e, ← (pow.shr-shr (pair s k) 8 (7 - m)), top)

  bit-low : (m : ℕ) → m < 8 → bit_at s (k * 8 + (8 + m)) ≡ pair s k / 2 ^ (15 - (8 + m)) % 2
  unfolding bit_at
  bit-low m h =
      let d : (k * 8 + (8 + m)) / 8 ≡ k + 1 = omega arith in
      let r : (k * 8 + (8 + m)) % 8 ≡ m = omega arith in
      let e : 15 - (8 + m) ≡ 7 - m = omega arith in
      let end : pair s k % 2 ^ 8 ≡ get_or s (k + 1) 0 = omega arith in
      let w : m + 1 + (7 - m) ≡ 8 = omega arith in
      let part : pair s k % 2 ^ 8 / 2 ^ (7 - m) ≡ pair s k / 2 ^ (7 - m) % 2 ^ (m + 1) = rw w at (pow.field (pair s k) (m + 1) (7 - m)) in
      rw (d, r, e)
      (ap (λ x. x / 2 ^ (7 - m) % 2) (sym end) ∙ ap (λ x. x % 2) part ∙ pow.mod-mod-pow (pair s k / 2 ^ (7 - m)) m 1)

  bit : (m : ℕ) → m < 16 → bit_at s (k * 8 + m) ≡ pair s k / 2 ^ (15 - m) % 2
  bit m h = go (leb 8 m) refl
    where
      go : (b : Bool) → leb 8 m ≡ b → bit_at s (k * 8 + m) ≡ pair s k / 2 ^ (15 - m) % 2
      go true t =
          let l = leb-true 8 m t in
          let e : m ≡ 8 + (m - 8) = omega arith in
          rw e (bit-low (m - 8) (omega arith))
      go false t = bit_high m (leb-false 8 m t)

  field-pair : (o w : ℕ) → o + w ≤ 16 → field s (k * 8 + o) w ≡ pair s k / 2 ^ (16 - (o + w)) % 2 ^ w
  unfolding field
  field-pair o zero h = omega arith
  field-pair o (suc w) h =
      let a : k * 8 + o + w ≡ k * 8 + (o + w) = omega arith in
      let j : 16 - (o + suc w) ≡ 15 - (o + w) = omega arith in
      let i : 16 - (o + w) ≡ 15 - (o + w) + 1 = omega arith in
      rw (field-pair o w (omega arith), a, bit (o + w) (omega arith), j, i, ← (pow.shr-shr (pair s k) (15 - (o + w)) 1), ← (add-one w))
      (sym (pow.mod-pow-add (pair s k / 2 ^ (15 - (o + w))) w 1))

  pub byte-of-pair : (o : ℕ) → o < 8 → pair s k / 2 ^ (8 - o) % 256 ≡ field s (k * 8 + o) 8
  byte-of-pair o h =
      let e : 16 - (o + 8) ≡ 8 - o = omega arith in
      sym (rw e at (field-pair o 8 (omega arith)))

  pub whole-byte : get_or s k 0 < 256 → get_or s k 0 ≡ field s (k * 8) 8
  whole-byte h =
      let f : field s (k * 8) 8 ≡ pair s k / 2 ^ 8 % 2 ^ 8 = rw add-zero at (field-pair 0 8 (omega arith)) in
      omega arith

-- Bits of a field, and of bytes

module _ (s : List ℕ) (p : ℕ) where
  bit-lt : (i : ℕ) → bit_at s i < 2
  unfolding bit_at
  bit-lt i = omega arith

  pub field-bit : (w j : ℕ) → j < w → field s p w / 2 ^ (w - 1 - j) % 2 ≡ bit_at s (p + j)
  unfolding field
  field-bit zero j h = absurd (omega arith)
  field-bit (suc w) j h = go (leb w j) refl (field-bit w j)
    where
      go : (b : Bool) → leb w j ≡ b → (j < w → field s p w / 2 ^ (w - 1 - j) % 2 ≡ bit_at s (p + j))
          → (field s p w * 2 + bit_at s (p + w)) / 2 ^ (suc w - 1 - j) % 2 ≡ bit_at s (p + j)
      go true t ih =
          let l = leb-true w j t in
          let e : j ≡ w = omega arith in
          let z : suc w - 1 - w ≡ 0 = omega arith in
          rw (e, z) (omega (arith, bit-lt (p + w)))
      go false t ih =
          let l = leb-false w j t in
          let e : suc w - 1 - j ≡ 1 + (w - 1 - j) = omega arith in
          let half : (field s p w * 2 + bit_at s (p + w)) / 2 ^ 1 ≡ field s p w = omega (arith, bit-lt (p + w)) in
          rw (e, ← (pow.shr-shr (field s p w * 2 + bit_at s (p + w)) 1 (w - 1 - j)), half) (ih l)

pub bytes-length : (s : List ℕ) (p n : ℕ) → length (bytes_from s p n) ≡ n
unfolding bytes_from
bytes-length s p zero = refl
bytes-length s p (suc n) = ap suc (bytes-length s (p + 8) n)

pub bytes_next : (s : List ℕ) (p n : ℕ) → bytes_from s p (suc n) ≡ bytes_from s p n ++ field s (p + n * 8) 8 ∷ []
unfolding bytes_from
bytes_next s p zero = let e : p + 0 * 8 ≡ p = omega arith in rw e
bytes_next s p (suc n) =
    let e : p + suc n * 8 ≡ p + 8 + n * 8 = omega arith in
    rw e (ap (λ (l : List ℕ). field s p 8 ∷ l) (bytes_next s (p + 8) n))

byte_at : (s : List ℕ) (p n i : ℕ) → i < n → get_or (bytes_from s p n) i 0 ≡ field s (p + i * 8) 8
unfolding bytes_from
byte_at s p zero i h = absurd (omega arith)
byte_at s p (suc n) zero h = let e : p + 0 * 8 ≡ p = omega arith in rw e
byte_at s p (suc n) (suc i) h =
    let e : p + suc i * 8 ≡ p + 8 + i * 8 = omega arith in
    rw e (byte_at s (p + 8) n i (omega arith))

-- the bits of the bytes are those of the list
pub bytes_bits : (s : List ℕ) (p n i : ℕ) → i < n * 8 → bit_at (bytes_from s p n) i ≡ bit_at s (p + i)
unfolding bit_at
bytes_bits s p n i h =
    let e : p + i / 8 * 8 + i % 8 ≡ p + i = omega arith in
    rw (byte_at s p n (i / 8) (omega arith)) (field-bit s (p + i / 8 * 8) 8 (i % 8) (omega arith) ∙ ap (bit_at s) e)
