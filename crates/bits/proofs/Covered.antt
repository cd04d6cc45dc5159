-- A field is its parts in a row, and it is cut out of the bytes that it covers.
use Prim.Native.Nat.{ℕ, zero, suc, ◌+◌, ◌-◌, ◌*◌, ◌/◌, ◌%◌, ◌^◌, ◌≤◌, ◌<◌}
use mathlib.Core.List.{List}
use mathlib.Core.Path.{◌≡◌, ap, sym, ◌∙◌}
use native.Mathlib.Nat.{pow-suc, mul_assoc}
use native.Mathlib.Omega.{arith}
use lib.ListN.{get_or}
use lib.Pow.{high, low, shr-shr}
use Rattle.bits.specs.Bits.{bit_at, field}
use Rattle.bits.proofs.Fields.{field_lt}

module _ (s : List ℕ) where
  -- a field and the field behind it are one
  field-split : (p a b : ℕ) → field s p (a + b) ≡ field s p a * 2 ^ b + field s (p + a) b
  unfolding field
  field-split p a zero =
      let e : a + 0 ≡ a = omega arith in
      rw e (omega arith)
  field-split p a (suc b) =
      let e : a + suc b ≡ suc (a + b) = omega arith in
      let q : p + (a + b) ≡ p + a + b = omega arith in
      rw (e, field-split p a b, q, pow-suc, ← mul_assoc) (omega arith)

  -- the first w bits, with b behind them
  pub field_top : (p w b : ℕ) → field s p (w + b) / 2 ^ b ≡ field s p w
  field_top p w b = rw (field-split p w b) (high (field s p w) b (field_lt s (p + w) b))

  -- the last w bits, with r before them
  field_end : (p r w : ℕ) → field s p (r + w) % 2 ^ w ≡ field s (p + r) w
  field_end p r w = rw (field-split p r w) (low (field s p r) w (field_lt s (p + r) w))

  bit_in : (q i : ℕ) → i < 8 → bit_at s (q * 8 + i) ≡ get_or s q 0 / 2 ^ (7 - i) % 2
  unfolding bit_at
  bit_in q i h =
      let d : (q * 8 + i) / 8 ≡ q = omega arith in
      let m : (q * 8 + i) % 8 ≡ i = omega arith in
      rw (d, m)

  -- the first i bits of a byte
  top-of-byte : (q i : ℕ) → get_or s q 0 < 256 → i ≤ 8 → field s (q * 8) i ≡ get_or s q 0 / 2 ^ (8 - i)
  unfolding field
  top-of-byte q zero h l = omega arith
  top-of-byte q (suc i) h l =
      let e : 8 - i ≡ 7 - i + 1 = omega arith in
      let k : 8 - suc i ≡ 7 - i = omega arith in
      rw (top-of-byte q i h (omega arith), bit_in q i (omega arith), e, k, ← shr-shr (get_or s q 0) (7 - i) 1) (omega arith)

  -- a field that goes on with the whole of a byte
  pub byte_more : (p w q : ℕ) → p + w ≡ q * 8 → get_or s q 0 < 256 → field s p (w + 8) ≡ field s p w * 256 + get_or s q 0
  byte_more p w q e h = rw (field-split p w 8, e, top-of-byte q 8 h (omega arith)) (omega arith)

  -- w bits are cut out of n, with r before them
  pub field-within : (p r w n : ℕ) → r + w ≤ n → field s (p + r) w ≡ field s p n / 2 ^ (n - (r + w)) % 2 ^ w
  field-within p r w n h =
      let e : n ≡ r + w + (n - (r + w)) = omega arith in
      sym (ap (λ x. field s p x / 2 ^ (n - (r + w)) % 2 ^ w) e ∙ ap (λ x. x % 2 ^ w) (field_top p (r + w) (n - (r + w))) ∙ field_end p r w)
