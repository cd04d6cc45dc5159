-- Bits that stand in bytes: a field reads the number that was written, and bytes hold the bits that were put into them.
use Prim.Native.Nat.{ℕ, zero, suc, ◌+◌, ◌*◌, ◌-◌, ◌/◌, ◌%◌, ◌^◌, ◌≤◌, ◌<◌}
use mathlib.Core.Path.{◌≡◌, refl, sym, ◌∙◌, ap}
use mathlib.Core.Bool.{Bool, true, false}
use mathlib.Core.List.{List, [], ◌∷◌, ◌++◌}
use native.Mathlib.Nat.{zero-add}
use native.Mathlib.Omega.{arith}
use lib.Dec.{leb, eqb, ltb}
use lib.ListN.{length, get_or, drop, length-append, get_or-append}
use lib.Pow.{shr-shr}
use lib.Seq.{get_or-append-add, get_or-drop}
use borrow.Author.Tests.{leb-true, leb-false, eqb-true, eqb-false, ltb-true, ltb-false}
use Rattle.bits.specs.Bits.{bit_at, field}
use Rattle.writes.specs.Writes.{Bits, digit, one, ◌⊳◌, spread, spelled, bytes, byte_count, packed}

-- the bits from place p are w
pub record Spells (s : List ℕ) (p : ℕ) (w : Bits) : Type 0 where
  pub bit : (i : ℕ) → i < length w → bit_at s (p + i) ≡ digit (get_or w i false)

module _ {s : List ℕ} {p : ℕ} where
  pub spells-left : (u w : Bits) → Spells s p (u ++ w) → Spells s p u
  spells-left u w h = record { bit = λ i l. h.bit i (simp length-append (omega arith)) ∙ ap digit (get_or-append u w false i l) }

  pub spells-right : (u w : Bits) → Spells s p (u ++ w) → Spells s (p + length u) w
  spells-right u w h = record {
    bit = λ i l.
        let e : p + length u + i ≡ p + (length u + i) = omega arith in
        rw e (h.bit (length u + i) (simp length-append (omega arith)) ∙ ap digit (get_or-append-add u w i false));
  }

-- Lengths

pub width : (w v : ℕ) → length (w ⊳ v) ≡ w
unfolding ◌⊳◌
width zero v = refl
width (suc w) v = simp (length-append, width w (v / 2)) (omega arith)

-- where each takes n bits
module _ {K : Type 0} (f : K → Bits) (n : ℕ) (h : (k : K) → length (f k) ≡ n) where
  pub spread-length : (ks : List K) → length (spread f ks) ≡ length ks * n
  unfolding spread
  spread-length [] = omega arith
  spread-length (k ∷ ks) = rw (length-append (f k) (spread f ks), h k, spread-length ks) (omega arith)

-- Fields

digit-rest : (v : ℕ) → digit (eqb (v % 2) 1) ≡ v % 2
digit-rest v = go (eqb (v % 2) 1) refl
  where
    go : (b : Bool) → eqb (v % 2) 1 ≡ b → digit b ≡ v % 2
    go true e = sym (eqb-true (v % 2) 1 e)
    go false e = let n = eqb-false (v % 2) 1 e in omega arith

pub field_back : (s : List ℕ) (p w v : ℕ) → v < 2 ^ w → Spells s p (w ⊳ v) → field s p w ≡ v
unfolding field ◌⊳◌
field_back s p zero v l h = omega arith
field_back s p (suc w) v l h =
    let a = field_back s p w (v / 2) (omega arith) (spells-left (w ⊳ (v / 2)) _ h) in
    let b = (spells-right (w ⊳ (v / 2)) (one (eqb (v % 2) 1)) h).bit 0 (omega arith) in
    let e : p + length (w ⊳ (v / 2)) + 0 ≡ p + w = omega (arith, width w (v / 2)) in
    let c : bit_at s (p + w) ≡ v % 2 = ap (bit_at s) (sym e) ∙ b ∙ digit-rest v in
    omega arith

-- Bytes

digit-le : (b : Bool) → digit b ≤ 1
digit-le true = omega arith
digit-le false = omega arith

bytes-length : (n : ℕ) (w : Bits) → length (bytes n w) ≡ n
unfolding bytes
bytes-length zero w = refl
bytes-length (suc n) w = ap suc (bytes-length n (drop 8 w))

-- bit i of the number that n bits spell
spelled-bit : (w : Bits) (n i : ℕ) → i < n → spelled n w / 2 ^ (n - 1 - i) % 2 ≡ digit (get_or w i false)
unfolding spelled
spelled-bit w zero i h = absurd (omega arith)
spelled-bit w (suc n) i h = go (leb n i) refl (spelled-bit w n i)
  where
    go : (b : Bool) → leb n i ≡ b → (i < n → spelled n w / 2 ^ (n - 1 - i) % 2 ≡ digit (get_or w i false))
        → (spelled n w * 2 + digit (get_or w n false)) / 2 ^ (suc n - 1 - i) % 2 ≡ digit (get_or w i false)
    go true t f =
        let l = leb-true n i t in
        let e : i ≡ n = omega arith in
        let z : suc n - 1 - n ≡ 0 = omega arith in
        rw (e, z) (omega (arith, digit-le (get_or w n false)))
    go false t f =
        let l = leb-false n i t in
        let e : suc n - 1 - i ≡ 1 + (n - 1 - i) = omega arith in
        let half : (spelled n w * 2 + digit (get_or w n false)) / 2 ^ 1 ≡ spelled n w = omega (arith, digit-le (get_or w n false)) in
        rw (e, ← (shr-shr (spelled n w * 2 + digit (get_or w n false)) 1 (n - 1 - i)), half) (f l)

byte-bit : (w : Bits) (l : List ℕ) (i : ℕ) → i < 8 → bit_at (spelled 8 w ∷ l) i ≡ digit (get_or w i false)
unfolding bit_at
byte-bit w l i h =
    let e : i / 8 ≡ 0 = omega arith in
    let f : i % 8 ≡ i = omega arith in
    rw (e, f) (spelled-bit w 8 i h)

past-byte : (b : ℕ) (l : List ℕ) (i : ℕ) → bit_at (b ∷ l) (8 + i) ≡ bit_at l i
unfolding bit_at
past-byte b l i =
    let e : (8 + i) / 8 ≡ suc (i / 8) = omega arith in
    let f : (8 + i) % 8 ≡ i % 8 = omega arith in
    rw (e, f)

bytes-bit : (n : ℕ) (w : Bits) (i : ℕ) → i < n * 8 → bit_at (bytes n w) i ≡ digit (get_or w i false)
unfolding bytes
bytes-bit zero w i h = absurd (omega arith)
bytes-bit (suc n) w i h = go (ltb i 8) refl (bytes-bit n (drop 8 w) (i - 8))
  where
    go : (b : Bool) → ltb i 8 ≡ b → (i - 8 < n * 8 → bit_at (bytes n (drop 8 w)) (i - 8) ≡ digit (get_or (drop 8 w) (i - 8) false))
        → bit_at (spelled 8 w ∷ bytes n (drop 8 w)) i ≡ digit (get_or w i false)
    go true t f = byte-bit w (bytes n (drop 8 w)) i (ltb-true i 8 t)
    go false t f =
        let k = ltb-false i 8 t in
        let e : 8 + (i - 8) ≡ i = omega arith in
        ap (bit_at (spelled 8 w ∷ bytes n (drop 8 w))) (sym e) ∙ past-byte (spelled 8 w) (bytes n (drop 8 w)) (i - 8) ∙ f (omega arith)
        ∙ ap digit (get_or-drop 8 w (i - 8) false ∙ ap (λ j. get_or w j false) e)

-- packed bytes hold all bits of w
pub packed-spell : (w : Bits) → Spells (packed w) 0 w
unfolding packed byte_count
packed-spell w = record { bit = λ i l. rw zero-add (bytes-bit (byte_count w) w i (omega arith)) }

pub packed-length : (w : Bits) → length w ≤ length (packed w) * 8
unfolding packed byte_count
packed-length w = let n = bytes-length (byte_count w) w in omega arith
