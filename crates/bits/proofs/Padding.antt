-- Zero bits up to the end, a bit at a time and a field at a time.
use Prim.Native.Nat.{ℕ, zero, suc, ◌+◌, ◌-◌, ◌*◌, ◌/◌, ◌^◌, ◌≤◌, ◌<◌}
use mathlib.Core.Bool.{Bool, true, false}
use mathlib.Core.List.{List}
use mathlib.Core.Path.{◌≡◌, refl, sym, ◌∙◌}
use native.Mathlib.Omega.{arith}
use lib.Dec.{eqb}
use borrow.Author.Tests.{eq-eqb, ne_eqb, eqb-true, eqb-false}
use Rattle.bits.specs.Bits.{bit_at, field}
use Rattle.bits.specs.Parsed.{Refusal, Parsed, got, refused, pure, invalid}
use Rattle.bits.specs.Reads.{zeros, padding}
use Rattle.bits.proofs.Covered.{field_top}
use Rattle.bits.proofs.Tells.{About, Tells}

module _ (c : ℕ) (s : List ℕ) (e p : ℕ) where
  pub padding-ends : e ≤ p → padding c s e p ≡ got tt p
  unfolding padding zeros pure
  padding-ends h =
      let k : e - p ≡ 0 = omega arith in
      rw k

  pub padding-goes-on : p < e → bit_at s p ≡ 0 → padding c s e p ≡ padding c s e (p + 1)
  unfolding padding zeros
  padding-goes-on h b =
      let k : e - p ≡ suc (e - (p + 1)) = omega arith in
      rw (k, eq-eqb (bit_at s p) 0 b, zeros)

  pub padding-refuses : p < e → (bit_at s p ≡ 0 → ⊥) → padding c s e p ≡ refused (invalid c p)
  unfolding padding zeros
  padding-refuses h b =
      let k : e - p ≡ suc (e - (p + 1)) = omega arith in
      rw (k, ne_eqb (bit_at s p) 0 b, zeros)

bit-lt : (s : List ℕ) (i : ℕ) → bit_at s i < 2
unfolding bit_at
bit-lt s i = omega arith

module _ (c : ℕ) (s : List ℕ) (e p : ℕ) where
  -- a field of zeros is passed over
  pub padding-passes : (w : ℕ) → p + w ≤ e → field s p w ≡ 0 → padding c s e p ≡ padding c s e (p + w)
  unfolding field
  padding-passes zero h z =
      let k : p + 0 ≡ p = omega arith in
      rw k
  padding-passes (suc w) h z =
      let k : p + suc w ≡ p + w + 1 = omega arith in
      rw k (padding-passes w (omega arith) (omega arith) ∙ padding-goes-on c s e (p + w) (omega arith) (omega arith))

  -- in any other field the first 1, with r zeros before it, is refused
  pub padding-stops : (w r : ℕ) → p + w ≤ e → r < w → field s p w / 2 ^ (w - 1 - r) ≡ 1 → padding c s e p ≡ refused (invalid c (p + r))
  unfolding field
  padding-stops w r h l v =
      let k : suc r + (w - 1 - r) ≡ w = omega arith in
      let f : field s p r * 2 + bit_at s (p + r) ≡ 1 = sym (field_top s p (suc r) (w - 1 - r)) ∙ rw k v in
      padding-passes r (omega arith) (omega (arith, bit-lt s (p + r))) ∙ padding-refuses c s e (p + r) (omega arith) (λ z. omega arith)

-- all bits up to the end are 0, or the refusal stands at the first that is 1
pub record FirstSet (c : ℕ) (s : List ℕ) (e p : ℕ) (r : Refusal) : Type 0 where
  pub kind : r ≡ invalid c r.place
  pub from : p ≤ r.place
  pub below : r.place < e
  pub set : bit_at s r.place ≡ 1
  pub clear : (i : ℕ) → p ≤ i → i < r.place → bit_at s i ≡ 0

module _ {A : Type 0} where
  abbrev pub Zeros : ℕ → About A
  Zeros c s e p (got a q) = (q ≡ p + (e - p)) × ((i : ℕ) → p ≤ i → i < e → bit_at s i ≡ 0)
  Zeros c s e p (refused r) = FirstSet c s e p r

module _ (c : ℕ) (s : List ℕ) (e p : ℕ) (h : p < e) (b : bit_at s p ≡ 0) where
  all-clear : {n : ℕ} → ((i : ℕ) → p + 1 ≤ i → i < n → bit_at s i ≡ 0) → (i : ℕ) → p ≤ i → i < n → bit_at s i ≡ 0
  all-clear {n} f i l m = go (eqb i p) refl
    where
      go : (t : Bool) → eqb i p ≡ t → bit_at s i ≡ 0
      go true t = rw (eqb-true i p t) b
      go false t = let k = eqb-false i p t in f i (omega arith) m

  one_more : (x : Parsed (Unit {0})) → Zeros c s e (p + 1) x → Zeros c s e p x
  one_more (got a q) (j, f) = (omega arith, all-clear f)
  one_more (refused r) f =
      record { kind = f.kind; from = omega arith; below = f.below; set = f.set; clear = all-clear f.clear }

set-bit : (s : List ℕ) (i : ℕ) → (bit_at s i ≡ 0 → ⊥) → bit_at s i ≡ 1
unfolding bit_at
set-bit s i h = omega arith

module _ (c : ℕ) (s : List ℕ) (e : ℕ) where
  zeros-tell : (n p : ℕ) → e - p ≡ n → Zeros c s e p (padding c s e p)
  zeros-tell zero p h = rw (padding-ends c s e p (omega arith)) (omega arith, λ i j k. absurd (omega arith))
  zeros-tell (suc n) p h = go (eqb (bit_at s p) 0) refl (zeros-tell n (p + 1) (omega arith))
    where
      go : (t : Bool) → eqb (bit_at s p) 0 ≡ t → Zeros c s e (p + 1) (padding c s e (p + 1)) → Zeros c s e p (padding c s e p)
      go true t k =
          let b = eqb-true (bit_at s p) 0 t in
          rw (padding-goes-on c s e p (omega arith) b) (one_more c s e p (omega arith) b (padding c s e (p + 1)) k)
      go false t k =
          let b = eqb-false (bit_at s p) 0 t in
          rw (padding-refuses c s e p (omega arith) b)
          (record { kind = refl; from = omega arith; below = omega arith; set = set-bit s p b; clear = λ i l m. absurd (omega arith) })

pub padding-tells : (c : ℕ) → Tells (Zeros c) (padding c)
padding-tells c = record { tells = λ s e p. zeros-tell c s e (e - p) p refl }
