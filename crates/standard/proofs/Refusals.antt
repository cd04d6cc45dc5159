-- What a refusal leaves, where it stands, and when bits are missing.
use Prim.Native.Nat.{ℕ, ◌*◌, ◌≤◌}
use mathlib.Core.Path.{◌≡◌, refl}
use mathlib.Core.Bool.{Bool, true, false}
use mathlib.Core.List.{List}
use native.Mathlib.Omega.{arith}
use lib.Dec.{leb, eqb}
use borrow.Author.Tests.{eqb-true, eqb-false}
use lib.ListN.{length}
use Rattle.standard.specs.Numbers.{payload_limit, accepted}
use Rattle.standard.specs.Numbers as number
use Rattle.standard.specs.Tables.{in_form}
use Rattle.standard.specs.Calls.{Lent, unchanged, has_room, accept, decline, decode}
use Rattle.standard.proofs.Bounds.{most_bits}
use Rattle.standard.proofs.Endings.{ends}

-- Room, form and size (5, 6, 7) come in this order and before the payload, and what they refuse changes nothing

abbrev pub Untouched : ℕ → List ℕ → Lent → Type 0
Untouched n s l = decode s l ≡ unchanged l n

pub without-room : (s : List ℕ) (l : Lent) → has_room l ≡ false → Untouched number.room s l
unfolding decode
without-room s l h = rw h

pub out-of-form : (s : List ℕ) (l : Lent) → has_room l ≡ true → in_form l.retained ≡ false → Untouched number.form s l
unfolding decode
out-of-form s l h k = rw (h, k)

pub too_long : (s : List ℕ) (l : Lent) → has_room l ≡ true → in_form l.retained ≡ true → leb (length s) payload_limit ≡ false → Untouched number.size s l
unfolding decode
too_long s l h k n = rw (h, k, n)

-- A refused payload, table or size leaves the retained table.
pub refusal-leaves : (s : List ℕ) (l : Lent) → ((decode s l).answer.verdict.number ≡ accepted → ⊥) → (decode s l).lent.retained ≡ l.retained
unfolding accept decline
refusal-leaves s l =
    ends (λ d. (d.answer.verdict.number ≡ accepted → ⊥) → d.lent.retained ≡ l.retained) s l (λ n x y h. refl) (λ p r b h. refl)
    (λ p t f h. absurd (h refl))

-- A place lies within the longest payload, so that it fits 32 bits.
pub place-fits : (s : List ℕ) (l : Lent) → (decode s l).answer.verdict.place ≤ payload_limit * 8
unfolding accept decline
place-fits s l =
    ends (λ d. d.answer.verdict.place ≤ payload_limit * 8) s l (λ n low high. omega arith) (λ h r b. let p = b.place in let n = h.size in omega arith)
    (λ h t f. omega arith)

-- Bits are missing exactly where the number is 1

pub missing-if-cut : (s : List ℕ) (l : Lent) → (decode s l).answer.verdict.number ≡ 1 → 1 ≤ (decode s l).answer.verdict.missing
unfolding accept decline
missing-if-cut s l =
    ends (λ d. d.answer.verdict.number ≡ 1 → 1 ≤ d.answer.verdict.missing) s l (λ n low high e. absurd (omega arith)) (λ h r b. b.cut)
    (λ h t f e. absurd (omega arith))

pub cut-if-missing : (s : List ℕ) (l : Lent) → 1 ≤ (decode s l).answer.verdict.missing → (decode s l).answer.verdict.number ≡ 1
unfolding accept decline
cut-if-missing s l =
    ends (λ d. 1 ≤ d.answer.verdict.missing → d.answer.verdict.number ≡ 1) s l (λ n low high m. absurd (omega arith))
    (λ h r b m. go r.number m b.uncut (eqb r.number 1) refl) (λ h t f m. absurd (omega arith))
  where
    go : (n : ℕ) {k : ℕ} → 1 ≤ k → ((n ≡ 1 → ⊥) → k ≡ 0) → (b : Bool) → eqb n 1 ≡ b → n ≡ 1
    go n m h true e = eqb-true n 1 e
    go n m h false e = let z = h (eqb-false n 1 e) in absurd (omega arith)

-- They are no more than the longest element has, so that they fit 32 bits.
pub missing-fits : (s : List ℕ) (l : Lent) → (decode s l).answer.verdict.missing ≤ most_bits
unfolding accept decline
missing-fits s l =
    ends (λ d. d.answer.verdict.missing ≤ most_bits) s l (λ n low high. omega arith) (λ h r b. b.most) (λ h t f. omega arith)
