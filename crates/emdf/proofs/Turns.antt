-- A reading that goes on turn by turn, with as many turns allowed as there are bits: a turn, and then the rest.
use Prim.Native.Nat.{ℕ, zero, suc, ◌-◌, ◌≤◌, ◌<◌}
use mathlib.Core.Path.{◌≡◌, refl, sym, ◌∙◌}
use native.Mathlib.Omega.{arith}
use Rattle.bits.specs.Parsed.{Parsed, refused}
use Rattle.emdf.proofs.Cuts.{cut}

-- what is read of B from a value of A and a place on
abbrev pub From : Type 0 → Type 0 → Type 0
From A B = A → ℕ → Parsed B

-- up to the end e: m of n turns at most, each of which is `turn` and then the rest
pub record Turns {A B : Type 0} (e : ℕ) (m : ℕ → From A B) (turn : From A B → From A B) : Type 0 where
  pub first : (n : ℕ) (a : A) (p : ℕ) → m (suc n) a p ≡ turn (m n) a p
  pub none : (n : ℕ) (a : A) (p : ℕ) → e ≤ p → m n a p ≡ refused cut
  pub cut-turn : (rest : From A B) (a : A) (p : ℕ) → e ≤ p → turn rest a p ≡ refused cut
  pub later : (f g : From A B) (a : A) (p : ℕ) → ((a' : A) (q : ℕ) → p < q → q ≤ e → f a' q ≡ g a' q) → turn f a p ≡ turn g a p

module _ {A B : Type 0} {e : ℕ} {m : ℕ → From A B} {turn : From A B → From A B} (t : Turns e m turn) where
  -- more turns than there are bits change nothing
  pub enough : (n k : ℕ) (a : A) (p : ℕ) → e - p ≤ n → e - p ≤ k → m n a p ≡ m k a p
  enough zero k a p h l = t.none zero a p (omega arith) ∙ sym (t.none k a p (omega arith))
  enough (suc n) zero a p h l = t.none (suc n) a p (omega arith) ∙ sym (t.none zero a p (omega arith))
  enough (suc n) (suc k) a p h l =
      t.first n a p ∙ t.later (m n) (m k) a p (λ a' q i j. enough n k a' q (omega arith) (omega arith)) ∙ sym (t.first k a p)

  pub turn-then : (a : A) (p : ℕ) → m (e - p) a p ≡ turn (λ a' q. m (e - q) a' q) a p
  turn-then a p = go (e - p) refl
    where
      go : (n : ℕ) → e - p ≡ n → m n a p ≡ turn (λ a' q. m (e - q) a' q) a p
      go zero d = t.none zero a p (omega arith) ∙ sym (t.cut-turn (λ a' q. m (e - q) a' q) a p (omega arith))
      go (suc n) d = t.first n a p ∙ t.later (m n) (λ a' q. m (e - q) a' q) a p (λ a' q i j. enough n (e - q) a' q (omega arith) (omega arith))
