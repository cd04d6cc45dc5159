-- Laws of Parsed, for proofs that one pass does what two do.
use Prim.Native.Nat.{ℕ}
use mathlib.Core.Path.{◌≡◌, refl, ap}
use native.Mathlib.Omega.{arith}
use Rattle.bits.specs.Parsed.{Refusal, Parsed, got, refused, and_then, map_parsed, instead_of}
use Rattle.bits.proofs.Always.{Ok}

pub then-got : {A B : Type 0} (x : Parsed A) (f g : A → ℕ → Parsed B) → ((a : A) (q : ℕ) → f a q ≡ g a q) → and_then x f ≡ and_then x g
then-got (got a q) f g h = h a q
then-got (refused r) f g h = refl

module _ {A B C : Type 0} where
  pub map-then : (x : Parsed A) (f : A → B) (k : B → ℕ → Parsed C) → and_then (map_parsed f x) k ≡ and_then x (λ a q. k (f a) q)
  map-then (got a q) f k = refl
  map-then (refused r) f k = refl

  pub then_map : (x : Parsed A) (k : A → ℕ → Parsed B) (f : B → C) → map_parsed f (and_then x k) ≡ and_then x (λ a q. map_parsed f (k a q))
  then_map (got a q) k f = refl
  then_map (refused r) k f = refl

  pub map-map : (x : Parsed A) (f : A → B) (g : B → C) → map_parsed g (map_parsed f x) ≡ map_parsed (λ a. g (f a)) x
  map-map (got a q) f g = refl
  map-map (refused r) f g = refl

  pub then-then : (x : Parsed A) (f : A → ℕ → Parsed B) (g : B → ℕ → Parsed C) → and_then (and_then x f) g ≡ and_then x (λ a q. and_then (f a q) g)
  then-then (got a q) f g = refl
  then-then (refused r) f g = refl

  -- a value made of what was read last
  pub map_last : (x : Parsed A) (g : A → B) (f : B → C) → map_parsed f (and_then x (λ a q. got (g a) q)) ≡ map_parsed (λ a. f (g a)) x
  map_last (got a q) g f = refl
  map_last (refused r) g f = refl

module _ {A B : Type 0} where
  pub then-pure : (x : Parsed A) (g : A → B) → and_then x (λ a q. got (g a) q) ≡ map_parsed g x
  then-pure (got a q) g = refl
  then-pure (refused r) g = refl

  -- of values that have P
  pub then-such : (P : A → Type 0) (x : Parsed A) (f g : A → ℕ → Parsed B) → Ok P x → ((a : A) (q : ℕ) → P a → f a q ≡ g a q) → and_then x f ≡ and_then x g
  then-such P (got a q) f g p h = h a q p
  then-such P (refused r) f g p h = refl

  pub map-such : (P : A → Type 0) (x : Parsed A) (f g : A → B) → Ok P x → ((a : A) → P a → f a ≡ g a) → map_parsed f x ≡ map_parsed g x
  map-such P (got a q) f g p h = ap (λ b. got b q) (h a p)
  map-such P (refused r) f g p h = refl

-- a refusal that stands for each of a reading's
module _ {A : Type 0} (r : Refusal) where
  pub instead-then : {B : Type 0} (x : Parsed A) (k : A → ℕ → Parsed B) → instead_of r (and_then x k) ≡ and_then (instead_of r x) (λ a q. instead_of r (k a q))
  instead-then (got a q) k = refl
  instead-then (refused r') k = refl

  pub instead-twice : (r' : Refusal) (x : Parsed A) → instead_of r (instead_of r' x) ≡ instead_of r x
  instead-twice r' (got a q) = refl
  instead-twice r' (refused r'') = refl

-- what an answer that was made of a reading tells of that reading
module _ {A B : Type 0} (f : A → B) where
  pub record Made (m : Parsed A) (b : B) (q : ℕ) : Type 0 where
    pub value : A
    pub gives : m ≡ got value q
    pub made : b ≡ f value

  pub made_got : (m : Parsed A) {b : B} {q : ℕ} → got b q ≡ map_parsed f m → Made m b q
  made_got (got a q) h = record { value = a; gives = cc; made = cc }
  made_got (refused r) h = let z : ◌≡◌ {A = ℕ} 0 1 = cc in absurd (omega arith)

  pub made-refused : (m : Parsed A) {r : Refusal} → refused r ≡ map_parsed f m → m ≡ refused r
  made-refused (got a q) h = cc
  made-refused (refused r) h = cc
