-- A number's text: all digits but the last, and the last; how long it is; numbers behind spaces.
use Prim.Native.Nat.{ℕ, zero, suc, ◌+◌, ◌/◌, ◌%◌, ◌^◌, ◌≤◌, ◌<◌}
use mathlib.Core.Path.{◌≡◌, refl, ap, ◌∙◌}
use mathlib.Core.Bool.{Bool, true, false}
use mathlib.Core.Logic.{◌⊎◌, inl, inr, ⊎_elim}
use mathlib.Core.List.{List, [], ◌∷◌, ◌++◌, append_assoc, append-nil}
use native.Mathlib.Nat.{div-lt_self, div-lt_iff_lt-mul, pow-suc}
use native.Mathlib.Omega.{arith}
use borrow.Author.Tests.{lt-ltb, le-ltb, ltb-true, ltb-false}
use lib.Dec.{ltb}
use lib.ListN.{length, length-append}
use Rattle.standard.specs.Journal.{digits_of, decimal, spaced}

one-or-more : (v : ℕ) → (v < 10) ⊎ (10 ≤ v)
one-or-more v = go (ltb v 10) refl
  where
    go : (b : Bool) → ltb v 10 ≡ b → (v < 10) ⊎ (10 ≤ v)
    go true e = inl (ltb-true v 10 e)
    go false e = inr (ltb-false v 10 e)

pub tenth-less : {v : ℕ} → 10 ≤ v → v / 10 < v
tenth-less h = div-lt_self (omega arith) (omega arith)

module _ (n : ℕ) {v : ℕ} (t : List ℕ) where
  last : v < 10 → digits_of (suc n) v t ≡ (48 + v) ∷ t
  unfolding digits_of
  last h = rw (lt-ltb v 10 h, digits_of)

  next : 10 ≤ v → digits_of (suc n) v t ≡ digits_of n (v / 10) ((48 + v % 10) ∷ t)
  unfolding digits_of
  next h = rw (le-ltb v 10 h, digits_of)

-- turns past the value change nothing
enough : (m n v : ℕ) (t : List ℕ) → v < m → v < n → digits_of m v t ≡ digits_of n v t
enough zero n v t h k = absurd (omega arith)
enough (suc m) zero v t h k = absurd (omega arith)
enough (suc m) (suc n) v t h k =
    ⊎_elim
    (λ (w : v < 10). rw (last m t w, last n t w))
    (λ (w : 10 ≤ v).
    let less = tenth-less w in
    rw (next m t w, next n t w) (enough m n (v / 10) ((48 + v % 10) ∷ t) (omega arith) (omega arith)))
    (one-or-more v)

-- what follows the digits stays behind them
behind : (n v : ℕ) (s t : List ℕ) → v < n → digits_of n v (s ++ t) ≡ digits_of n v s ++ t
behind zero v s t h = absurd (omega arith)
behind (suc n) v s t h =
    ⊎_elim
    (λ (w : v < 10). rw (last n (s ++ t) w, last n s w))
    (λ (w : 10 ≤ v).
    let less = tenth-less w in
    rw (next n (s ++ t) w, next n s w) (behind n (v / 10) ((48 + v % 10) ∷ s) t (omega arith)))
    (one-or-more v)

pub one-digit : {v : ℕ} → v < 10 → decimal v ≡ (48 + v) ∷ []
unfolding decimal
one-digit {v} h = last v [] h

pub more-digits : {v : ℕ} → 10 ≤ v → decimal v ≡ decimal (v / 10) ++ (48 + v % 10) ∷ []
unfolding decimal
more-digits {v} h =
    let less = tenth-less h in
    let d = (48 + v % 10) ∷ [] in
    next v [] h
    ∙ enough v (suc (v / 10)) (v / 10) d less (omega arith)
    ∙ behind (suc (v / 10)) (v / 10) [] d (omega arith)

pub one_more : {v : ℕ} → 10 ≤ v → length (decimal v) ≡ length (decimal (v / 10)) + 1
one_more {v} h = ap length (more-digits h) ∙ length-append (decimal (v / 10)) ((48 + v % 10) ∷ [])

-- as many digits as hold the number are enough
pub digits-bound : (k v : ℕ) → v < 10 ^ suc k → length (decimal v) ≤ suc k
digits-bound zero v h = rw (one-digit {v = v} (omega arith)) (omega arith)
digits-bound (suc k) v h =
    ⊎_elim
    (λ (w : v < 10). rw (one-digit w) (omega arith))
    (λ (w : 10 ≤ v).
    let shorter = digits-bound k (v / 10) ((div-lt_iff_lt-mul (omega arith)).1 (rw pow-suc at h)) in
    omega (arith, one_more w))
    (one-or-more v)

-- and 20 for a number of 64 bits
pub twenty : (v : ℕ) → v < 2 ^ 64 → length (decimal v) ≤ 20
twenty v h = digits-bound 19 v (omega arith)

pub spaced-one : (v : ℕ) → spaced (v ∷ []) ≡ 32 ∷ decimal v
unfolding spaced
spaced-one v = simp append-nil

pub spaced-append : (us vs : List ℕ) → spaced (us ++ vs) ≡ spaced us ++ spaced vs
unfolding spaced
spaced-append [] vs = refl
spaced-append (u ∷ us) vs = rw (spaced-append us vs, append_assoc)
