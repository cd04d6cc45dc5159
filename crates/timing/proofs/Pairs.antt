-- The pairs of a timings table: its first blocks, the last of them, and starts that rise.
use Prim.Native.Nat.{ℕ, zero, suc, ◌-◌, ◌≤◌, ◌<◌}
use mathlib.Core.Path.{◌≡◌, refl, sym, ◌∙◌, ap}
use mathlib.Core.Bool.{Bool, true, false, and-false, false≢true}
use mathlib.Core.Logic.{⊎_elim}
use mathlib.Core.List.{List, [], ◌∷◌, map}
use native.Mathlib.Numerals.{add-one}
use native.Mathlib.Omega.{arith}
use borrow.Author.Tests.{le-leb, lt-leb, leb-true}
use lib.Dec.{leb}
use lib.ListN.{length, get_or, take, drop}
use Rattle.std.specs.Simd.{first_chunks}
use Rattle.std.specs.Prelude.{Some, slice_range}
use Rattle.std.specs.List.{IsAllAdjacentAnswer}
use Rattle.std.specs.Ordering.{is_le, nat_cmp}
use Rattle.std.proofs.lemmas.Bool.{cases_lt}
use Rattle.std.proofs.lemmas.Bool.Decides.{nat_tests}
use Rattle.std.proofs.lemmas.Map.Keys.{le_from_is_le}
use Rattle.std.proofs.lemmas.List.{get_or-take}
use Rattle.standard.specs.Tables.{timings_of}
use Rattle.standard.specs.Timing.{rising}
use Rattle.standard.specs.Carried.{last_timing}
use Rattle.timing.specs.Blocks.{timing_of, last_said}

-- the first n of k pairs
pub pairs-timed : (n k : ℕ) (l : List ℕ) → n ≤ k → map timing_of (take n (first_chunks 2 k l)) ≡ timings_of n l
unfolding timings_of
pairs-timed zero k l h = refl
pairs-timed (suc n) zero l h = absurd (omega arith)
pairs-timed (suc n) (suc k) l h =
    rw (get_or-take 2 l 0 0 (omega arith), get_or-take 2 l 1 0 (omega arith), pairs-timed n k (drop 2 l) (omega arith))

pub pairs-read : (n k : ℕ) (l : List ℕ) → n ≤ k → map timing_of (slice_range (first_chunks 2 k l) 0 n) ≡ timings_of n l
pairs-read n k l h = let e : n - 0 ≡ n = omega arith in rw e (pairs-timed n k l h)

-- the start of pair k
abbrev start_at : List (List ℕ) → ℕ → ℕ
start_at l k = get_or (get_or l k []) 0 0

-- each start is at or past the one before it
pub rises-all : (m : ℕ) (l : List (List ℕ)) → m ≤ start_at l 0 → ((k : ℕ) → suc k < length l → leb (start_at l k) (start_at l (suc k)) ≡ true)
    → rising m (map timing_of l) ≡ true
unfolding rising
rises-all m [] h f = refl
rises-all m (b ∷ []) h f = rw (le-leb _ _ h)
rises-all m (b ∷ (d ∷ l)) h f =
    rw (le-leb m (get_or b 0 0) h) (rises-all (get_or b 0 0) (d ∷ l) (leb-true _ _ (f 0 (omega arith))) (λ k j. f (suc k) (omega arith)))

pub falls-at : (m : ℕ) (l : List (List ℕ)) (k : ℕ) → suc k < length l → leb (start_at l k) (start_at l (suc k)) ≡ false → rising m (map timing_of l) ≡ false
unfolding rising
falls-at m [] k h e = absurd (omega arith)
falls-at m (b ∷ []) k h e = absurd (omega arith)
falls-at m (b ∷ (d ∷ l)) zero h e = rw (e, and-false)
falls-at m (b ∷ (d ∷ l)) (suc k) h e = rw (falls-at (get_or b 0 0) (d ∷ l) k (omega arith) e, and-false)

-- the last pair

last-timed : (b : List ℕ) (l : List (List ℕ)) → timing_of (get_or (b ∷ l) (length l) []) ≡ last_timing (timing_of b) (map timing_of l)
unfolding last_timing
last-timed b [] = refl
last-timed b (d ∷ l) = last-timed d l

pub last-said : (l : List (List ℕ)) → 0 < length l → Some (timing_of (get_or l (length l - 1) [])) ≡ last_said (map timing_of l)
last-said [] h = absurd (omega arith)
last-said (b ∷ l) h = let e : length (b ∷ l) - 1 ≡ length l = omega arith in rw e (ap Some (last-timed b l))

-- what `cmp` answers at a number that is not above
le_is_le : (a b : ℕ) → a ≤ b → is_le (nat_cmp a b) ≡ true
le_is_le a b h = grind (arith, nat_tests)

-- what a test of the starts' order answers

pub rises-sorted : (l : List (List ℕ)) (r : Bool) → IsAllAdjacentAnswer (λ x y b. b ≡ is_le (nat_cmp (get_or x 0 0) (get_or y 0 0))) l r → r ≡ rising 0 (map timing_of l)
rises-sorted l true h = sym (rises-all 0 l (omega arith) (λ k j. le-leb _ _ (le_from_is_le _ _ (sym (rw (add-one k) at (h k [] (omega arith)))))))
rises-sorted l false h = sym (falls-at 0 l h.0 (omega (arith, h.1)) (lt-leb _ _ (lt_from_not_le (rw (add-one h.0) at (h.2 [])))))
  where
    lt_from_not_le : {a b : ℕ} → false ≡ is_le (nat_cmp a b) → b < a
    lt_from_not_le {a} {b} e =
        ⊎_elim (λ h. h) (λ h. absurd (false≢true (e ∙ le_is_le a b h))) (cases_lt b a)
