-- The sixteen indexed ramps are at most 2,048, so every timing that a payload gives fits u16.
use Prim.Native.Nat.{ℕ, zero, suc, ◌+◌, ◌≤◌}
use mathlib.Core.Path.{◌≡◌, refl}
use mathlib.Core.Bool.{Bool, true, ◌&&◌, and-eq-true_iff}
use mathlib.Core.List.{List, [], ◌∷◌}
use native.Mathlib.Omega.{arith}
use borrow.Author.Tests.{leb-true}
use lib.Dec.{leb, eqb}
use lib.ListN.{length, get_or}
use Rattle.bits.proofs.Always.{Ok, Always, All, bind, after, next, mapped, choose, given, none-given, repeated, weaken, anything}
use Rattle.bits.proofs.Fields.{read-lt}
use Rattle.standard.specs.Tree.{Timing}
use Rattle.standard.specs.Syntax.{sample_offsets, sample_offset, ramp_durations, ramp, timing, object_element}
use Rattle.standard.specs.Meaning.{taken}
use Rattle.standard.proofs.Fractions.{InU16}
use Rattle.standard.proofs.Payload.{in_taken}

-- no entry of a table is over n, tested over the whole table
abbrev pub none_over : ℕ → List ℕ → Bool
none_over n [] = true
none_over n (a ∷ l) = leb a n && none_over n l

-- and so at each index; past the end stands 0
pub none_over_lem : (n : ℕ) (l : List ℕ) (i : ℕ) → none_over n l ≡ true → get_or l i 0 ≤ n
none_over_lem n [] i e = omega arith
none_over_lem n (a ∷ l) zero e = leb-true a n ((and-eq-true_iff (leb a n) (none_over n l)).0 e).0
none_over_lem n (a ∷ l) (suc i) e = none_over_lem n l i ((and-eq-true_iff (leb a n) (none_over n l)).0 e).1

-- they are sixteen, and none is over 2,048
pub durations : (length ramp_durations ≡ 16) × (none_over 2048 ramp_durations ≡ true)
unfolding ramp_durations
durations = (refl, refl)

pub duration-le : (i : ℕ) → get_or ramp_durations i 0 ≤ 2048
duration-le i = none_over_lem 2048 ramp_durations i durations.1

-- What is read

pub ramp-le : Always (λ v. v ≤ 2048) ramp
unfolding ramp
ramp-le =
    after _ _ λ code.
    choose (eqb code 0) (given _ (omega arith))
    (choose (eqb code 1) (given _ (omega arith))
    (choose (eqb code 2) (given _ (omega arith))
    (after _ _ λ indexed. choose indexed (mapped _ _ duration-le) (weaken (read-lt 11 _) λ v h. omega arith))))

pub offset-le : Always (λ v. v ≤ 31) sample_offset
unfolding sample_offset sample_offsets
offset-le =
    after _ _ λ at. after _ _ λ code.
    choose (eqb code 0) (given _ (omega arith))
    (choose (eqb code 1) (mapped _ _ λ i. none_over_lem 31 sample_offsets i refl)
    (choose (eqb code 2) (weaken (read-lt 5 _) λ v h. omega arith)
    (none-given _)))

-- 2,047 is 63 × 32 + 31
abbrev pub Bounded : Timing → Type 0
Bounded t = (t.start ≤ 2047) × (t.ramp ≤ 2048)

pub timing-bounded : (offset : ℕ) → offset ≤ 31 → Always Bounded (timing offset)
unfolding timing
timing-bounded offset h = bind _ (read-lt 6 _) λ factor k. bind _ ramp-le λ r l. given _ (omega arith, l)

timings-such : (P : Timing → Type 0) → ((t : Timing) → Bounded t → P t) → (s : List ℕ) → Ok (λ t. All P t.timings) (taken s)
unfolding object_element
timings-such P f =
    in_taken (λ ks. Unit {0}) (λ t. All P t.timings)
    (λ ks h. bind _ offset-le λ offset o. after _ _ λ m.
    bind _ (repeated (m + 1) (weaken (timing-bounded offset o) f)) λ ts k. next _ (after _ _ λ os. given _ k))
    (anything _)

-- so is every timing that a payload gives
pub payload-timings : (s : List ℕ) → Ok (λ t. All Bounded t.timings) (taken s)
payload-timings = timings-such Bounded (λ t h. h)

-- and it fits u16
pub payload-timings-u16 : (s : List ℕ) → Ok (λ t. All InU16 t.timings) (taken s)
payload-timings-u16 = timings-such InU16 (λ t h. omega arith)
