-- Numbers of variable length: their groups one at a time, and how large they grow.
use Prim.Native.Nat.{ℕ, zero, suc, ◌+◌, ◌*◌, ◌^◌, ◌≤◌, ◌<◌}
use mathlib.Core.Path.{◌≡◌, refl}
use mathlib.Core.Bool.{Bool, true, false, cond}
use mathlib.Core.List.{List}
use native.Mathlib.Nat.{mul-le-mul_left}
use native.Mathlib.Omega.{arith}
use lib.Pow.{pow_mono}
use Rattle.bits.specs.Parsed.{Refusal, Parsed, got, refused, Parser, and_then, instead_of, ◌>>=◌, pure, refuse, refused_as, here, limit}
use Rattle.bits.specs.Reads.{read, flag, later_groups, variable_bits}
use Rattle.bits.proofs.Always.{Ok, Always, bind, after, choose, given, none-given}
use Rattle.bits.proofs.Fields.{read-lt}
use Rattle.bits.proofs.ParsedLaws.{then-got}
use Rattle.bits.proofs.Tells.{Tells, Onward, read-tells, flag-tells, onward, within, instead, stays, refuses, chosen, follows}

module _ (w c first v : ℕ) (s : List ℕ) (e : ℕ) where
  -- after a more flag, where n more groups may follow
  abbrev pub after_flag : ℕ → Bool → ℕ → Parsed ℕ
  after_flag n false q = got v q
  after_flag zero true q = refused (limit c first)
  after_flag (suc n) true q =
      and_then (instead_of (limit c first) (read w c s e q)) (λ next q'. later_groups w c first n (v * 2 ^ w + 2 ^ w + next) s e q')

  pub later-groups : (n p : ℕ) → later_groups w c first n v s e p ≡ and_then (flag c s e p) (after_flag n)
  unfolding later_groups ◌>>=◌ pure refuse refused_as
  later-groups zero p =
      then-got (flag c s e p) _ _ λ more q.
      elim more as (λ b. cond b (refuse (limit c first)) (pure v) s e q ≡ after_flag 0 b q) [ true ↦ refl | false ↦ refl ]
  later-groups (suc n) p =
      then-got (flag c s e p) _ _ λ more q.
      elim more as (λ b. cond b (refused_as (limit c first) (read w c) >>= λ next. later_groups w c first n (v * 2 ^ w + 2 ^ w + next)) (pure v) s e q ≡ after_flag (suc n) b q)
      [ true ↦ refl | false ↦ refl ]

-- the largest number that n more groups of 4 bits can make of v
abbrev pub largest : ℕ → ℕ → ℕ
largest zero v = v
largest (suc n) v = largest n (v * 16 + 31)

largest-le : (n v : ℕ) → v ≤ largest n v
largest-le zero v = omega arith
largest-le (suc n) v = omega (arith, largest-le n (v * 16 + 31))

largest-mono : (n : ℕ) {u v : ℕ} → u ≤ v → largest n u ≤ largest n v
largest-mono zero h = h
largest-mono (suc n) h = largest-mono n (omega arith)

-- v stays below 69,904 with n more groups of at most 4 bits
pub record Small (n v : ℕ) : Type 0 where
  pub most : largest n v < 69904

module _ (w : ℕ) (h : w ≤ 4) (v : ℕ) where
  pub small-first : v < 2 ^ w → Small 3 v
  small-first l = record { most = omega (arith, largest-mono 3 {u = v} {v = 15} (omega (arith, pow_mono h))) }

  pub small-next : (n next : ℕ) → next < 2 ^ w → Small (suc n) v → Small n (v * 2 ^ w + 2 ^ w + next)
  small-next n next l k =
      let p : 2 ^ w ≤ 16 = pow_mono h in
      let q : v * 2 ^ w + 2 ^ w + next ≤ v * 16 + 31 = omega (arith, mul-le-mul_left v p) in
      record { most = omega (arith, largest-mono n q, k.most) }

pub small : {n v : ℕ} → Small n v → v < 69904
small {n} {v} h = omega (arith, largest-le n v, h.most)

module _ {A : Type 0} {P : A → Type 0} where
  pub refused_as_lem : (r : Refusal) {m : Parser A} → Always P m → Always P (refused_as r m)
  unfolding refused_as
  refused_as_lem r {m} h = record { ok = λ s e p. go (m s e p) (h.ok s e p) }
    where
      go : (x : Parsed A) → Ok P x → Ok P (instead_of r x)
      go (got a q) k = k
      go (refused r') k = tt

module _ (w c : ℕ) where
  later-tells : (first n v : ℕ) → Tells Onward (later_groups w c first n v)
  unfolding later_groups
  later-tells first zero v = follows _ (onward 1 c (flag-tells c)) λ more. chosen more (refuses _) (stays v)
  later-tells first (suc n) v =
      follows _ (onward 1 c (flag-tells c)) λ more. chosen more
      (within (follows _ (instead _ (onward w c (read-tells w c))) λ next. within (later-tells first n _))) (stays v)

  pub variable-tells : (n : ℕ) → Tells Onward (variable_bits w n c)
  unfolding variable_bits ◌>>=◌ here
  variable-tells n = record { tells = λ s e p. (follows _ (onward w c (read-tells w c)) (λ v. within (later-tells p n v))).tells s e p }

  module _ (h : w ≤ 4) where
    later-lt : (first n v : ℕ) → Small n v → Always (λ x. x < 69904) (later_groups w c first n v)
    unfolding later_groups
    later-lt first zero v k = after _ _ λ more. choose more (none-given _) (given v (small k))
    later-lt first (suc n) v k =
        after _ _ λ more. choose more (bind _ (refused_as_lem _ (read-lt w c)) λ next l. later-lt first n _ (small-next w h v n next l k)) (given v (small k))

    pub variable-lt : Always (λ v. v < 69904) (variable_bits w 3 c)
    unfolding variable_bits
    variable-lt = after _ _ λ first. bind _ (read-lt w c) λ v l. later-lt first 3 v (small-first w h v l)
