-- Numbers of variable length give back what was written, in groups of any width, wherever enough groups may be read.
use Prim.Native.Nat.{ℕ, zero, suc, ◌+◌, ◌*◌, ◌-◌, ◌/◌, ◌%◌, ◌^◌, ◌≤◌, ◌<◌}
use mathlib.Core.Path.{◌≡◌, refl}
use mathlib.Core.Bool.{Bool, true, false, cond}
use mathlib.Core.List.{append_assoc}
use native.Mathlib.Nat.{mod-lt, div-lt_iff_lt-mul, le-mul_of_pos_right}
use native.Mathlib.Omega.{arith}
use lib.Dec.{ltb}
use lib.ListN.{length, length-append}
use lib.Pow.{pow_pos, split}
use borrow.Author.Tests.{ltb-true, ltb-false}
use Rattle.bits.specs.Reads.{later_groups, variable_bits}
use Rattle.writes.specs.Writes.{Bits, one, ◌⋯◌, ◌⊳◌, groups, variable}
use Rattle.writes.proofs.ReadBack.{Reads, Is, goes_on, given, from-here, recast, a-field, a-flag}

module _ (w : ℕ) where
  -- numbers of n + 1 groups lie below
  abbrev pub most : ℕ → ℕ
  most zero = 2 ^ w
  most (suc n) = 2 ^ w + most n * 2 ^ w

  -- how many groups follow the first
  abbrev pub further : ℕ → ℕ → ℕ
  further zero v = 0
  further (suc n) v = cond (ltb v (2 ^ w)) 0 (suc (further n ((v - 2 ^ w) / 2 ^ w)))

  -- no number takes more groups than itself and one
  pub most-more : (n : ℕ) → n < most n
  most-more zero = pow_pos w
  most-more (suc n) = omega (arith, most-more n, pow_pos w, le-mul_of_pos_right (most n) (pow_pos w))

  -- there is a flag before each
  further-length : (n v : ℕ) → further n v ≤ length (groups w n v)
  unfolding groups
  further-length zero v = omega arith
  further-length (suc n) v = go (ltb v (2 ^ w)) (further-length n ((v - 2 ^ w) / 2 ^ w))
    where
      q : ℕ
      q = (v - 2 ^ w) / 2 ^ w

      go : (b : Bool) → further n q ≤ length (groups w n q)
          → cond b 0 (suc (further n q)) ≤ length (cond b (w ⊳ v) (groups w n q ⋯ one true ⋯ w ⊳ ((v - 2 ^ w) % 2 ^ w)))
      go true h = omega arith
      go false h = rw (length-append (groups w n q) (one true ⋯ w ⊳ ((v - 2 ^ w) % 2 ^ w))) (omega arith)

  pub further-fit : (n v : ℕ) → further n v < length (variable w n v)
  unfolding variable
  further-fit n v = rw (length-append (groups w n v) (one false)) (omega (arith, further-length n v))

  again : (v : ℕ) → 2 ^ w ≤ v → (v - 2 ^ w) / 2 ^ w * 2 ^ w + 2 ^ w + (v - 2 ^ w) % 2 ^ w ≡ v
  again v h = omega (arith, split (v - 2 ^ w) w)

  module _ (c : ℕ) where
    later-end : (first j v : ℕ) → Reads (Is v) (one false) (later_groups w c first j v)
    unfolding later_groups
    later-end first zero v = goes_on false _ (a-flag c false) (given v refl)
    later-end first (suc j) v = goes_on false _ (a-flag c false) (given v refl)

    later_more : {Q : ℕ → Type 0} {u : Bits} (first j v d : ℕ) → d < 2 ^ w → Reads Q u (later_groups w c first j (v * 2 ^ w + 2 ^ w + d))
        → Reads Q (one true ⋯ w ⊳ d ⋯ u) (later_groups w c first (suc j) v)
    unfolding later_groups
    later_more first j v d h f = goes_on true _ (a-flag c true) (goes_on d _ (recast _ (a-field w c d h)) f)

    first_group : {Q : ℕ → Type 0} {u : Bits} (k v : ℕ) → v < 2 ^ w → ((first : ℕ) → Reads Q u (later_groups w c first k v))
        → Reads Q (w ⊳ v ⋯ u) (variable_bits w k c)
    unfolding variable_bits
    first_group k v h f = from-here λ at. goes_on v _ (a-field w c v h) (f at)

    -- the groups before the last flag: those that follow the first leave fewer to be read
    in-groups : {Q : ℕ → Type 0} {u : Bits} (n k v : ℕ) → further n v ≤ k → v < most n
        → ((first j : ℕ) → k ≤ j + further n v → Reads Q u (later_groups w c first j v))
        → Reads Q (groups w n v ⋯ u) (variable_bits w k c)
    unfolding groups
    in-groups zero k v h l f = first_group k v l λ first. f first k (omega arith)
    in-groups {Q} {u} (suc n) k v h l f = go (ltb v (2 ^ w)) refl h f (in-groups {Q = Q} {u = one true ⋯ w ⊳ r ⋯ u} n k q)
      where
        q : ℕ
        q = (v - 2 ^ w) / 2 ^ w

        r : ℕ
        r = (v - 2 ^ w) % 2 ^ w

        go : (b : Bool) → ltb v (2 ^ w) ≡ b → cond b 0 (suc (further n q)) ≤ k
            → ((first j : ℕ) → k ≤ j + cond b 0 (suc (further n q)) → Reads Q u (later_groups w c first j v))
            → (further n q ≤ k → q < most n → ((first j : ℕ) → k ≤ j + further n q → Reads Q (one true ⋯ w ⊳ r ⋯ u) (later_groups w c first j q))
            → Reads Q (groups w n q ⋯ one true ⋯ w ⊳ r ⋯ u) (variable_bits w k c))
            → Reads Q (cond b (w ⊳ v) (groups w n q ⋯ one true ⋯ w ⊳ r) ⋯ u) (variable_bits w k c)
        go true t i f g = first_group k v (ltb-true v (2 ^ w) t) λ first. f first k (omega arith)
        go false t i f g =
            let m = ltb-false v (2 ^ w) t in
            rw (append_assoc (groups w n q) (one true ⋯ w ⊳ r) u) (g (omega arith) ((div-lt_iff_lt-mul (pow_pos w)).1 (omega arith)) on)
          where
            on : (first j : ℕ) → k ≤ j + further n q → Reads Q (one true ⋯ w ⊳ r ⋯ u) (later_groups w c first j q)
            on first zero z = absurd (omega arith)
            on first (suc j) z =
                later_more first j q r (mod-lt (v - 2 ^ w) (pow_pos w)) (rw (again v (ltb-false v (2 ^ w) t)) (f first j (omega arith)))

    pub a-variable : (n k v : ℕ) → v < most n → further n v ≤ k → Reads (Is v) (variable w n v) (variable_bits w k c)
    unfolding variable
    a-variable n k v h l = in-groups n k v l h λ first j z. later-end first j v
