-- A mark's bits as the code has them: joined by `|`, and cut to five.
use Prim.Native.Nat.{ℕ, zero, suc, ◌+◌, ◌*◌, ◌/◌, ◌%◌, ◌^◌, ◌≤◌}
use mathlib.Core.Path.{◌≡◌, refl, sym, ◌∙◌, ap}
use mathlib.Core.Bool.{Bool, true, false, cond, ◌||◌}
use native.Mathlib.Omega.{arith}
use lib.Bits.{bit_or, or_shr, or_mod}
use lib.Dec.{eqb}
use lib.IntN.{ℤ, pos, negsuc, nat_abs}
use mir.Val.{bool_byte}
use Rattle.std.specs.Prelude.{Option, Some, None, is_some}
use Rattle.std.specs.Int.{int_max}
use Rattle.std.proofs.lemmas.Int.{ints, clamps}
use Rattle.standard.specs.Tree.{Render, given}
use Rattle.standard.specs.Rows.{Group, its_position, its_zone, its_size, its_screen, its_lock}
use Rattle.standard.specs.Marks as marks
use Rattle.standard.specs.Marks.{marked, bits_of, settles, new_mark, absolutely_said}
use Rattle.rows.specs.Say.{zone_said, size_said}
use Rattle.update.specs.declared.words.Placed.{Placed}
use Rattle.update.specs.declared.words.Groups.{Groups}
use Rattle.update.specs.Say.{number_said, asked_said, groups_said}
use Rattle.standard.proofs.MarkLaws.{mark-none, bits-same, bits_back}

-- one bit
or-digit : (a b : ℕ) → eqb (bit_or a b % 2) 1 ≡ (eqb (a % 2) 1 || eqb (b % 2) 1)
or-digit a b = rw (or_mod a b 1) (go (a % 2) (b % 2) (omega arith) (omega arith))
  where
    go : (x y : ℕ) → x ≤ 1 → y ≤ 1 → eqb (bit_or x y) 1 ≡ (eqb x 1 || eqb y 1)
    go zero zero h k = refl
    go zero (suc zero) h k = refl
    go (suc zero) zero h k = refl
    go (suc zero) (suc zero) h k = refl
    go zero (suc (suc y)) h k = absurd (omega arith)
    go (suc zero) (suc (suc y)) h k = absurd (omega arith)
    go (suc (suc x)) y h k = absurd (omega arith)

or-bit : (k a b : ℕ) → eqb (bit_or a b / 2 ^ k % 2) 1 ≡ (eqb (a / 2 ^ k % 2) 1 || eqb (b / 2 ^ k % 2) 1)
or-bit k a b = rw (or_shr a b k) (or-digit (a / 2 ^ k) (b / 2 ^ k))

or-marked : (g : Group) (a b : ℕ) → marked g (pos (bit_or a b)) ≡ (marked g (pos a) || marked g (pos b))
unfolding marked
or-marked its_position a b = or-bit 0 a b
or-marked its_zone a b = or-bit 1 a b
or-marked its_size a b = or-bit 2 a b
or-marked its_screen a b = or-bit 3 a b
or-marked its_lock a b = or-bit 4 a b

-- m is a mark with the bits of b
pub joined-bits : (a b : ℕ) (m : ℤ) → ((g : Group) → marked g (pos b) ≡ marked g m) → bit_or a b % 32 ≡ bits_of (λ g. marked g (pos a) || marked g m)
joined-bits a b m h =
    sym (bits_back (bit_or a b)) ∙ bits-same (λ g. marked g (pos (bit_or a b))) (λ g. marked g (pos a) || marked g m) (λ g. or-marked g a b ∙ ap (λ x. marked g (pos a) || x) (h g))

-- n has the bits of what a word settles
pub word-bits : (r : Render) (n : ℕ) (m : ℤ) → ((g : Group) → marked g (pos n) ≡ settles g r) → pos (bits_of (λ g. marked g (pos n) || marked g m)) ≡ new_mark r m
unfolding new_mark
word-bits r n m h = ap pos (bits-same (λ g. marked g (pos n) || marked g m) (λ g. settles g r || marked g m) (λ g. ap (λ x. x || marked g m) (h g)))

-- The bits of the groups that are said

flag-times : (b : Bool) (n : ℕ) → bool_byte b * n ≡ cond b n 0
flag-times true n = omega arith
flag-times false n = omega arith

some-said : {A B : Type 0} (say : A → B) (o : Option (Placed A)) → marks.is_some (asked_said say o) ≡ is_some o
some-said say None = refl
some-said say (Some w) = refl

pub group-bits : (w : Groups) →
    bool_byte (absolutely_said (groups_said w).position) * 1 + bool_byte (is_some w.zone) * 2 + bool_byte (is_some w.size) * 4 + bool_byte (is_some w.screen) * 8 + 16
    ≡ bits_of (λ g. settles g (given (groups_said w)))
unfolding bits_of settles
group-bits w =
    rw (
      flag-times (absolutely_said (groups_said w).position) 1,
      flag-times (is_some w.zone) 2,
      flag-times (is_some w.size) 4,
      flag-times (is_some w.screen) 8,
      some-said zone_said w.zone,
      some-said size_said w.size,
      some-said number_said w.screen,
    )

-- A number below 0 has no bits, and any other its own
largest : (n : ℕ) → int_max (pos n) (pos 0) ≡ pos n
largest n = omega (arith, ints, clamps)

pub own-marked : (z : ℤ) (g : Group) → marked g (pos (nat_abs (int_max z (pos 0)))) ≡ marked g z
unfolding marked
own-marked (pos n) g = ap (λ z. marked g (pos (nat_abs z))) (largest n)
own-marked (negsuc n) g = mark-none g
