-- The bits of a list of bytes: bit 0 is the highest of the first byte.
use Rattle.std.specs.Prelude.{ℕ, zero, suc, ◌+◌, ◌*◌, ◌-◌, ◌/◌, ◌%◌, ◌^◌, Bool, List, eqb, get_or}

unfoldable pub bit_at : List ℕ → ℕ → ℕ
bit_at s i = get_or s (i / 8) 0 / 2 ^ (7 - i % 8) % 2

-- the number that w bits from place p spell, the highest first
unfoldable pub field : List ℕ → ℕ → ℕ → ℕ
field s p zero = 0
field s p (suc w) = field s p w * 2 + bit_at s (p + w)

-- bit i of a number, from the lowest
unfoldable pub is_set : ℕ → ℕ → Bool
is_set i v = eqb (v / 2 ^ i % 2) 1

-- What computing opens

unfoldable pub computed : Unit {0}
unfolding bit_at field is_set
computed = tt
