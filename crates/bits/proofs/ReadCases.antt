-- Small reads, computed: what each gives and where each is refused.
use mathlib.Core.Path.{◌≡◌, refl}
use mathlib.Core.Bool.{true}
use mathlib.Core.List.{[], ◌∷◌}
use lib.IntN.{pos, negsuc}
use Rattle.bits.specs.Bits.{bit_at, field}
use Rattle.bits.specs.Parsed.{got, refused, ◌>>=◌, map_p, pure, refuse, refused_as, here, truncated, invalid, limit}
use Rattle.bits.specs.Reads.{read, flag, skip, zeros, padding, signed, read_signed, later_groups, variable_bits}

-- Fields

highest-first : read 3 7 (0xa0 ∷ []) 8 0 ≡ got 5 3
unfolding read field bit_at
highest-first = refl

across-bytes : read 10 7 (0x01 ∷ 0x80 ∷ []) 16 6 ≡ got 0x180 16
unfolding read field bit_at
across-bytes = refl

across-three : read 17 7 (0xfe ∷ 0x55 ∷ 0xaa ∷ []) 24 7 ≡ got 0x55aa 24
unfolding read field bit_at
across-three = refl

no_bits : read 0 7 [] 0 0 ≡ got 0 0
unfolding read field
no_bits = refl

cut_field : read 3 7 (0xa0 ∷ []) 8 6 ≡ refused (truncated 7 6 3 2)
unfolding read
cut_field = refl

set-flag : flag 7 (0x40 ∷ []) 8 1 ≡ got true 2
unfolding flag read map_p field bit_at
set-flag = refl

cut-run : skip 9 7 (0 ∷ []) 8 0 ≡ refused (truncated 7 0 9 8)
unfolding skip
cut-run = refl

least_step : read_signed 3 7 (0x80 ∷ []) 8 0 ≡ got (negsuc 3) 3
unfolding read_signed signed read map_p field bit_at
least_step = refl

greatest-step : read_signed 3 7 (0x60 ∷ []) 8 0 ≡ got (pos 3) 3
unfolding read_signed signed read map_p field bit_at
greatest-step = refl

-- Padding

zero_bits : padding 7 (0xc0 ∷ 0 ∷ []) 16 2 ≡ got tt 16
unfolding padding zeros pure bit_at
zero_bits = refl

first_one : padding 7 (0 ∷ 0x28 ∷ []) 16 3 ≡ refused (invalid 7 10)
unfolding padding zeros bit_at
first_one = refl

-- A size in groups of 4 bits: 3 and no more; 3, more, 1 and no more

one-group : variable_bits 4 3 9 (0x30 ∷ []) 8 0 ≡ got 3 5
unfolding variable_bits later_groups ◌>>=◌ here flag read map_p pure refuse refused_as field bit_at
one-group = refl

two-groups : variable_bits 4 3 9 (0x38 ∷ 0x80 ∷ []) 16 0 ≡ got 65 10
unfolding variable_bits later_groups ◌>>=◌ here flag read map_p pure refuse refused_as field bit_at
two-groups = refl

-- a group cut after the first is Limit, where the size begins
cut-later-group : variable_bits 4 3 9 (0x38 ∷ []) 8 0 ≡ refused (limit 9 0)
unfolding variable_bits later_groups ◌>>=◌ here flag read map_p pure refuse refused_as field bit_at
cut-later-group = refl

-- so is a fifth group
fifth-group : variable_bits 4 3 9 (0x08 ∷ 0x42 ∷ 0x10 ∷ 0x80 ∷ []) 32 0 ≡ refused (limit 9 0)
unfolding variable_bits later_groups ◌>>=◌ here flag read map_p pure refuse refused_as field bit_at
fifth-group = refl

-- a cut first group or more flag is Truncated where that read begins
cut-first-group : variable_bits 4 3 9 (0x38 ∷ []) 8 5 ≡ refused (truncated 9 5 4 3)
unfolding variable_bits later_groups ◌>>=◌ here flag read map_p pure refuse refused_as field bit_at
cut-first-group = refl

cut-more-flag : variable_bits 4 3 9 (0x03 ∷ []) 8 4 ≡ refused (truncated 9 8 1 0)
unfolding variable_bits later_groups ◌>>=◌ here flag read map_p pure refuse refused_as field bit_at
cut-more-flag = refl
