-- The f32 numbers that are handed back: the toolchain's IEEE definitions.
use Rattle.std.specs.Prelude.{ℕ, true, false, ℤ, pos, Float}
use Rattle.std.specs.Float.{fin, binary32}
use Rattle.std.specs.Float.Ieee.{div, of_int}

-- 0
abbrev pub nought : Float
nought = fin false 0 (pos 0)

-- 1
abbrev pub one : Float
one = fin false 1 (pos 0)

-- -1
abbrev pub minus_one : Float
minus_one = fin true 1 (pos 0)

-- z / n in one f32 division
abbrev pub ratio : ℤ → ℕ → Float
ratio z n = div binary32 (of_int binary32 z) (of_int binary32 (pos n))
