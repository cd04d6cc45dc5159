-- Bits that are written, computed.
use mathlib.Core.Path.{◌≡◌, refl}
use mathlib.Core.Bool.{true, false}
use mathlib.Core.List.{[], ◌∷◌}
use Rattle.writes.specs.Writes.{one, ◌⋯◌, ◌⊳◌, variable, packed, computed}

-- 65 in groups of 4 bits is 3, more, 1
pub two-groups : variable 4 1 65 ≡ 4 ⊳ 3 ⋯ one true ⋯ 4 ⊳ 1 ⋯ one false
unfolding computed
two-groups = refl

pub part-of-a-byte : packed (true ∷ false ∷ true ∷ []) ≡ 0xa0 ∷ []
unfolding computed
part-of-a-byte = refl
