-- How numbers stand in bits, and bits in bytes.
use Rattle.std.specs.Prelude.{ℕ, zero, suc, ◌+◌, ◌*◌, ◌-◌, ◌/◌, ◌%◌, ◌^◌, Bool, true, false, cond, List, [], ◌∷◌, ◌++◌, eqb, ltb, length, get_or, drop}

abbrev pub Bits : Type 0
Bits = List Bool

abbrev pub digit : Bool → ℕ
digit b = cond b 1 0

-- one bit
abbrev pub one : Bool → Bits
one b = b ∷ []

-- bits and what follows them, grouped to the right as readings in a row are
infixr 60 ◌⋯◌
abbrev pub ◌⋯◌ : Bits → Bits → Bits
u ⋯ w = u ++ w

-- v in w bits, the highest first; of a larger number its lowest w
infix 70 ◌⊳◌
unfoldable pub ◌⊳◌ : ℕ → ℕ → Bits
zero ⊳ v = []
suc w ⊳ v = w ⊳ (v / 2) ⋯ one (eqb (v % 2) 1)

module _ {K : Type 0} where
  -- each of a list
  unfoldable pub spread : (K → Bits) → List K → Bits
  spread f [] = []
  spread f (k ∷ ks) = f k ⋯ spread f ks

-- A number of variable length: groups of w bits with a flag behind each that says whether another follows.

-- of at most n + 1 groups, without the last flag
unfoldable pub groups : ℕ → ℕ → ℕ → Bits
groups w zero v = w ⊳ v
groups w (suc n) v = cond (ltb v (2 ^ w)) (w ⊳ v) (groups w n ((v - 2 ^ w) / 2 ^ w) ⋯ one true ⋯ w ⊳ ((v - 2 ^ w) % 2 ^ w))

unfoldable pub variable : ℕ → ℕ → ℕ → Bits
variable w n v = groups w n v ⋯ one false

-- Bytes

-- the number of the first n bits; a bit past the end is 0
unfoldable pub spelled : ℕ → Bits → ℕ
spelled zero w = 0
spelled (suc n) w = spelled n w * 2 + digit (get_or w n false)

-- the first n bytes
unfoldable pub bytes : ℕ → Bits → List ℕ
bytes zero w = []
bytes (suc n) w = spelled 8 w ∷ bytes n (drop 8 w)

-- how many bytes the bits take
unfoldable pub byte_count : Bits → ℕ
byte_count w = (length w + 7) / 8

-- all of them, the last byte filled with zeros
unfoldable pub packed : Bits → List ℕ
packed w = bytes (byte_count w) w

-- What computing opens

unfoldable pub computed : Unit {0}
unfolding ◌⊳◌ spread groups variable spelled bytes byte_count packed
computed = tt
