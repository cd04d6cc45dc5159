-- The reads: a field, a flag, a run passed over, zero bits, and numbers of variable length. c is the context of a refusal.
use Rattle.std.specs.Prelude.{ℕ, zero, suc, ◌+◌, ◌*◌, ◌-◌, ◌^◌, Bool, true, false, cond, leb, ltb, eqb, ℤ, pos}
use Rattle.std.proofs.Math.IntN.{sub_ℕ}
use Rattle.bits.specs.Bits.{bit_at, field}
use Rattle.bits.specs.Parsed.{got, refused, Parser, ◌>>=◌, map_p, pure, refuse, refused_as, here, truncated, invalid, limit}

-- w bits as a number
unfoldable pub read : ℕ → ℕ → Parser ℕ
read w c = λ s e p. cond (leb (p + w) e) (got (field s p w) (p + w)) (refused (truncated c p w (e - p)))

unfoldable pub flag : ℕ → Parser Bool
flag c = map_p (λ v. eqb v 1) (read 1 c)

-- w bits passed over
unfoldable pub skip : ℕ → ℕ → Parser (Unit {0})
skip w c = λ s e p. cond (leb (p + w) e) (got tt (p + w)) (refused (truncated c p w (e - p)))

-- n zero bits
unfoldable pub zeros : ℕ → ℕ → Parser (Unit {0})
zeros c zero = pure tt
zeros c (suc n) = λ s e p. elim (eqb (bit_at s p) 0) [ true ↦ zeros c n s e (p + 1) | false ↦ refused (invalid c p) ]

-- zero bits up to the end
unfoldable pub padding : ℕ → Parser (Unit {0})
padding c = λ s e p. zeros c (e - p) s e p

-- a number of w bits, the highest of which counts as negative
unfoldable pub signed : ℕ → ℕ → ℤ
signed w v = cond (ltb v (2 ^ (w - 1))) (pos v) (sub_ℕ v (2 ^ w))

unfoldable pub read_signed : ℕ → ℕ → Parser ℤ
read_signed w c = map_p (signed w) (read w c)

-- a number of w bits, to whose largest value w' more bits are added
unfoldable pub extended : ℕ → ℕ → ℕ → ℕ → ℕ → Parser ℕ
extended w c largest w' c' = do
  v ← read w c
  cond (eqb v largest) (map_p (λ more. largest + more) (read w' c')) (pure v)

-- a count of bytes less 1 in 4 bits, and so many bytes passed over
unfoldable pub skip_bytes : ℕ → ℕ → Parser (Unit {0})
skip_bytes c c' = do
  n ← read 4 c
  skip ((n + 1) * 8) c'

-- Variable bits: groups of w bits, each with a flag that says whether another follows.
-- The number begins at `first`; the groups so far gave v, and n more may follow.
unfoldable pub later_groups : ℕ → ℕ → ℕ → ℕ → ℕ → Parser ℕ
later_groups w c first zero v = do
  more ← flag c
  cond more (refuse (limit c first)) (pure v)
later_groups w c first (suc n) v = do
  more ← flag c
  cond more
      (do
        next ← refused_as (limit c first) (read w c)
        later_groups w c first n (v * 2 ^ w + 2 ^ w + next))
      (pure v)

-- of at most n + 1 groups
unfoldable pub variable_bits : ℕ → ℕ → ℕ → Parser ℕ
variable_bits w n c = do
  first ← here
  v ← read w c
  later_groups w c first n v

-- What computing opens

unfoldable pub computed : Unit {0}
unfolding read flag skip zeros padding signed read_signed extended skip_bytes later_groups variable_bits
computed = tt
