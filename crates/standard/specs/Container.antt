-- The metadata container of ETSI TS 102 366, Annex H, as docs/CONTAINER.md condenses it: from its version field to its first object payload.
use Rattle.std.specs.Prelude.{ℕ, zero, suc, ◌+◌, ◌*◌, ◌-◌, ◌^◌, Bool, cond, not, List, leb, eqb}
use Rattle.bits.specs.Parsed.{Parser, ◌>>=◌, ◌>>◌, map_p, pure, refuse, refused_as, times, require}
use Rattle.bits.specs.Reads as reads
use Rattle.standard.specs.Numbers.{payload_limit, size, ends_early, other_version, no_object, alone}

abbrev pub object_id : ℕ
object_id = 11

-- Fields: of one that the container's end cuts, that alone is said

module _ {A : Type 0} where
  unfoldable pub or_ends_early : Parser A → Parser A
  or_ends_early m = refused_as (alone ends_early) m

unfoldable pub bits : ℕ → Parser ℕ
bits w = or_ends_early (reads.read w 0)

unfoldable pub flag : Parser Bool
flag = or_ends_early (reads.flag 0)

unfoldable pub pass : ℕ → Parser (Unit {0})
pass w = or_ends_early (reads.skip w 0)

-- Variable bits without a limit on groups: each takes a bit at least, so no more can follow than there are bits left.
unfoldable pub variable : ℕ → Parser ℕ
variable w = λ s e p. or_ends_early (reads.variable_bits w (e - p) 0) s e p

-- w bits; to their largest value, all ones, variable bits of that width are added
unfoldable pub extended : ℕ → Parser ℕ
extended w = do
  v ← bits w
  cond (eqb v (2 ^ w - 1)) (map_p (λ more. v + more) (variable w)) (pure v)

-- A payload's config, passed over

unfoldable pub passed : Parser ℕ → Parser (Unit {0})
passed m = map_p (λ n. tt) m

unfoldable pub if_set : Bool → Parser (Unit {0}) → Parser (Unit {0})
if_set b m = cond b m (pure tt)

-- a flag, and m where it is set
unfoldable pub flagged : Parser (Unit {0}) → Parser (Unit {0})
flagged m = do
  present ← flag
  if_set present m

-- 5 bits of priority and 2 of processing allowed: of a payload with a sample offset, or else of one that a flag says is aligned
-- to its frame, behind two duplicate flags
unfoldable pub handling : Bool → Parser (Unit {0})
handling offset = cond offset (pass (5 + 2)) (flagged (pass (1 + 1 + 5 + 2)))

unfoldable pub after_offset : Bool → Parser (Unit {0})
after_offset offset = do
  flagged (passed (variable 11))  -- duration
  flagged (passed (variable 2))  -- group
  flagged (pass 8)  -- codec data
  discard_unknown ← flag
  if_set (not discard_unknown) (handling offset)

unfoldable pub config : Parser (Unit {0})
config = do
  offset ← flag
  if_set offset (pass (11 + 1))  -- the offset, and one bit reserved
  after_offset offset

-- The list of payloads

pub record Header : Type 0 where
  pub id : ℕ
  pub size : ℕ  -- in bytes

-- id 0 ends the list
unfoldable pub header : Parser Header
header = do
  id ← extended 5
  require (not (eqb id 0)) (alone no_object)
  config
  n ← variable 8
  pure (record { id = id; size = n })

-- n payloads at most, up to the first bit of the first object payload: its size
unfoldable pub object_among : ℕ → Parser ℕ
object_among zero = refuse (alone ends_early)
object_among (suc n) = do
  h ← header
  cond (eqb h.id object_id) (pure h.size)
      (do
        pass (h.size * 8)
        object_among n)

-- each takes a bit at least, too
unfoldable pub first_object : Parser ℕ
first_object = λ s e p. object_among (e - p) s e p

-- from the version on
unfoldable pub opening : Parser ℕ
opening = do
  version ← extended 2
  require (eqb version 0) (alone other_version)
  passed (extended 3)  -- key id
  first_object

-- the bytes of the first object payload, where reading stops; its size is tested before they are sought
unfoldable pub container : Parser (List ℕ)
container = do
  n ← opening
  require (leb n payload_limit) (alone size)
  times n (bits 8)

-- What computing opens

unfoldable pub computed : Unit {0}
unfolding or_ends_early bits flag pass variable extended passed if_set flagged handling after_offset config header object_among first_object opening container
computed = tt
