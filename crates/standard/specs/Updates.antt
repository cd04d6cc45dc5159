-- The specification, section 7, "Reading order", of objects and blocks: what is said of one object in one block.
use Rattle.std.specs.Prelude.{ℕ, ◌+◌, ◌-◌, ◌^◌, min, Bool, true, false, cond, ◌∷◌, leb, eqb, ℤ, pos, neg_ℤ}
use Rattle.std.proofs.Math.Option.{none, some}
use Rattle.std.proofs.Math.IntN.{sub_ℕ}
use Rattle.bits.specs.Bits.{is_set}
use Rattle.bits.specs.Parsed.{Parser, ◌>>=◌, ◌>>◌, map_p, pure, refuse, times, optional, here, require, placed_at, placed, invalid}
use Rattle.bits.specs.Reads.{read, flag, read_signed, skip_bytes}
use Rattle.standard.specs.Numbers.{side_limit, zone_limit, infinity, priority_limit, silence}
use Rattle.standard.specs.Tree.{Kind, is_dynamic, Zone, Size, GainWord, level, copied, PointWord, absolute, moved, PositionWord, Basic, Groups, Render, default, kept, given, Update, inactive, active, Object}
use Rattle.standard.specs.Contexts as context

-- Basic information

-- 15 down to 1 for 0 to 14, and on from -1: no word says 0
unfoldable pub decibels : ℕ → ℤ
decibels w = cond (leb w 14) (sub_ℕ 15 w) (sub_ℕ 14 w)

-- by code: 0 dB, silence, a level, or copied
unfoldable pub gain_by : ℕ → Parser GainWord
gain_by code =
    cond (eqb code 0) (pure (level (pos 0)))
    (cond (eqb code 1) (pure (level silence))
    (cond (eqb code 2) (map_p (λ w. level (decibels w)) (read 6 context.object-gain))
    (pure copied)))

unfoldable pub gain_word : Parser GainWord
gain_word = do
  code ← read 2 context.object-gain-index
  gain_by code

-- in 32nds
unfoldable pub priority_word : Parser ℤ
priority_word = do
  usual ← flag context.default-object-priority-flag
  cond usual (pure (pos priority_limit)) (map_p pos (read 5 context.object-priority))

-- those of the two that the flags choose, the gain's first
unfoldable pub levels : ℕ → Parser Basic
levels flags = do
  g ← optional (is_set 1 flags) (placed gain_word)
  p ← optional (is_set 0 flags) (placed priority_word)
  pure (record { gain = g; priority = p })

-- which of n parts are said, by flags: status 1 says all, and 3 has a flag for each
unfoldable pub parts : ℕ → ℕ → ℕ → Parser ℕ
parts status n c = cond (eqb status 1) (pure (2 ^ n - 1)) (read n c)

-- Status 0 sets silence and priority 0, 1 says both, 2 keeps both, 3 says those of its two flags. It was read at `at`.
unfoldable pub basic : ℕ → ℕ → Parser Basic
basic at status =
    cond (eqb status 0) (pure (record { gain = some (placed_at at (level silence)); priority = some (placed_at at (pos 0)) }))
    (cond (eqb status 2) (pure (record { gain = none; priority = none })) do
      flags ← parts status 2 context.mixed-basic-info-flags
      levels flags)

-- Render information

-- three steps from -4 to 3
unfoldable pub differential : Parser PointWord
differential = do
  x ← read_signed 3 context.differential-X
  y ← read_signed 3 context.differential-Y
  z ← read_signed 3 context.differential-Z
  pure (moved (record { x = x; y = y; z = z }))

-- 63 is taken for 62; sign 1 is positive
unfoldable pub absolutely : Parser PointWord
absolutely = do
  x ← read 6 context.position-X
  y ← read 6 context.position-Y
  positive ← flag context.position-Z-sign
  z ← read 4 context.position-Z
  pure (absolute (record { x = pos (min x side_limit); y = pos (min y side_limit); z = cond positive (pos z) (neg_ℤ (pos z)) }))

-- 0 for none specified, 1 to 16 for a factor index, or infinity
unfoldable pub distance : Parser ℤ
distance = do
  specified ← flag context.object-distance-specified-flag
  cond specified
      (do
        infinite ← flag context.object-at-infinity-flag
        cond infinite (pure (pos infinity)) (map_p (λ index. pos (index + 1)) (read 4 context.distance-factor-index)))
      (pure (pos 0))

-- the first block has no differential flag; a distance follows in any case
unfoldable pub position_word : Bool → Parser PositionWord
position_word first = do
  d ← cond first (pure false) (flag context.differential-position-flag)
  w ← cond d differential absolutely
  n ← distance
  pure (record { point = w; distance = n })

-- a flag's number
unfoldable pub bit : Bool → ℤ
bit b = cond b (pos 1) (pos 0)

unfoldable pub zone_word : Parser Zone
zone_word = do
  at ← here
  n ← read 3 context.zone-constraints-index
  require (leb n zone_limit) (invalid context.zone-constraints-index at)
  elevated ← flag context.elevation-enabled-flag
  pure (record { zone = pos n; elevation = bit elevated })

unfoldable pub sized : ℕ → ℕ → ℕ → Size
sized w d h = record { width = pos w; depth = pos d; height = pos h }

-- width, depth and height
unfoldable pub three_sizes : Parser Size
three_sizes = do
  w ← read 5 context.object-width
  d ← read 5 context.object-depth
  h ← read 5 context.object-height
  pure (sized w d h)

-- by code, read at `at`: no size, one for width, depth and height, or three; in 31sts
unfoldable pub size_by : ℕ → ℕ → Parser Size
size_by at code =
    cond (eqb code 0) (pure (sized 0 0 0))
    (cond (eqb code 1) (map_p (λ n. sized n n n) (read 5 context.object-size))
    (cond (eqb code 2) three_sizes
    (refuse (invalid context.object-size-index at))))

unfoldable pub size_word : Parser Size
size_word = do
  at ← here
  code ← read 2 context.object-size-index
  size_by at code

-- a set flag has 3 and 2 bits behind it, read and dropped
unfoldable pub screen_word : Parser ℤ
screen_word = do
  on ← flag context.screen-reference-flag
  cond on
      (do
        read 3 context.screen-factor
        read 2 context.depth-factor-index
        pure (bit on))
      (pure (bit on))

-- the groups that the flags choose, and in any case the lock
unfoldable pub groups : Bool → ℕ → Parser Groups
groups first flags = do
  p ← optional (is_set 3 flags) (placed (position_word first))
  z ← optional (is_set 2 flags) (placed zone_word)
  n ← optional (is_set 1 flags) (placed size_word)
  s ← optional (is_set 0 flags) (placed screen_word)
  l ← placed (map_p bit (flag context.object-snap-flag))
  pure (record { position = p; zone = z; size = n; screen = s; lock = l })

-- Status 0 takes the default picture, 2 keeps the picture, 1 says every group, 3 those of its four flags. It was read at `at`.
unfoldable pub render : Bool → ℕ → ℕ → Parser Render
render first at status =
    cond (eqb status 0) (pure (default at))
    (cond (eqb status 2) (pure kept) do
      flags ← parts status 4 context.mixed-render-info-flags
      map_p given (groups first flags))

-- One object in one block

-- in block 0 the status is 1
unfoldable pub status : Bool → ℕ → Parser ℕ
status first c = cond first (pure 1) (read 2 c)

-- nothing is said of the picture of a fixed kind
unfoldable pub render_of : Kind → Bool → Parser Render
render_of k first =
    cond (is_dynamic k)
    (do
      at ← here
      s ← status first context.render-info-status
      render first at s)
    (pure kept)

unfoldable pub active_update : Kind → Bool → Parser Update
active_update k first = do
  at ← here
  s ← status first context.basic-info-status
  b ← basic at s
  r ← render_of k first
  pure (active b r)

unfoldable pub table_data : Parser (Unit {0})
table_data = do
  there ← flag context.additional-table-data-flag
  cond there (skip_bytes context.additional-table-data-size context.additional-table-data) (pure tt)

unfoldable pub update : Kind → Bool → Parser Update
update k first = do
  at ← here
  off ← flag context.object-not-active-flag
  u ← cond off (pure (inactive at)) (active_update k first)
  table_data
  pure u

-- an object in block 0 and m more
unfoldable pub object : ℕ → Kind → Parser Object
object m k = do
  u ← update k true
  later ← times m (update k false)
  pure (record { kind = k; updates = u ∷ later })

-- What computing opens

unfoldable pub computed : Unit {0}
unfolding decibels gain_by gain_word priority_word levels parts basic differential absolutely distance position_word bit zone_word sized three_sizes size_by size_word screen_word groups render status render_of active_update table_data update object
computed = tt
