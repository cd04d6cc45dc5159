-- The specification, section 7, "Reading order", of the whole payload. It sees the payload alone.
use Rattle.std.specs.Prelude.{ℕ, zero, suc, ◌+◌, ◌*◌, ◌-◌, Bool, cond, not, List, [], ◌∷◌, leb, eqb, length, get_or}
use Rattle.std.proofs.Math.Option.{Option, none, some}
use Rattle.bits.specs.Parsed.{Parsed, Parser, ◌>>=◌, ◌>>◌, map_p, pure, refuse, within, times, each, here, the_end, go_to, require, truncated, invalid, limit, unsupported}
use Rattle.bits.specs.Reads.{read, flag, skip, padding, extended, variable_bits}
use Rattle.standard.specs.Numbers.{element_limit}
use Rattle.standard.specs.Tree.{Kind, Timing, Tree}
use Rattle.standard.specs.Assignment.{version, object_count, assignment}
use Rattle.standard.specs.Updates.{object}
use Rattle.standard.specs.Contexts as context

-- Objects

unfoldable pub sample_offsets : List ℕ
sample_offsets = 8 ∷ 16 ∷ 18 ∷ 24 ∷ []

unfoldable pub sample_offset : Parser ℕ
sample_offset = do
  at ← here
  code ← read 2 context.sample-offset-code
  cond (eqb code 0) (pure 0)
      (cond (eqb code 1) (map_p (λ i. get_or sample_offsets i 0) (read 2 context.sample-offset-index))
      (cond (eqb code 2) (read 5 context.sample-offset)
      (refuse (invalid context.sample-offset-code at))))

unfoldable pub ramp_durations : List ℕ
ramp_durations = 32 ∷ 64 ∷ 128 ∷ 256 ∷ 320 ∷ 480 ∷ 1000 ∷ 1001 ∷ 1024 ∷ 1600 ∷ 1601 ∷ 1602 ∷ 1920 ∷ 2000 ∷ 2002 ∷ 2048 ∷ []

-- 0, 512 and 1536 by code; by code 3 a flag, then one of the durations in 4 bits, or any in 11
unfoldable pub ramp : Parser ℕ
ramp = do
  code ← read 2 context.ramp-duration-code
  cond (eqb code 0) (pure 0)
      (cond (eqb code 1) (pure 512)
      (cond (eqb code 2) (pure 1536) do
        indexed ← flag context.indexed-ramp-duration-flag
        cond indexed (map_p (λ i. get_or ramp_durations i 0) (read 4 context.ramp-duration-index)) (read 11 context.ramp-duration)))

unfoldable pub timing : ℕ → Parser Timing
timing offset = do
  factor ← read 6 context.block-offset-factor
  r ← ramp
  pure (record { start = offset + factor * 32; ramp = r })

-- absent, or 5 zero bits
unfoldable pub reserved : Parser (Unit {0})
reserved = do
  absent ← flag context.reserved-data-not-present-flag
  cond absent (pure tt) do
    at ← here
    v ← read 5 context.object-element-reserved-data
    require (eqb v 0) (invalid context.object-element-reserved-data at)

unfoldable pub object_element : List Kind → Parser Tree
object_element kinds = do
  offset ← sample_offset
  m ← read 3 context.update-block-count
  ts ← times (m + 1) (timing offset)
  reserved
  os ← each (object m) kinds
  pure (record { timings = ts; objects = os })

-- Trim

unfoldable pub trim : ℕ → Parser (Unit {0})
trim count = do
  at ← here
  warp ← read 2 context.trim-warp-mode
  require (leb warp 1) (invalid context.trim-warp-mode at)
  at ← here
  zeros ← read 2 context.trim-reserved-bits
  require (eqb zeros 0) (invalid context.trim-reserved-bits at)
  at ← here
  mode ← read 2 context.global-trim-mode
  require (not (eqb mode 2)) (unsupported context.custom-trim-configuration at)
  require (not (eqb mode 3)) (invalid context.global-trim-mode at)
  disabling ← flag context.per-object-trim-disable-flag
  cond disabling (skip count context.per-object-trim-disable-flags) (pure tt)

-- Elements

unfoldable pub element_count : Parser ℕ
element_count = do
  at ← here
  n ← extended 4 context.element-count 15 5 context.extended-element-count
  require (leb n element_limit) (limit context.element-count at)
  pure n

-- in bytes, coded less 1, in at most 4 groups of 4 bits
unfoldable pub element_size : Parser ℕ
element_size = map_p (λ v. v + 1) (variable_bits 4 3 context.element-size)

-- only 0 is supported
unfoldable pub alternate : Bool → Parser (Unit {0})
alternate there =
    cond there
    (do
      at ← here
      v ← read 4 context.alternate-object-data-id
      require (eqb v 0) (unsupported context.alternate-object-data-type at))
    (pure tt)

-- The object element; `found` is an earlier one, and the id of this one stands at `at`
unfoldable pub once : ℕ → Option Tree → Parser Tree → Parser (Option Tree)
once at none m = map_p some m
once at (some t) m = refuse (invalid context.duplicate-object-element at)

-- id 1 holds objects, id 2 a trim; what others hold is free
unfoldable pub content : List Kind → ℕ → ℕ → Option Tree → Parser (Option Tree)
content kinds at id found =
    cond (eqb id 1)
    (do
      t ← once at found (object_element kinds)
      padding context.element-padding
      pure t)
    (cond (eqb id 2)
    (do
      trim (length kinds)
      padding context.element-padding
      pure found)
    (pure found))

unfoldable pub element : Bool → List Kind → Option Tree → Parser (Option Tree)
element alternated kinds found = do
  at ← here
  id ← read 4 context.element-id
  bytes ← element_size
  start ← here
  end ← the_end
  require (leb (start + bytes * 8) end) (truncated context.element start (bytes * 8) (end - start))
  t ← within (start + bytes * 8) do
    alternate alternated
    flag context.discard-unknown-element-flag
    content kinds at id found
  go_to (start + bytes * 8)
  pure t

unfoldable pub elements : ℕ → Bool → List Kind → Option Tree → Parser (Option Tree)
elements zero alternated kinds found = pure found
elements (suc n) alternated kinds found = do
  t ← element alternated kinds found
  elements n alternated kinds t

-- The payload

unfoldable pub present : Option Tree → Parser Tree
present none = do
  end ← the_end
  refuse (invalid context.missing-object-element end)
present (some t) = pure t

-- what follows the kinds
unfoldable pub body : List Kind → Parser Tree
body kinds = do
  alternated ← flag context.alternate-object-data-flag
  n ← element_count
  t ← elements n alternated kinds none
  padding context.payload-padding
  present t

unfoldable pub payload : Parser Tree
payload = do
  version
  kinds ← object_count >>= assignment
  body kinds

unfoldable pub syntax : List ℕ → Parsed Tree
syntax s = payload s (length s * 8) 0

-- What computing opens

unfoldable pub computed : Unit {0}
unfolding sample_offsets sample_offset ramp_durations ramp timing reserved object_element trim element_count element_size alternate once content element elements present body payload syntax
computed = tt
