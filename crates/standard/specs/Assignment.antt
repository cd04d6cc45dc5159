-- The specification, section 7, "Reading order", from the version to the program assignment: the kinds of a payload's objects.
use Rattle.std.specs.Prelude.{ℕ, ◌+◌, ◌-◌, ◌/◌, cond, List, [], ◌∷◌, ◌++◌, leb, eqb, length, get_or, replicate}
use Rattle.bits.specs.Bits.{is_set}
use Rattle.bits.specs.Parsed.{Parser, ◌>>=◌, ◌>>◌, map_p, pure, times, here, require, invalid, limit, unsupported}
use Rattle.bits.specs.Reads.{read, flag, extended, skip_bytes}
use Rattle.standard.specs.Numbers.{object_limit}
use Rattle.standard.specs.Tree.{Kind, lfe, bed, isf, dynamic}
use Rattle.standard.specs.Contexts as context

unfoldable pub version : Parser (Unit {0})
version = do
  at ← here
  v ← extended 2 context.version 3 3 context.extended-version
  require (eqb v 0) (unsupported context.version at)

-- the count is coded less 1
unfoldable pub object_count : Parser ℕ
object_count = do
  at ← here
  v ← extended 5 context.object-count 31 7 context.extended-object-count
  require (leb (v + 1) object_limit) (limit context.object-count at)
  pure (v + 1)

-- dynamic-only: all are Dynamic, but the first may be an Lfe
unfoldable pub only_dynamic : ℕ → Parser (List Kind)
only_dynamic count =
    map_p (λ low. cond low (lfe ∷ replicate (count - 1) dynamic) (replicate count dynamic)) (flag context.LFE-present-flag)

-- Beds

-- of a list of channel sets, those whose bits are set in v, from the lowest
unfoldable pub chosen : List (List Kind) → ℕ → List Kind
chosen [] v = []
chosen (g ∷ gs) v = cond (is_set 0 v) g [] ++ chosen gs (v / 2)

-- widths 1,2,2,2,2,2,2,1,1,2; bits 0 and 7 are Lfe
unfoldable pub standard_beds : List (List Kind)
standard_beds =
    let one = bed ∷ [] in
    let two = bed ∷ bed ∷ [] in
    (lfe ∷ []) ∷ two ∷ two ∷ two ∷ two ∷ two ∷ two ∷ (lfe ∷ []) ∷ one ∷ two ∷ []

-- 17 of width 1; bits 0 and 13 are Lfe
unfoldable pub nonstandard_beds : List (List Kind)
nonstandard_beds = (lfe ∷ []) ∷ replicate 12 (bed ∷ []) ++ (lfe ∷ []) ∷ replicate 3 (bed ∷ [])

unfoldable pub one_bed : Parser (List Kind)
one_bed = do
  lfe_only ← flag context.LFE-only-bed-flag
  cond lfe_only (pure (lfe ∷ [])) do
    standard ← flag context.standard-bed-assignment-flag
    cond standard
        (map_p (chosen standard_beds) (read 10 context.standard-bed-assignment))
        (map_p (chosen nonstandard_beds) (read 17 context.nonstandard-bed-assignment))

unfoldable pub joined : List (List Kind) → List Kind
joined [] = []
joined (k ∷ ks) = k ++ joined ks

unfoldable pub beds : Parser (List Kind)
beds = do
  flag context.bed-channel-distribution-flag
  multiple ← flag context.multiple-bed-instances-flag
  count ← cond multiple (map_p (λ n. n + 2) (read 3 context.bed-instance-count)) (pure 1)
  map_p joined (times count one_bed)

-- Intermediate spatial formats

unfoldable pub isf_counts : List ℕ
isf_counts = 4 ∷ 8 ∷ 10 ∷ 14 ∷ 15 ∷ 30 ∷ []

unfoldable pub isfs : Parser (List Kind)
isfs = do
  at ← here
  format ← read 3 context.intermediate-spatial-format-index
  require (leb format 5) (invalid context.intermediate-spatial-format-index at)
  pure (replicate (get_or isf_counts format 0) isf)

-- in two parts as the object count, with 159 as the most
unfoldable pub dynamics : Parser (List Kind)
dynamics = map_p (λ v. replicate (v + 1) dynamic) (extended 5 context.dynamic-object-count 31 7 context.extended-dynamic-object-count)

-- The content, from its highest bit: beds, spatial formats, Dynamic objects, reserved data
unfoldable pub contents : Parser (List Kind)
contents = do
  content ← read 4 context.content-description
  b ← cond (is_set 3 content) beds (pure [])
  i ← cond (is_set 2 content) isfs (pure [])
  d ← cond (is_set 1 content) dynamics (pure [])
  cond (is_set 0 content) (skip_bytes context.reserved-data-size context.program-assignment-reserved-data) (pure tt)
  pure (b ++ i ++ d)

unfoldable pub assignment : ℕ → Parser (List Kind)
assignment count = do
  at ← here
  dynamic_only ← flag context.dynamic-only-program-flag
  cond dynamic_only (only_dynamic count) do
    kinds ← contents
    require (eqb (length kinds) count) (invalid context.program-assignment-object-count at)
    pure kinds

-- What computing opens

unfoldable pub computed : Unit {0}
unfolding version object_count only_dynamic chosen standard_beds nonstandard_beds one_bed joined beds isf_counts isfs dynamics contents assignment
computed = tt
