-- Cases of the lent tables: too short, out of form, too long a payload, what is written and what is left, and that a timing refusal undoes nothing.
use Prim.Native.Nat.{ℕ, ◌+◌, ◌*◌, ◌-◌}
use mathlib.Core.Path.{◌≡◌, refl}
use mathlib.Core.Bool.{Bool, true, false, not, ◌&&◌, false≢true}
use mathlib.Core.List.{List, [], ◌∷◌, ◌++◌}
use lib.Dec.{T}
use lib.IntN.{ℤ, pos}
use lib.ListN.{length, take, replicate, set}
use Rattle.bits.proofs.Always.{All}
use Rattle.standard.specs.Numbers.{row_width, object_limit, retained_length, start_length, blocks_length, timings_length, payload_limit, silence, kind_at, active_at, gain_at, priority_at, x_at, y_at, z_at, width_at, depth_at, height_at, screen_at, lock_at, zone_at, elevation_at, distance_at, mark_at}
use Rattle.standard.specs.Numbers as number
use Rattle.standard.specs.Contexts as context
use Rattle.standard.specs.Tree.{Kind, lfe, bed, isf, dynamic, kind_code}
use Rattle.standard.specs.Rows.{Row}
use Rattle.standard.specs.Tables.{row_numbers, rows_numbers, in_form}
use Rattle.standard.specs.Calls.{Lent, over, has_room, decode, timing_call}
use Rattle.standard.specs.Journal.{fresh_tables}
use Rattle.standard.specs.Cases.{plain_row, refuses, refused_tables, accepted_tables, all_hold}
use Rattle.standard.proofs.Small.{and_left, and_right}
use Rattle.standard.proofs.Refusals.{Untouched, without-room, out-of-form, too_long}
use Rattle.standard.proofs.cases.Writer.{◌⊳◌, said, block, timed, unity, place, first, rest_one, neg, row, on_row, off_row, default_of, inactive_of, far, written}

-- 5: each table short by one number, whatever the payload

-- zeros in the retained table, sevens in the others
unfoldable pub lengths : ℕ → ℕ → ℕ → ℕ → Lent
lengths r s b t = record { retained = replicate r (pos 0); start = replicate s (pos 7); blocks = replicate b (pos 7); timings = replicate t 7 }

pub short-tables : (s : List ℕ)
    → Untouched 5 s (lengths (retained_length - 1) start_length blocks_length timings_length)
    × Untouched 5 s (lengths retained_length (start_length - 1) blocks_length timings_length)
    × Untouched 5 s (lengths retained_length start_length (blocks_length - 1) timings_length)
    × Untouched 5 s (lengths retained_length start_length blocks_length (timings_length - 1))
unfolding written lengths
short-tables s = (without-room s _ refl, without-room s _ refl, without-room s _ refl, without-room s _ refl)

pub long-tables : has_room (lengths retained_length start_length blocks_length timings_length) ≡ true
unfolding written lengths
long-tables = refl

-- 6: each sentence of the form broken, whatever the payload

-- a retained table that begins with these numbers
unfoldable pub holding : List ℤ → Lent
holding l = record { retained = over l (replicate retained_length (pos 0)); start = replicate start_length (pos 7); blocks = replicate blocks_length (pos 7); timings = replicate timings_length 7 }

-- these rows, no doubt
abbrev rows : List Row → List ℤ
rows rs = pos (length rs) ∷ pos 0 ∷ rows_numbers rs

abbrev one : Row → List ℤ
one r = rows (r ∷ [])

-- the default row of a kind, of a Dynamic, with one of its numbers changed

abbrev altered_of : Kind → ℕ → ℤ → List ℤ
altered_of k at v = pos 1 ∷ pos 0 ∷ set (row_numbers (default_of (kind_code k) 31)) at v

abbrev altered : ℕ → ℤ → List ℤ
altered at v = altered_of dynamic at v

unfoldable pub broken : List (List ℤ)
broken =
    -- counts outside 0 to 128
    rows (replicate 129 (default_of 3 31)) ∷ (neg 1 ∷ pos 0 ∷ row_numbers (default_of 3 31))
    -- kinds outside 0 to 3; flags and a doubt that are neither 0 nor 1; marks outside 0 to 31
    ∷ altered kind_at (pos 4) ∷ altered kind_at (neg 1) ∷ altered active_at (pos 2) ∷ altered screen_at (pos 2) ∷ altered lock_at (pos 2) ∷ altered elevation_at (pos 2) ∷ altered mark_at (pos 32) ∷ altered mark_at (neg 1)
    ∷ (pos 0 ∷ pos 2 ∷ []) ∷ (pos 0 ∷ neg 1 ∷ [])
    -- gains outside -49 to 15 that are not -128; priorities outside 0 to 32
    ∷ altered gain_at (pos 16) ∷ altered gain_at (neg 50) ∷ altered gain_at (neg 127) ∷ altered gain_at (neg 129) ∷ altered priority_at (pos 33) ∷ altered priority_at (neg 1)
    -- x and y outside 0 to 62, z outside -15 to 15
    ∷ altered x_at (pos 63) ∷ altered x_at (neg 1) ∷ altered y_at (pos 63) ∷ altered y_at (neg 1) ∷ altered z_at (pos 16) ∷ altered z_at (neg 16)
    -- distances outside 0 to 17
    ∷ altered distance_at (pos 18) ∷ altered distance_at (neg 1)
    -- sizes outside 0 to 31, zones outside 0 to 5
    ∷ altered width_at (pos 32) ∷ altered depth_at (pos 32) ∷ altered height_at (pos 32) ∷ altered height_at (neg 1) ∷ altered zone_at (pos 6) ∷ altered zone_at (neg 1)
    -- at rest with a priority, and with a gain
    ∷ one (plain_row (pos 3) (pos 0) silence (pos 1) (pos 31) (pos 31) (pos 0) (pos 31)) ∷ one (plain_row (pos 3) (pos 0) (pos 0) (pos 0) (pos 31) (pos 31) (pos 0) (pos 31))
    -- fixed kinds whose picture is not the default: each number of it, of a Bed,
    ∷ altered_of bed x_at (pos 30) ∷ altered_of bed y_at (pos 30) ∷ altered_of bed z_at (pos 1)
    ∷ altered_of bed width_at (pos 1) ∷ altered_of bed depth_at (pos 1) ∷ altered_of bed height_at (pos 1)
    ∷ altered_of bed screen_at (pos 1) ∷ altered_of bed lock_at (pos 1) ∷ altered_of bed zone_at (pos 1) ∷ altered_of bed elevation_at (pos 0) ∷ altered_of bed distance_at (pos 17)
    -- of an Lfe and an Isf; and such that have not every group settled
    ∷ altered_of lfe x_at (pos 30) ∷ altered_of isf x_at (pos 30)
    ∷ one (default_of 0 0) ∷ one (default_of 1 0) ∷ one (default_of 2 0) ∷ one (default_of 0 15) ∷ one (default_of 1 30) ∷ one (default_of 2 1)
    -- in any row
    ∷ rows (default_of 3 31 ∷ on_row (pos 0) 32 63 31 (pos 0) 31 ∷ []) ∷ []

-- the ends of every range
unfoldable pub whole : List (List ℤ)
whole =
    (pos 0 ∷ pos 1 ∷ []) ∷ rows (replicate 128 (default_of 3 31))
    ∷ one (default_of 0 31) ∷ one (default_of 1 31) ∷ one (default_of 2 31) ∷ one (inactive_of 0 31) ∷ one (inactive_of 3 0) ∷ altered mark_at (pos 1) ∷ altered mark_at (pos 30)
    ∷ altered gain_at (pos 15) ∷ altered gain_at (neg 49) ∷ altered gain_at (neg 128) ∷ altered priority_at (pos 0)
    ∷ altered x_at (pos 0) ∷ altered x_at (pos 62) ∷ altered y_at (pos 0) ∷ altered y_at (pos 62) ∷ altered z_at (pos 15) ∷ altered z_at (neg 15) ∷ altered distance_at (pos 1) ∷ altered distance_at (pos 17)
    ∷ one (row 1 (pos 0) 32 0 0 (pos 0) 31 31 31 1 1 5 0 0)
    -- what lies behind the count is not looked at
    ∷ (one (default_of 3 31) ++ replicate row_width (pos 99)) ∷ []

unfoldable pub is_broken : List ℤ → Bool
is_broken l = let t = holding l in has_room t && not (in_form t.retained)

unfoldable pub all_broken : List (List ℤ) → Bool
all_broken [] = true
all_broken (l ∷ ls) = is_broken l && all_broken ls

unfoldable pub all_whole : List (List ℤ) → Bool
all_whole [] = true
all_whole (l ∷ ls) = in_form (holding l).retained && all_whole ls

refused : (s : List ℕ) (ls : List (List ℤ)) → all_broken ls ≡ true → All (λ l. Untouched number.form s (holding l)) ls
unfolding all_broken is_broken
refused s [] h = tt
refused s (l ∷ ls) h =
    let b = and_left _ (all_broken ls) h in
    (out-of-form s (holding l) (and_left _ _ b) (not_so _ (and_right (has_room (holding l)) _ b)), refused s ls (and_right (is_broken l) _ h))
  where
    not_so : (b : Bool) → not b ≡ true → b ≡ false
    not_so true e = absurd (false≢true e)
    not_so false e = refl

pub broken-tables : (s : List ℕ) → All (λ l. Untouched 6 s (holding l)) broken
unfolding written broken holding is_broken all_broken
broken-tables s = refused s broken refl

pub whole-tables : T (all_whole whole)
unfolding written whole holding all_whole
whole-tables = tt

-- 7: a payload one byte too long, whatever tables are lent

pub long-payload : (l : Lent) → has_room l ≡ true → in_form l.retained ≡ true → Untouched 7 (replicate (payload_limit + 1) 0) l
unfolding written
long-payload l h k = too_long (replicate (payload_limit + 1) 0) l h k refl

-- the longest is read
pub longest-payload : T (all_hold far (refuses [] (replicate payload_limit 0) 2 context.program-assignment-object-count 7 0 ∷ []))
unfolding written
longest-payload = tt

-- Sevens behind the retained count are not looked at. Acceptance writes zeros there, and a refusal leaves them

unfoldable pub sevens : Lent
sevens = holding (pos 0 ∷ pos 0 ∷ replicate (row_width * object_limit) (pos 7))

pub accepted-leaves : (decode rest_one sevens).lent ≡ accepted_tables sevens 1 1 (default_of 3 31 ∷ []) (off_row 31 31 (pos 0) 31 ∷ []) (0 ∷ 0 ∷ [])
unfolding written holding sevens
accepted-leaves = refl

pub refused-leaves : (decode [] sevens).lent ≡ refused_tables sevens
unfolding written holding sevens
refused-leaves = refl

-- The timing call comes when the frame is already retained

-- a block that starts at 1,568
abbrev late : List ℕ
late = said 1 (timed (2 ⊳ 0) (block 49 (2 ⊳ 0) ∷ []) ++ first unity (place 10 20 1 5))

-- One payload: it is accepted, the timing call gives 10, and the next one starts from the row that it left. Of every payload that is accepted
-- `retains` says what is retained, and asks nothing of its timings
pub timing-refusal-undoes-nothing : ((decode late fresh_tables).answer.verdict.number ≡ 0)
    × (timing_call (decode late fresh_tables).lent.timings 1 ≡ 10)
    × (take row_width (decode rest_one (decode late fresh_tables).lent).lent.start ≡ row_numbers (on_row (pos 0) 32 10 20 (pos 5) 31))
unfolding written
timing-refusal-undoes-nothing = (refl, refl, refl)
