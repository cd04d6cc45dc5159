-- Request Q-7, "Ramps over the frame edge": what is carried into a frame, and the timing test and the ramp choice by rule.
use Rattle.std.specs.Prelude.{ℕ, ◌+◌, ◌-◌, Bool, true, false, cond, ◌&&◌, List, [], ◌∷◌, ltb, eqb}
use Rattle.std.proofs.Math.Option.{Option, none, some}
use Rattle.standard.specs.Numbers.{frame_length, accepted, ordering, overlap, cross_frame}
use Rattle.standard.specs.Tree.{Timing}
use Rattle.standard.specs.Rows.{Row, eqℤ}
use Rattle.standard.specs.Timing.{end_of, rising, timing_test}
use Rattle.standard.specs.Ramps.{Choice, choice}

-- Rules

pub data Rule : Type 0 where
  rule1 : Rule  -- every ramp ends in its frame
  rule2 : Rule  -- the last block's ramp may end in a later one

-- by number; no other is known
unfoldable pub rule_of : ℕ → Option Rule
rule_of n = cond (eqb n 1) (some rule1) (cond (eqb n 2) (some rule2) none)

-- What is carried into a frame

-- the rows that a ramp comes from, one per object; what has elapsed of it at the frame's sample 0; and its duration.
-- It goes to the frame's start rows.
pub record Carried : Type 0 where
  pub rows : List Row
  pub elapsed : ℕ
  pub duration : ℕ

-- a duration of 0 says so
unfoldable pub nothing : Carried
nothing = record { rows = []; elapsed = 0; duration = 0 }

-- in samples of the frame
abbrev pub remains : Carried → ℕ
remains c = c.duration - c.elapsed

-- as many, and of one kind object by object
unfoldable pub kinds_agree : List Row → List Row → Bool
kinds_agree [] [] = true
kinds_agree [] (r ∷ rs) = false
kinds_agree (q ∷ qs) [] = false
kinds_agree (q ∷ qs) (r ∷ rs) = eqℤ q.kind r.kind && kinds_agree qs rs

-- a change of kinds drops it; rule 1 takes up nothing
unfoldable pub taken_up : Rule → Carried → List Row → Carried
taken_up rule1 c start = nothing
taken_up rule2 c start = cond (kinds_agree c.rows start) c nothing

-- The timing test

-- rule 2, per block; the ramp before it ends at n. No end is tested: the next start decides
unfoldable pub following : ℕ → List Timing → ℕ
following n [] = accepted
following n (t ∷ ts) =
    cond (ltb t.start n) overlap
    (cond (ltb frame_length t.start) cross_frame
    (following (end_of t) ts))

-- n samples of a carried ramp remain
unfoldable pub timing_by : Rule → ℕ → List Timing → ℕ
timing_by rule1 n ts = timing_test ts
timing_by rule2 n ts = cond (rising 0 ts) (following n ts) ordering

-- The choice at a sample

-- row 0 is the start row, and row b + 1 that of block b, at most 8
unfoldable pub carried_row : ℕ
carried_row = 9

-- of a carried ramp e samples have elapsed at sample 0, of d
unfoldable pub choice_by : Rule → ℕ → ℕ → ℕ → List Timing → Choice
choice_by rule1 e d sample ts = choice sample ts
choice_by rule2 e d sample ts =
    cond (ltb (e + sample) d) (record { from = carried_row; to = 0; elapsed = e + sample; duration = d }) (choice sample ts)

-- What goes over the frame's end

-- a ramp that ends past it; one that ends with the frame is over
unfoldable pub over_edge : List Row → Timing → Carried
over_edge rows t =
    cond (ltb frame_length (end_of t)) (record { rows = rows; elapsed = frame_length - t.start; duration = t.ramp }) nothing

-- through a frame without blocks, until it is over
unfoldable pub onward : Carried → Carried
onward c =
    let e = c.elapsed + frame_length in
    cond (ltb e c.duration) (record { rows = c.rows; elapsed = e; duration = c.duration }) nothing

unfoldable pub last_timing : Timing → List Timing → Timing
last_timing t [] = t
last_timing t (u ∷ ts) = last_timing u ts

-- rows: those before the last block
unfoldable pub carried_by : Rule → Carried → List Row → List Timing → Carried
carried_by rule1 c rows ts = nothing
carried_by rule2 c rows [] = onward c
carried_by rule2 c rows (t ∷ ts) = over_edge rows (last_timing t ts)

-- What computing opens

unfoldable pub computed : Unit {0}
unfolding rule_of nothing kinds_agree taken_up following timing_by carried_row choice_by over_edge onward last_timing carried_by
computed = tt
