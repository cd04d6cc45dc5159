-- The timing of a block, and of the last block of a frame, and the walk over a frame's blocks.
use Rattle.std.specs.Prelude.{ℕ, List, [], ◌∷◌, cond, ltb, get_or, Option, None, Some}
use Rattle.standard.specs.Numbers.{frame_length, accepted, overlap, cross_frame}
use Rattle.standard.specs.Tree.{Timing}
use Rattle.standard.specs.Timing.{end_of}
use Rattle.standard.specs.Carried.{last_timing}

-- of its two numbers
abbrev pub timing_of : List ℕ → Timing
timing_of l = record { start = get_or l 0 0; ramp = get_or l 1 0 }

abbrev pub last_said : List Timing → Option Timing
last_said [] = None
last_said (t ∷ ts) = Some (last_timing t ts)

-- per block; the preceding ramp ends at n, and `last` of each block lies in the frame
unfoldable pub spaced : (Timing → ℕ) → ℕ → List Timing → ℕ
spaced last n [] = accepted
spaced last n (t ∷ ts) = cond (ltb t.start n) overlap (cond (ltb frame_length (last t)) cross_frame (spaced last (end_of t) ts))
