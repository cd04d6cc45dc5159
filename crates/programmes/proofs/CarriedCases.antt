-- Computed: moves over two frame edges, dropped, refused, from a block before, and starts at what remains and at the frame's end.
use Prim.Native.Nat.{ℕ}
use mathlib.Core.Path.{◌≡◌, refl}
use mathlib.Core.List.{List, [], ◌∷◌}
use mathlib.Core.Option.{Option, none, some}
use lib.IntN.{ℤ, pos}
use lib.ListN.{get_or, replicate}
use Rattle.standard.specs.Numbers.{start_length, blocks_length}
use Rattle.standard.specs.Tree.{Timing, dynamic, kind_number}
use Rattle.standard.specs.Rows.{Row, no_row}
use Rattle.standard.specs.Marks.{settled, unsettled}
use Rattle.standard.specs.Carried.{rule1, rule2, nothing, timing_by}
use Rattle.standard.specs.CarriedCalls.{Going, dropped, timing_by_rule, carry}
use Rattle.standard.specs.Events.{run}
use Rattle.standard.specs.Computed.{computed}
use Rattle.standard.specs.Cases.{plain_row, inactive_row}
use Rattle.programmes.specs.Programmes.{frame, gaps, resets, Playing, Frame, verdict, behind, next_frame, step, silent, Sample, sample_at, standing}
use Rattle.programmes.specs.Programmes as programmes
use Rattle.programmes.specs.Racks.{Rack, Shelf, timed_on, carried_on}
use Rattle.programmes.specs.Racks as racks

-- Payloads of one Dynamic object, that makes it inactive at a start, in a ramp

-- 1,504, in 2,048: over two edges, to sample 480 of the third frame
abbrev long : List ℕ
long = 0x01 ∷ 0x04 ∷ 0x48 ∷ 0x05 ∷ 0xff ∷ 0xf0 ∷ []

-- 1,536, in 2,048
abbrev late : List ℕ
late = 0x01 ∷ 0x04 ∷ 0x48 ∷ 0x06 ∷ 0x1f ∷ 0xf0 ∷ []

-- 448, and 480, at once
abbrev at448 : List ℕ
at448 = 0x01 ∷ 0x04 ∷ 0x48 ∷ 0x01 ∷ 0xc6 ∷ 0x00 ∷ []

abbrev at480 : List ℕ
at480 = 0x01 ∷ 0x04 ∷ 0x48 ∷ 0x01 ∷ 0xe6 ∷ 0x00 ∷ []

-- a refused payload, and none
abbrev cut : Option (List ℕ)
cut = some []

abbrev quiet : Option (List ℕ)
quiet = none

abbrev from : List Row
from = plain_row (kind_number dynamic) (pos 1) (pos 0) (pos 32) (pos 31) (pos 31) (pos 0) settled ∷ []

abbrev target : List Row
target = inactive_row (pos 31) (pos 31) (pos 0) settled ∷ []

-- the same, in doubt
abbrev doubted : List Row
doubted = inactive_row (pos 31) (pos 31) (pos 0) unsettled ∷ []

abbrev at : ℕ → ℕ → Sample
at n d = record { from = from; to = target; elapsed = n; duration = d }

-- the frames before
abbrev first : Playing
first = run step silent (frame rule2 (some long) ∷ [])

abbrev second : Playing
second = run step silent (frame rule2 (some long) ∷ frame rule2 cut ∷ [])

-- Over two edges: the last sample of the first frame, the first and last of a refused payload's, and the ramp's end in a frame without payload

pub two_edges : (sample_at silent rule2 (some long) 1535 ≡ at 31 2048)
    × (sample_at first rule2 cut 0 ≡ at 32 2048) × (sample_at first rule2 cut 1535 ≡ at 1567 2048)
    × (sample_at second rule2 quiet 479 ≡ at 2047 2048) × (sample_at second rule2 quiet 480 ≡ standing target)
    × ((step second (frame rule2 quiet)).carried ≡ nothing)
unfolding computed programmes.computed
two_edges = (refl, refl, refl, refl, refl, refl)

-- Dropped at its target: by a gap, in doubt; and where a frame under rule 1 comes, which takes up nothing. A reset leaves no rows
pub dropped-early : (sample_at (step first gaps) rule2 quiet 0 ≡ standing doubted) × (sample_at first rule1 quiet 0 ≡ standing target)
    × (sample_at (step first resets) rule2 quiet 0 ≡ standing [])
unfolding computed programmes.computed
dropped-early = (refl, refl, refl)

-- A first start: in the third frame 480 samples remain. 9 drops the ramp

pub first-starts : (verdict rule2 second.carried (next_frame second (some at448)) ≡ 9)
    × (sample_at second rule2 (some at448) 0 ≡ standing target) × ((step second (frame rule2 (some at448))).carried ≡ nothing)
    × (verdict rule2 second.carried (next_frame second (some at480)) ≡ 0)
    × (sample_at second rule2 (some at480) 479 ≡ at 2047 2048)
unfolding computed programmes.computed
first-starts = (refl, refl, refl, refl, refl)

-- A start at 1,536: no sample in its own frame, and 0 elapsed at the next frame's first. Rule 1 refuses the ramp

pub at-the-end : (sample_at silent rule2 (some late) 1535 ≡ standing from)
    × ((step silent (frame rule2 (some late))).carried ≡ record { rows = from; elapsed = 0; duration = 2048 })
    × (sample_at (step silent (frame rule2 (some late))) rule2 quiet 0 ≡ at 0 2048)
    × (verdict rule1 nothing (next_frame silent (some late)) ≡ 10)
unfolding computed programmes.computed
at-the-end = (refl, refl, refl, refl)

-- An end past 1,536 before the last block: the next start decides. 8 comes first

abbrev block : ℕ → ℕ → Timing
block start ramp = record { start = start; ramp = ramp }

pub ends-decide : (timing_by rule2 0 (block 0 1600 ∷ block 1536 0 ∷ []) ≡ 9)
    × (timing_by rule2 0 (block 0 1600 ∷ block 1600 0 ∷ []) ≡ 10)
    × (timing_by rule2 0 (block 0 1600 ∷ []) ≡ 0)
    × (timing_by rule2 480 (block 479 2048 ∷ block 100 0 ∷ []) ≡ 8)
unfolding computed
ends-decide = (refl, refl, refl, refl)

-- The last of two blocks comes from the first

abbrev two : Frame
two = record { start = from; blocks = (get_or target 0 no_row ∷ get_or from 0 no_row ∷ []) ∷ []; timings = block 0 0 ∷ block 1504 2048 ∷ [] }

pub from-a-block : behind rule2 nothing two ≡ record { rows = target; elapsed = 32; duration = 2048 }
unfolding computed programmes.computed
from-a-block = refl

-- Why carry is only for a frame whose timings passed: after a 9, which drops the ramp, it would carry the refused frame's own

abbrev zeros : List ℤ
zeros = replicate start_length (pos 0)

abbrev moving : Going
moving = record { objects = 0; elapsed = 1568; duration = 2048 }

abbrev early : List ℕ
early = 448 ∷ 2048 ∷ []

pub not-after-9 : (timing_by_rule 2 early 1 0 zeros zeros moving ≡ record { number = 9; going = dropped })
    × ((carry 2 early 1 0 zeros (replicate blocks_length (pos 0)) zeros dropped).going ≡ record { objects = 0; elapsed = 1088; duration = 2048 })
unfolding computed
not-after-9 = (refl, refl)

-- so a rack does not ask it then
abbrev rack : Rack
rack = record { retained = []; carried = zeros; going = moving }

abbrev shelf : Shelf
shelf = record { retained = []; beside = record { start = zeros; blocks = replicate blocks_length (pos 0); timings = early }; objects = 0; blocks = 1 }

pub carry-not-asked : (carried_on rule2 rack shelf (timed_on rule2 rack shelf)).going ≡ dropped
unfolding computed racks.computed
carry-not-asked = refl
