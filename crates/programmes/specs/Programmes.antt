-- A programme of frames, gaps, resets and starts, and between which rows each sample lies.
use Rattle.std.specs.Prelude.{ℕ, zero, suc, ◌-◌, cond, List, [], ◌∷◌, ltb, eqb, length}
use Rattle.std.proofs.Math.Option.{Option, none, some}
use Rattle.bits.specs.Parsed.{Parsed, got, refused}
use Rattle.standard.specs.Numbers.{accepted}
use Rattle.standard.specs.Tree.{Timing, Tree, kinds_of}
use Rattle.standard.specs.Rows.{Row, State, fresh}
use Rattle.standard.specs.Meaning.{held_rows, start_rows, frame_rows, retain, taken, gapped}
use Rattle.standard.specs.Tables.{in_block}
use Rattle.standard.specs.Ramps.{Choice}
use Rattle.standard.specs.Journal.{Record, payload, gap_notice, reset_notice, start_notice}
use Rattle.standard.specs.Carried.{Rule, Carried, nothing, remains, taken_up, timing_by, carried_row, choice_by, carried_by}

pub data Event : Type 0 where
  frame : Rule → Option (List ℕ) → Event  -- with a payload, or without
  gaps : Event
  resets : Event
  starts : Event  -- a programme start

pub record Playing : Type 0 where
  pub retained : State
  pub carried : Carried

-- A frame

-- none: a frame without blocks
unfoldable pub tree_of : Parsed Tree → Option Tree
tree_of (got t p) = some t
tree_of (refused r) = none

unfoldable pub said : Option (List ℕ) → Option Tree
said none = none
said (some s) = tree_of (taken s)

pub record Frame : Type 0 where
  pub start : List Row
  pub blocks : List (List Row)  -- by object, and in each by block
  pub timings : List Timing

unfoldable pub frame_of : State → Option Tree → Frame
frame_of st none = record { start = held_rows st; blocks = []; timings = [] }
frame_of st (some t) = record { start = start_rows st (kinds_of t); blocks = frame_rows st t; timings = t.timings }

-- what is retained behind it, whatever its timings are
unfoldable pub retained_by : State → Option Tree → State
retained_by st none = st
retained_by st (some t) = retain st t

-- its rows by number
unfoldable pub numbered : Frame → ℕ → List Row
numbered f zero = f.start
numbered f (suc b) = in_block b f.blocks

-- the rows before the last block
abbrev pub before_last : Frame → List Row
before_last f = numbered f (length f.timings - 1)

-- the timing test's number
unfoldable pub verdict : Rule → Carried → Frame → ℕ
verdict r c f = timing_by r (remains (taken_up r c f.start)) f.timings

-- what is carried in it: nothing where the timings are refused
unfoldable pub during : Rule → Carried → Frame → Carried
during r c f = cond (eqb (verdict r c f) accepted) (taken_up r c f.start) nothing

-- and behind it
unfoldable pub behind : Rule → Carried → Frame → Carried
behind r c f = cond (eqb (verdict r c f) accepted) (carried_by r (taken_up r c f.start) (before_last f) f.timings) nothing

-- Programmes

-- the frame that comes next, with this payload
abbrev pub next_frame : Playing → Option (List ℕ) → Frame
next_frame p s = frame_of p.retained (said s)

unfoldable pub step : Playing → Event → Playing
step p (frame r s) = record { retained = retained_by p.retained (said s); carried = behind r p.carried (next_frame p s) }
step p gaps = record { retained = gapped p.retained; carried = nothing }
step p resets = record { retained = gapped fresh; carried = nothing }
step p starts = record { retained = fresh; carried = nothing }

-- the journal's records that an event brings
unfoldable pub brings : Event → List Record
brings (frame r none) = []
brings (frame r (some s)) = payload s ∷ []
brings gaps = gap_notice ∷ []
brings resets = reset_notice ∷ []
brings starts = start_notice ∷ []

-- only frames take time
unfoldable pub frames : List Event → ℕ
frames [] = 0
frames (frame r s ∷ es) = suc (frames es)
frames (gaps ∷ es) = frames es
frames (resets ∷ es) = frames es
frames (starts ∷ es) = frames es

-- a decoder at its start
unfoldable pub silent : Playing
silent = record { retained = fresh; carried = nothing }

-- Samples

-- from these rows to those, and how far
pub record Sample : Type 0 where
  pub from : List Row
  pub to : List Row
  pub elapsed : ℕ
  pub duration : ℕ

-- row 9 is that of the carried ramp
unfoldable pub rows_at : Frame → Carried → ℕ → List Row
rows_at f c n = cond (eqb n carried_row) c.rows (numbered f n)

unfoldable pub resolve : Frame → Carried → Choice → Sample
resolve f c k = record { from = rows_at f c k.from; to = rows_at f c k.to; elapsed = k.elapsed; duration = k.duration }

unfoldable pub choice_in : Rule → Carried → Frame → ℕ → Choice
choice_in r c f i =
    let d = during r c f in
    choice_by r d.elapsed d.duration i f.timings

-- sample i of the frame that comes next
unfoldable pub sample_at : Playing → Rule → Option (List ℕ) → ℕ → Sample
sample_at p r s i =
    let f = next_frame p s in
    resolve f (during r p.carried f) (choice_in r p.carried f i)

-- nothing moves: 1/1
abbrev pub standing : List Row → Sample
standing rows = record { from = rows; to = rows; elapsed = 1; duration = 1 }

-- of a ramp of d samples from these rows to a target: n samples after its start
unfoldable pub on_way : List Row → List Row → ℕ → ℕ → Sample
on_way from target n d = cond (ltb n d) (record { from = from; to = target; elapsed = n; duration = d }) (standing target)

-- What computing opens

unfoldable pub computed : Unit {0}
unfolding tree_of said frame_of retained_by numbered verdict during behind step brings frames silent rows_at resolve choice_in sample_at on_way
computed = tt
