-- A frame as it is lent, and what it takes up.
use Rattle.std.specs.Prelude.{ℕ, ◌≡◌, ◌≤◌, cond, List, ℤ, length, Option, Result, IfOk}
use Rattle.bits.specs.Faults.{number_of}
use Rattle.bits.specs.declared.refusals.Fault.{Fault}
use Rattle.standard.specs.Numbers.{object_limit, accepted, room, query}
use Rattle.standard.specs.Rows.{Row}
use Rattle.standard.specs.Tree.{Timing}
use Rattle.standard.specs.Tables.{timings_of, rows_of}
use Rattle.standard.specs.Carried.{rule2, timing_by, taken_up, carried_by}
use Rattle.standard.specs.CarriedCalls.{carried_of, going_of, counts_within, frame_room}
use Rattle.timing.specs.declared.frame.Frame.{Frame}
use Rattle.timing.specs.declared.carried.Going.{Going}
use Rattle.timing.specs.Say.{going_said}

-- of what was lent
pub record Of (timings : List ℕ) (blocks objects : ℕ) (start : List ℤ) (f : Frame) : Type 0 where
  pub timed : f.timings ≡ timings_of blocks timings
  pub starts : f.start.now ≡ start
  pub many : f.objects ≡ objects

-- too much, or a short table
pub record Framed (timings : List ℕ) (blocks objects : ℕ) (start : List ℤ) (r : Result Frame Fault) : Type 0 where
  pub number : number_of r ≡ cond (counts_within blocks objects) (cond (frame_room timings blocks start) accepted room) query
  pub says : IfOk r (Of timings blocks objects start)

abbrev pub TakenUp : Frame → Option Going → List ℤ → Option Going → Type 0
TakenUp f g l r = going_said r ≡ going_of (taken_up rule2 (carried_of (going_said g) l) (rows_of f.objects f.start.now))

-- Behind a frame

-- its timings have passed, and it has few objects
pub record Behind (ts : List Timing) (objects : ℕ) : Type 0 where
  pub passed : (n : ℕ) × (timing_by rule2 n ts ≡ accepted)
  pub few : objects ≤ object_limit

-- what goes over, whatever the carried rows and the rows before the last block
abbrev pub Onward : List Timing → ℕ → Option Going → Option Going → Type 0
Onward ts objects g r = (l : List ℤ) (rows : List Row) → length rows ≡ objects → going_said r ≡ going_of (carried_by rule2 (carried_of (going_said g) l) rows ts)
