-- What the calls on timings and their parts promise.
use Rattle.std.specs.Prelude.{ℕ, ◌≡◌, ◌*◌, List, length, cond, leb, ltb, eqb, Float, Result, IfOk, is_ok}
use Rattle.bits.specs.Faults.{number_of}
use Rattle.std.specs.Float.Ieee.{lt}
use Rattle.bits.specs.declared.refusals.Fault.{Fault}
use Rattle.standard.specs.Numbers.{block_limit, accepted, room, query}
use Rattle.standard.specs.Floats.{one}
use Rattle.standard.specs.Tables.{timings_of}
use Rattle.standard.specs.Ramps as ramps
use Rattle.standard.specs.Calls.{RampAnswer}
use Rattle.timing.specs.declared.updates.Timings.{Timings}
use Rattle.timing.specs.declared.ramps.Ramp.{Ramp}
use Rattle.timing.specs.Say.{choice_said, ramp_said}

-- the timings of so many blocks, or why there are none
pub record Timed (table : List ℕ) (blocks : ℕ) (r : Result Timings Fault) : Type 0 where
  pub number : number_of r ≡ cond (leb blocks block_limit) (cond (leb (2 * blocks) (length table)) accepted room) query
  pub says : IfOk r (λ t. t ≡ timings_of blocks table)

-- one division, under 1 while elapsed is under the duration, and only then
pub record Rounded (c : ramps.Choice) (f : Float) : Type 0 where
  pub quotient : f ≡ ramps.fraction c
  pub below : lt f one ≡ ltb c.elapsed c.duration

-- the paper's answer; a choice exactly where its number is 0, with the fraction of that choice
pub record Ramped (a : RampAnswer) (r : Result Ramp Fault) : Type 0 where
  pub says : ramp_said r ≡ a
  pub chosen : is_ok r ≡ eqb a.number accepted
  pub rounded : IfOk r (λ x. Rounded (choice_said x.choice) x.alpha)
