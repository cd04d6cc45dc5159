-- What the code's timings, choices and answers say: the paper's records, and a number for each refusal.
use Rattle.std.specs.Prelude.{ℕ, ◌≡◌, Option, None, Some, Result, Ok, Err}
use Rattle.bits.specs.declared.refusals.Fault.{Fault}
use Rattle.bits.specs.Faults.{fault_number}
use Rattle.standard.specs.Tree.{Timing}
use Rattle.standard.specs.Ramps as ramps
use Rattle.standard.specs.Numbers.{accepted}
use Rattle.standard.specs.Calls.{RampAnswer, no_ramp}
use Rattle.standard.specs.CarriedCalls as calls
use Rattle.timing.specs.declared.updates.OamdTiming.{OamdTiming}
use Rattle.timing.specs.declared.ramps.Choice.{Choice}
use Rattle.timing.specs.declared.ramps.Ramp.{Ramp}
use Rattle.timing.specs.declared.carried.Going.{Going}

abbrev pub timing_said : OamdTiming → Timing
timing_said t = record { start = t.start_sample; ramp = t.ramp_duration }

-- each answer that P allows at a timing is what f says of it
abbrev pub Tells : (OamdTiming → ℕ → Type 0) → (Timing → ℕ) → Type 0
Tells P f = (t : OamdTiming) (n : ℕ) → P t n → n ≡ f (timing_said t)

abbrev pub choice_said : Choice → ramps.Choice
choice_said c = record { from = c.from; to = c.to; elapsed = c.elapsed; duration = c.duration }

-- on a refusal every number and float is 0
abbrev pub ramp_said : Result Ramp Fault → RampAnswer
ramp_said (Ok r) = record { number = accepted; choice = choice_said r.choice; fraction = r.alpha }
ramp_said (Err f) = no_ramp (fault_number f)

-- where nothing is carried every number is 0
abbrev pub going_said : Option Going → calls.Going
going_said None = calls.dropped
going_said (Some g) = record { objects = g.objects; elapsed = g.elapsed; duration = g.duration }
