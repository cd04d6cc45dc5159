use Rattle.std.proofs.Common.{◌<◌, ◌≤◌, Err, refl, sym, arith}
use lib.ListN.{length-set}
use Rattle.bits.proofs.Laws.{read-lt}
use Rattle.bits.proofs.Reading.{then, stops, then_as, stops_with, done, has}
use Rattle.standard.specs.Tree.{Timing}
use Rattle.standard.specs.Syntax.{timing}
use Rattle.standard.proofs.RampTable.{ramp-le}
use Rattle.objects.proofs.Filling.{untouched}
use Rattle.objects.proofs.Timed.{put_two, behind-two}
use Rattle.objects.proofs.timings.parse_timing.Goals as goal

pub returns-in_err-factor : goal.returns-in_err-factor
unfolding timing
returns-in_err-factor c = record {
  reads = stops_with _ (stops {say' = λ (t : Timing). t} _ {r = Err _} c.in_err-factor.ensures.reads refl) c.from_residual.ensures.1;
  filled = untouched;
}

pub returns-in_err-ramp_duration : goal.returns-in_err-ramp_duration
unfolding timing
returns-in_err-ramp_duration c = record {
  reads = stops_with _ (then _ c.in_ok-factor.ensures.reads (stops {say' = λ (t : Timing). t} _ {r = Err _} c.in_err-ramp_duration.ensures refl)) c.from_residual-in_err-ramp_duration.ensures.1;
  filled = untouched;
}

-- what is read fits u16
small : (c : goal.In_ok-ramp_duration) → (c.in_ok-factor.factor < 64) × (c.in_ok-ramp_duration.ramp_duration ≤ 2048)
small c = (has (read-lt _ _) c.in_ok-factor.ensures.reads, has ramp-le c.in_ok-ramp_duration.ensures)

pub overflow_mul-timings : goal.overflow_mul-timings
overflow_mul-timings c = omega (arith, small c)

pub overflow_add-timings : goal.overflow_add-timings
overflow_add-timings c = omega (arith, small c)

pub overflow_cast-timings : goal.overflow_cast-timings
overflow_cast-timings c = omega (arith, small c)

pub overflow_cast-timings-2 : goal.overflow_cast-timings-2
overflow_cast-timings-2 c = omega (arith, small c)

pub returns : goal.returns
unfolding timing
returns c = record {
  reads = then_as {say = λ (t : Timing). t} _ (sym (put_two _ _ _ _)) (then _ c.in_ok-factor.ensures.reads (then _ c.in_ok-ramp_duration.ensures done));
  filled = record { long = simp length-set; rest = simp behind-two };
}
