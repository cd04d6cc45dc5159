use Rattle.standard.specs.Ramps.{walk}
use Rattle.timing.proofs.Turns.{Reached}
use Rattle.timing.proofs.updates.Timings.choose.Given as goal

-- the blocks passed are over
abbrev pub invariant-loop-row : goal.invariant-loop-row
invariant-loop-row l = Reached (walk l.sample) 0 l.block-items l.row l.row
