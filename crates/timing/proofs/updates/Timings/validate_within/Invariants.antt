use Rattle.standard.specs.Tree.{Timing}
use Rattle.std.proofs.Common.{ℕ}
use Rattle.timing.specs.Blocks.{spaced}
use Rattle.timing.specs.Say.{Tells}
use Rattle.timing.proofs.Turns.{Reached}
use Rattle.timing.proofs.updates.Timings.validate_within.Given as goal

abbrev pub invariant-loop-block : goal.invariant-loop-block
invariant-loop-block g l = (told : Timing → ℕ) → Tells (goal.F-post g l.fn.last) told → Reached (spaced told) l.fn.end l.block-items l.previous_end l.block-index
