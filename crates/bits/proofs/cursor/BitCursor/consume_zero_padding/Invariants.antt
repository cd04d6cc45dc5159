-- What is left from the place on is what was left from the first place on.
use Rattle.std.proofs.Common.{◌≡◌, ◌-◌}
use Rattle.bits.specs.Reads.{padding}
use Rattle.bits.proofs.cursor.BitCursor.consume_zero_padding.Given as goal

abbrev pub invariant-loop-place : goal.invariant-loop-place
invariant-loop-place l =
    padding l.context l.self.payload.now l.self.limit.0 l.place ≡ padding l.context l.fn.self.payload.now l.fn.self.limit.0 l.fn.self.position.0

abbrev pub decreases-loop-place : goal.decreases-loop-place
decreases-loop-place l = l.self.limit.0 - l.place
