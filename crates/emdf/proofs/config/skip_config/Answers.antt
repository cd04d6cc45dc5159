-- The offset, and the rest.
use Rattle.std.proofs.Common.{Ok}
use Rattle.bits.proofs.Reading.{then, stops, next, next_stops, on_true, on_false, done}
use Rattle.standard.specs.Container.{pass, if_set, config}
use Rattle.emdf.specs.Say.{ReadsContainer}
use Rattle.emdf.proofs.config.skip_config.Goals as goal
use Rattle.emdf.proofs.config.skip_config.Goals.{then-offset+in_ok-skip, else-offset}

pub returns-in_err-offset : goal.returns-in_err-offset
unfolding config
returns-in_err-offset c = stops _ c.in_err-offset.ensures c.from_residual.ensures.1

pub returns-in_err-skip : goal.returns-in_err-skip
unfolding config if_set
returns-in_err-skip c = then _ c.in_ok-offset.ensures (next_stops _ (on_true _ c.if-offset.true c.in_err-skip.ensures) c.from_residual-in_err-skip.ensures.1)

skipped : (c : goal.After-skip_after_offset) → ReadsContainer (if_set c.in_ok-offset.offset (pass 12)) c.read_flag.new.bits (Ok tt) c.if-offset.bits
unfolding if_set
skipped c = elim c.if-offset.branch [
  | then-offset+in_ok-skip w ↦ rw w.bits-is (on_true _ w.if-offset.true w.in_ok-skip.ensures)
  | else-offset w ↦ rw w.bits-is (on_false _ w.if-offset.false done)
]

pub returns : goal.returns
unfolding config
returns c = then _ c.in_ok-offset.ensures (next (skipped c) c.skip_after_offset.ensures)
