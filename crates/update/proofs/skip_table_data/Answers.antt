use Rattle.standard.specs.Updates.{table_data}
use Rattle.bits.proofs.Reading.{then, stops, on_true, on_false, done}
use Rattle.update.proofs.skip_table_data.Goals as goal

pub returns-in_err-read_flag : goal.returns-in_err-read_flag
unfolding table_data
returns-in_err-read_flag c = stops _ c.in_err-read_flag.ensures.reads c.from_residual.ensures.1

pub returns-then-not-branch : goal.returns-then-not-branch
unfolding table_data
returns-then-not-branch c = then _ c.in_ok-read_flag.ensures.reads (on_false _ c.if-not-branch.true done)

pub returns : goal.returns
unfolding table_data
returns c = then _ c.in_ok-read_flag.ensures.reads (on_true _ c.if-not-branch.false c.skip_bytes.ensures.reads)
