use Rattle.bits.specs.Reads.{flag}
use Rattle.bits.proofs.Reading.{stops_with, then_with}
use Rattle.bits.proofs.cursor.BitCursor.read_flag.Goals as goal

pub returns-in_err-read-clause-reads : goal.returns-in_err-read-clause-reads
unfolding flag
returns-in_err-read-clause-reads c = stops_with _ c.in_err-read.ensures.reads c.from_residual.ensures.1

pub returns-clause-reads : goal.returns-clause-reads
unfolding flag
returns-clause-reads c = then_with _ c.in_ok-read.ensures.reads
