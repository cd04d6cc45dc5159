use Rattle.std.proofs.Common.{refl, arith}
use Rattle.bits.specs.Reads.{skip_bytes}
use Rattle.bits.proofs.Fields.{read-lt}
use Rattle.bits.proofs.Reading.{stops, then, has, handed_on, anywhere}
use Rattle.bits.proofs.cursor.BitCursor.skip_bytes.Goals as goal

pub returns-in_err-coded-clause-reads : goal.returns-in_err-coded-clause-reads
unfolding skip_bytes
returns-in_err-coded-clause-reads c = anywhere _ c.from_residual.ensures.1 refl refl (stops _ c.in_err-coded.ensures.reads c.from_residual.ensures.1)

pub returns-in_err-skip-clause-reads : goal.returns-in_err-skip-clause-reads
unfolding skip_bytes
returns-in_err-skip-clause-reads c =
    let e = c.from_residual-in_err-skip.ensures.1 in
    anywhere _ e refl refl (then _ c.in_ok-coded.ensures.reads (handed_on (rw c.bits-run.ensures at c.in_err-skip.ensures.reads) e))

pub returns-clause-reads : goal.returns-clause-reads
unfolding skip_bytes
returns-clause-reads c = then _ c.in_ok-coded.ensures.reads (rw c.bits-run.ensures at c.in_ok-skip.ensures.reads)

-- a count of 4 bits is no more than 16 bytes
pub overflow_cast-run : goal.overflow_cast-run
overflow_cast-run c =
    omega (arith, c.bits-run.ensures, has (read-lt 4 _) c.in_ok-coded.ensures.reads)
