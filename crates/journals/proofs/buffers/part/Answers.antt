-- The two ends are cut to the list's.
use Rattle.journals.proofs.Keeping.{cut_part}
use Rattle.journals.proofs.buffers.part.Goals as goal

pub returns : goal.returns
returns c = rw (c.min.ensures, c.min-end.ensures) (cut_part c.args.bytes.now c.args.from c.args.to)
