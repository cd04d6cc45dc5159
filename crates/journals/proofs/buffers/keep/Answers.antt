-- What is copied is the part.
use Rattle.journals.proofs.Keeping.{kept}
use Rattle.journals.proofs.buffers.keep.Goals as goal

pub returns : goal.returns
returns c = kept c.args.bytes.now c.args.from c.args.to (rw (c.min-start.ensures, c.min-end.ensures)) (rw (c.min-start.ensures, c.min-end.ensures) at c.copy_within.ensures.after)
