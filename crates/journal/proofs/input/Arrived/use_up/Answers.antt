-- The part begins further on.
use Rattle.journal.proofs.Arriving.{part-behind}
use Rattle.journal.proofs.input.Arrived.use_up.Goals as goal

pub returns : goal.returns
returns c = rw (← c.self.view_is) (part-behind c.self.inside.bytes c.self.inside.from c.self.inside.to c.args.count)
