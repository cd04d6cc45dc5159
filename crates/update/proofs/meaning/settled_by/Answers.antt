use Rattle.update.proofs.MarkBits.{group-bits}
use Rattle.update.proofs.meaning.settled_by.Goals as goal

pub returns : goal.returns
returns c =
    rw (
      c.from-position.ensures,
      c.is_placed.ensures,
      c.from-zone.ensures,
      c.is_some.ensures,
      c.from-size.ensures,
      c.is_some-2.ensures,
      c.from-screen.ensures,
      c.is_some-3.ensures,
    )
    (group-bits c.args.groups)
