use Rattle.standard.specs.Meaning.{new_picture}
use Rattle.update.proofs.meaning.row_picture.Goals as goal

pub returns-in-Default : goal.returns-in-Default
unfolding new_picture
returns-in-Default c = rw (c.if-not-dynamic.false, c.in-Default.is) c.default_picture.ensures

pub returns-in-Kept : goal.returns-in-Kept
unfolding new_picture
returns-in-Kept c = rw (c.if-not-dynamic.false, c.in-Kept.is)
