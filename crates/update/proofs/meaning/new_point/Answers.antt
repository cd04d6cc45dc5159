use Rattle.standard.specs.Meaning.{point_said}
use Rattle.update.proofs.meaning.new_point.Goals as goal

pub returns-in-Absolute : goal.returns-in-Absolute
unfolding point_said
returns-in-Absolute c = rw c.in-Absolute.is

pub returns-in-Moved : goal.returns-in-Moved
unfolding point_said
returns-in-Moved c = rw c.in-Moved.is c.stepped.ensures
