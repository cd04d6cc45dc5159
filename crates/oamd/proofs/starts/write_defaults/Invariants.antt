use Rattle.std.proofs.Common.{map}
use Rattle.standard.specs.Meaning.{default_row}
use Rattle.rows.specs.Kinds.{kind_said}
use Rattle.oamd.proofs.StartRows.{Writing}
use Rattle.oamd.proofs.starts.write_defaults.Given as goal

abbrev pub invariant-loop-object : goal.invariant-loop-object
invariant-loop-object l = Writing (map (default_row l.doubt) (map kind_said l.kinds)) l.initial.start l.object l.start
