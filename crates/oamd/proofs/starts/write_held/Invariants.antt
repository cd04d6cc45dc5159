use Rattle.standard.specs.Meaning.{held_rows}
use Rattle.standard.specs.Tables.{state_of}
use Rattle.oamd.proofs.StartRows.{Writing}
use Rattle.oamd.proofs.starts.write_held.Given as goal

abbrev pub invariant-loop-object : goal.invariant-loop-object
invariant-loop-object l = Writing (held_rows (state_of l.held.table.now)) l.initial.start l.object l.start
