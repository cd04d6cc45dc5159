-- All zeros, and then begun with a programme.
use Rattle.standard.specs.Numbers.{retained_length, start_length, blocks_length, timings_length}
use Rattle.standard.specs.Journal.{fresh_tables}
use Rattle.journals.proofs.tables.Tables.new.Goals as goal

pub returns : goal.returns
unfolding fresh_tables retained_length start_length blocks_length timings_length
returns c = rw c.programme_start.ensures.retained
