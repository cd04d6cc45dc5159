-- With fresh tables, and nothing read or written.
use Rattle.journals.specs.Runs.{at_start}
use Rattle.journal.proofs.player.Player.new.Goals as goal

pub returns : goal.returns
unfolding at_start
returns c =
    record {
      stands = λ i. record { records = 0; offset = 0; tables = c.new-tables.ensures i; unused = c.new.ensures i };
      waits = c.new-2.ensures;
    }
