-- A word and a number for each ending.
use Rattle.standard.specs.Journal.{last_line}
use Rattle.journals.proofs.lines.put_last.Goals as goal

pub returns-in-Complete : goal.returns-in-Complete
unfolding last_line
returns-in-Complete c = rw c.in-Complete.is c.put_count.ensures

pub returns-in-Torn : goal.returns-in-Torn
unfolding last_line
returns-in-Torn c = rw c.in-Torn.is c.put_count-in-Torn.ensures

pub returns-in-BadMark : goal.returns-in-BadMark
unfolding last_line
returns-in-BadMark c = rw c.in-BadMark.is c.put_count-in-BadMark.ensures
