-- Every definition opened at once, for what is proved by computation: `unfolding computed`. Each file names what it opens.
use Rattle.bits.specs.Bits as bits
use Rattle.bits.specs.Parsed as parsed
use Rattle.bits.specs.Reads as reads
use Rattle.standard.specs.Numbers as numbers
use Rattle.standard.specs.Assignment as assignment
use Rattle.standard.specs.Updates as updates
use Rattle.standard.specs.Syntax as syntax
use Rattle.standard.specs.Rows as rows
use Rattle.standard.specs.Marks as marks
use Rattle.standard.specs.Meaning as meaning
use Rattle.standard.specs.Tables as tables
use Rattle.standard.specs.Timing as timing
use Rattle.standard.specs.Ramps as ramps
use Rattle.standard.specs.Carried as carried
use Rattle.standard.specs.Shown as shown
use Rattle.standard.specs.Container as container
use Rattle.standard.specs.Calls as calls
use Rattle.standard.specs.CarriedCalls as carried_calls
use Rattle.standard.specs.Events as events
use Rattle.standard.specs.Journal as journal
use Rattle.standard.specs.JournalParts as journal_parts

unfoldable pub computed : Unit {0}
unfolding bits.computed parsed.computed reads.computed numbers.computed assignment.computed updates.computed syntax.computed rows.computed marks.computed meaning.computed tables.computed timing.computed ramps.computed carried.computed shown.computed container.computed calls.computed carried_calls.computed events.computed journal.computed journal_parts.computed
computed = tt
