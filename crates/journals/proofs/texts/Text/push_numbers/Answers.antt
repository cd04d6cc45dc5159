-- A space and a number more each turn.
use Rattle.std.proofs.Common.{rules, arith}
use Rattle.standard.specs.Journal.{spaced}
use Rattle.journals.proofs.Putting.{one_more}
use Rattle.journals.proofs.texts.Text.push_numbers.Goals as goal

pub loop-number-init : goal.loop-number-init
unfolding spaced
loop-number-init g c = search rules

pub loop-number-preserved : goal.loop-number-preserved
loop-number-preserved g c = one_more _ _ (omega arith) c.loop-number.invariant c.push.ensures c.push_decimal.ensures
