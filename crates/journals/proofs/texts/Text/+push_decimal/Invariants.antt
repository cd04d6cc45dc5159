-- The digits before the last are those of a tenth of the number, which is the measure.
use Rattle.journals.proofs.texts.Text.+push_decimal.Given as goal

abbrev pub decreases-push_decimal : goal.decreases-push_decimal
decreases-push_decimal g l = l.number
