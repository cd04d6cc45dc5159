-- The numbers so far are put.
use Rattle.std.proofs.Common.{◌*◌, take}
use Rattle.standard.specs.Journal.{spaced}
use Rattle.journals.specs.Texts.{Puts}
use Rattle.journals.proofs.texts.Text.push_numbers.Given as goal

abbrev pub invariant-loop-number : goal.invariant-loop-number
invariant-loop-number g l = Puts (21 * l.number-index) l.initial.self (spaced (take l.number-index l.numbers)) l.self
