use Rattle.std.proofs.Common.{arith}
use Rattle.std.proofs.lemmas.Bool.{le-leb, lt-leb}
use Rattle.standard.specs.Updates.{zone_word}
use Rattle.bits.proofs.Reading.{then, stops, done, here_is}
use Rattle.bits.proofs.Reading.{passes, fails}
use Rattle.update.proofs.Numbers.{up, below, flag-bit}
use Rattle.update.proofs.render.read_zone.Goals as goal

pub returns-in_err-zone : goal.returns-in_err-zone
unfolding zone_word
returns-in_err-zone c = then _ here_is (stops _ c.in_err-zone.ensures.reads c.from_residual.ensures.1)

pub returns-then-zone : goal.returns-then-zone
unfolding zone_word
returns-then-zone c =
    then _ here_is (then _ c.in_ok-zone.ensures.reads (fails _ (lt-leb _ _ c.if-zone.true) c.invalid.ensures))

pub returns-in_err-elevated : goal.returns-in_err-elevated
unfolding zone_word
returns-in_err-elevated c =
    then _ here_is (then _ c.in_ok-zone.ensures.reads (passes _ (le-leb _ _ c.if-zone.false) (stops _ c.in_err-elevated.ensures.reads c.from_residual-in_err-elevated.ensures.1)))

pub returns : goal.returns
unfolding zone_word
returns c =
    then _ here_is (then _ c.in_ok-zone.ensures.reads (passes _ (le-leb _ _ c.if-zone.false) (then _ c.in_ok-elevated.ensures.reads
    (rw (up {n = c.in_ok-zone.zone} (omega (arith, below 3 _ c.in_ok-zone.ensures.reads)), flag-bit _ c.from.ensures c.from.type_inv) done))))
