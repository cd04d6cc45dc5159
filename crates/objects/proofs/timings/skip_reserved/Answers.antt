use Rattle.std.proofs.lemmas.Bool.{eq-eqb, ne_eqb}
use Rattle.bits.specs.Parsed.{require}
use Rattle.bits.proofs.Reading.{then, stops, done, refuses, here_is, on_true, on_false}
use Rattle.standard.specs.Syntax.{reserved}
use Rattle.objects.proofs.timings.skip_reserved.Goals as goal

pub returns-in_err-read_flag : goal.returns-in_err-read_flag
unfolding reserved
returns-in_err-read_flag c = stops _ c.in_err-read_flag.ensures.reads c.from_residual.ensures.1

pub returns-then-branch : goal.returns-then-branch
unfolding reserved
returns-then-branch c = then _ c.in_ok-read_flag.ensures.reads (on_true _ c.if-branch.true done)

pub returns-in_err-reserved : goal.returns-in_err-reserved
unfolding reserved
returns-in_err-reserved c =
    then _ c.in_ok-read_flag.ensures.reads (on_false _ c.if-branch.false (then _ here_is (stops _ c.in_err-reserved.ensures.reads c.from_residual-in_err-reserved.ensures.1)))

pub returns-then-reserved-ne0 : goal.returns-then-reserved-ne0
unfolding reserved require
returns-then-reserved-ne0 c =
    then _ c.in_ok-read_flag.ensures.reads (on_false _ c.if-branch.false (then _ here_is (then _ c.in_ok-reserved.ensures.reads (on_false _ (ne_eqb _ _ c.if-reserved-ne0.true) (refuses c.invalid.ensures)))))

pub returns : goal.returns
unfolding reserved require
returns c =
    then _ c.in_ok-read_flag.ensures.reads (on_false _ c.if-branch.false (then _ here_is (then _ c.in_ok-reserved.ensures.reads (on_true _ (eq-eqb _ _ c.if-reserved-ne0.false) done))))
