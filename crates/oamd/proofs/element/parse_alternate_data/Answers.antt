use Rattle.std.proofs.lemmas.Bool.{eq-eqb, ne_eqb}
use Rattle.bits.proofs.Reading.{stops, then, here_is, done, on_true, on_false}
use Rattle.standard.specs.Syntax.{alternate}
use Rattle.bits.proofs.Reading.{required, unmet}
use Rattle.oamd.proofs.element.parse_alternate_data.Goals as goal

pub returns-then-not-alternate_data : goal.returns-then-not-alternate_data
unfolding alternate
returns-then-not-alternate_data c = on_false _ c.if-not-alternate_data.true done

pub returns-in_err-alternate_id : goal.returns-in_err-alternate_id
unfolding alternate
returns-in_err-alternate_id c =
    on_true _ c.if-not-alternate_data.false (then _ here_is (stops _ c.in_err-alternate_id.ensures.reads c.from_residual.ensures.1))

pub returns-then-alternate_id-ne0 : goal.returns-then-alternate_id-ne0
unfolding alternate
returns-then-alternate_id-ne0 c =
    on_true _ c.if-not-alternate_data.false (then _ here_is (then _ c.in_ok-alternate_id.ensures.reads (unmet (ne_eqb _ _ c.if-alternate_id-ne0.true) c.unsupported.ensures)))

pub returns : goal.returns
unfolding alternate
returns c =
    on_true _ c.if-not-alternate_data.false (then _ here_is (then _ c.in_ok-alternate_id.ensures.reads (required _ (eq-eqb _ _ c.if-alternate_id-ne0.false))))
