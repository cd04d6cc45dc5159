use Rattle.std.proofs.Common.{refl}
use Rattle.std.proofs.lemmas.Bool.{eq-eqb, ne_eqb}
use Rattle.bits.proofs.Reading.{stops, then, here_is, anywhere}
use Rattle.standard.specs.Assignment.{version}
use Rattle.bits.proofs.Reading.{required, unmet}
use Rattle.assignment.proofs.read_version.Goals as goal

pub returns-in_err-version-clause-reads : goal.returns-in_err-version-clause-reads
unfolding version
returns-in_err-version-clause-reads c =
    let e = c.from_residual.ensures.1 in
    anywhere _ e refl refl (then _ here_is (stops _ c.in_err-version.ensures.reads e))

pub returns-then-version-ne0-clause-reads : goal.returns-then-version-ne0-clause-reads
unfolding version
returns-then-version-ne0-clause-reads c =
    anywhere _ refl refl refl (then _ here_is (then _ c.in_ok-version.ensures.reads (unmet (ne_eqb _ _ c.if-version-ne0.true) c.unsupported.ensures)))

pub returns-clause-reads : goal.returns-clause-reads
unfolding version
returns-clause-reads c = then _ here_is (then _ c.in_ok-version.ensures.reads (required _ (eq-eqb _ _ c.if-version-ne0.false)))
