use Rattle.std.proofs.Common.{refl}
use Rattle.std.proofs.lemmas.Bool.{le-leb, lt-leb}
use Rattle.bits.proofs.Reading.{stops, then, here_is, done, anywhere}
use Rattle.standard.specs.Numbers.{object_limit}
use Rattle.standard.specs.Assignment.{object_count}
use Rattle.bits.proofs.Reading.{passes, fails}
use Rattle.assignment.proofs.read_object_count.Goals as goal

pub returns-in_err-coded-clause-reads : goal.returns-in_err-coded-clause-reads
unfolding object_count
returns-in_err-coded-clause-reads c =
    let e = c.from_residual.ensures.1 in
    anywhere _ e refl refl (then _ here_is (stops _ c.in_err-coded.ensures.reads e))

pub returns-then-object_count-gt-OBJECT_LIMIT-clause-reads : goal.returns-then-object_count-gt-OBJECT_LIMIT-clause-reads
unfolding object_count object_limit
returns-then-object_count-gt-OBJECT_LIMIT-clause-reads c =
    anywhere _ refl refl refl (then _ here_is (then _ c.in_ok-coded.ensures.reads (fails _ (lt-leb _ _ c.if-object_count-gt-OBJECT_LIMIT.true) c.limit.ensures)))

pub returns-clause-reads : goal.returns-clause-reads
unfolding object_count object_limit
returns-clause-reads c =
    then _ here_is (then _ c.in_ok-coded.ensures.reads (passes _ (le-leb _ _ c.if-object_count-gt-OBJECT_LIMIT.false) done))
