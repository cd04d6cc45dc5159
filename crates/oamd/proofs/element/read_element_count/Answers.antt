use Rattle.std.proofs.lemmas.Bool.{le-leb, lt-leb}
use Rattle.bits.proofs.Reading.{stops, then, here_is, done}
use Rattle.standard.specs.Numbers.{element_limit}
use Rattle.standard.specs.Syntax.{element_count}
use Rattle.bits.proofs.Reading.{passes, fails}
use Rattle.oamd.proofs.element.read_element_count.Goals as goal

pub returns-in_err-element_count : goal.returns-in_err-element_count
unfolding element_count element_limit
returns-in_err-element_count c = then _ here_is (stops _ c.in_err-element_count.ensures.reads c.from_residual.ensures.1)

pub returns-then-element_count-gt-MAX_OAMD_ELEMENTS : goal.returns-then-element_count-gt-MAX_OAMD_ELEMENTS
unfolding element_count element_limit
returns-then-element_count-gt-MAX_OAMD_ELEMENTS c =
    then _ here_is (then _ c.in_ok-element_count.ensures.reads (fails _ (lt-leb _ _ c.if-element_count-gt-MAX_OAMD_ELEMENTS.true) c.limit-limited.ensures))

pub returns : goal.returns
unfolding element_count element_limit
returns c =
    then _ here_is (then _ c.in_ok-element_count.ensures.reads (passes _ (le-leb _ _ c.if-element_count-gt-MAX_OAMD_ELEMENTS.false) (done {say = λ a. a})))
