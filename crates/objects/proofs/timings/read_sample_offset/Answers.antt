use Rattle.std.proofs.Common.{◌≡◌, arith}
use Rattle.bits.proofs.Laws.{read-lt}
use Rattle.bits.proofs.Reading.{then, stops, then_with, stops_with, done, refuses, here_is, has}
use Rattle.standard.specs.Syntax.{sample_offset, sample_offsets}
use Rattle.objects.proofs.timings.read_sample_offset.Goals as goal

pub returns-in_err-read : goal.returns-in_err-read
unfolding sample_offset
returns-in_err-read c = then _ here_is (stops _ c.in_err-read.ensures.reads c.from_residual.ensures.1)

pub returns-in_err-index-in-1 : goal.returns-in_err-index-in-1
unfolding sample_offset
returns-in_err-index-in-1 c =
    then _ here_is (then _ c.in_ok-read.ensures.reads (rw c.in-1.is (stops_with _ c.in_err-index-in-1.ensures.reads c.from_residual-in_err-index-in-1.ensures.1)))

pub bounds-index : goal.bounds-index
bounds-index c = has (read-lt _ _) c.in_ok-index-in-1.ensures.reads

pub returns-in-0 : goal.returns-in-0
unfolding sample_offset
returns-in-0 c = then _ here_is (then _ c.in_ok-read.ensures.reads (rw c.in-0.is done))

pub returns-in_ok-index-in-1 : goal.returns-in_ok-index-in-1
unfolding sample_offset sample_offsets
returns-in_ok-index-in-1 c =
    then _ here_is (then _ c.in_ok-read.ensures.reads (rw c.in-1.is (then_with _ c.in_ok-index-in-1.ensures.reads)))

pub returns-in-2 : goal.returns-in-2
unfolding sample_offset
returns-in-2 c = then _ here_is (then _ c.in_ok-read.ensures.reads (rw c.in-2.is c.read-in-2.ensures.reads))

pub returns-in_default : goal.returns-in_default
unfolding sample_offset
returns-in_default c =
    let l = has (read-lt 2 _) c.in_ok-read.ensures.reads in
    let k : c.in_ok-read.field-0 ≡ 3 = omega (arith, l) in
    then _ here_is (then _ c.in_ok-read.ensures.reads (rw k (refuses c.invalid.ensures)))
