use Rattle.std.proofs.Common.{◌≡◌, sym, arith}
use Rattle.standard.specs.Updates.{size_word, size_by}
use Rattle.bits.proofs.Reading.{then, stops, then_as, stops_with, done, refuses, here_is}
use Rattle.update.proofs.Numbers.{below}
use Rattle.update.proofs.render.read_size.Goals as goal

pub returns-in_err-index : goal.returns-in_err-index
unfolding size_word
returns-in_err-index c = then _ here_is (stops _ c.in_err-index.ensures.reads c.from_residual.ensures.1)

pub returns-then-index-eq0-2 : goal.returns-then-index-eq0-2
unfolding size_word size_by
returns-then-index-eq0-2 c =
    then _ here_is (then _ c.in_ok-index.ensures.reads (rw (c.if-index-eq0-2.true, ← c.size_of.ensures) done))

pub returns-then-index-eq0 : goal.returns-then-index-eq0
unfolding size_word size_by
returns-then-index-eq0 c =
    let two : c.in_ok-index.index ≡ 2 = omega (arith, below 2 _ c.in_ok-index.ensures.reads, c.if-index-eq0.true, c.if-index-eq0-2.false) in
    then _ here_is (then _ c.in_ok-index.ensures.reads (rw two c.read_sizes.ensures))

pub returns-then-index-ne1 : goal.returns-then-index-ne1
unfolding size_word size_by
returns-then-index-ne1 c =
    let three : c.in_ok-index.index ≡ 3 = omega (arith, below 2 _ c.in_ok-index.ensures.reads, c.if-index-eq0.false, c.if-index-ne1.true) in
    then _ here_is (then _ c.in_ok-index.ensures.reads (rw three (refuses c.invalid.ensures)))

pub returns-in_err-size : goal.returns-in_err-size
unfolding size_word size_by
returns-in_err-size c =
    let one : c.in_ok-index.index ≡ 1 = omega (arith, c.if-index-ne1.false) in
    then _ here_is (then _ c.in_ok-index.ensures.reads (rw one (stops_with _ c.in_err-size.ensures.reads c.from_residual-in_err-size.ensures.1)))

pub size_of-requires-2 : goal.size_of-requires-2
size_of-requires-2 c =
    let small = below 5 _ c.in_ok-size.ensures.reads in
    (omega (arith, small), omega (arith, small), omega (arith, small))

pub returns : goal.returns
unfolding size_word size_by
returns c =
    let one : c.in_ok-index.index ≡ 1 = omega (arith, c.if-index-ne1.false) in
    then _ here_is (then _ c.in_ok-index.ensures.reads (rw one (then_as _ (sym c.size_of-2.ensures) c.in_ok-size.ensures.reads)))
