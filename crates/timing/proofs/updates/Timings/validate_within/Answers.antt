-- The blocks passed follow each other: those left decide.
use Rattle.std.proofs.Common.{sym, ◌∙◌, ap}
use borrow.Author.Tests.{lt-ltb, le-ltb}
use Rattle.standard.specs.Numbers.{frame_length}
use Rattle.timing.specs.Blocks.{spaced}
use Rattle.timing.proofs.Turns.{decided, onward, ended}
use Rattle.timing.proofs.updates.Timings.validate_within.Goals as goal

pub returns-then-start-previous_end : goal.returns-then-start-previous_end
unfolding spaced
returns-then-start-previous_end g c =
    λ told tells. sym
    (decided (c.loop-block.invariant told tells) c.from-timing.ensures c.loop-block-test.true
    (rw (← c.start.ensures, lt-ltb _ _ c.if-start-previous_end.true)))
    ∙ ap (spaced told c.args.end) c.self.view_is

pub returns-then-last-gt-SAMPLES_PER_JOC_FRAME : goal.returns-then-last-gt-SAMPLES_PER_JOC_FRAME
unfolding spaced frame_length
returns-then-last-gt-SAMPLES_PER_JOC_FRAME g c =
    λ told tells. sym
    (decided (c.loop-block.invariant told tells) c.from-timing.ensures c.loop-block-test.true
    (rw (← tells _ _ c.last.ensures, ← c.start.ensures, le-ltb _ _ c.if-start-previous_end.false, lt-ltb _ _ c.if-last-gt-SAMPLES_PER_JOC_FRAME.true)))
    ∙ ap (spaced told c.args.end) c.self.view_is

pub loop-block-preserved : goal.loop-block-preserved
unfolding spaced frame_length
loop-block-preserved g c =
    λ told tells. onward (c.loop-block.invariant told tells) c.from-timing.ensures c.loop-block-test.true
    (rw (← tells _ _ c.last.ensures, ← c.start.ensures, le-ltb _ _ c.if-start-previous_end.false, le-ltb _ _ c.if-last-gt-SAMPLES_PER_JOC_FRAME.false, c.start.ensures, c.end-previous_end.ensures))

pub returns : goal.returns
unfolding spaced
returns g c = λ told tells. sym (ended (c.loop-block.invariant told tells) c.loop-block-test.false) ∙ ap (spaced told c.args.end) c.self.view_is
