-- The blocks passed are over: those left decide.
use Rattle.std.proofs.Common.{arith, ◌≡◌, sym, ◌∙◌, ap, length}
use mathlib.Core.Bool.{or-true}
use native.Mathlib.Numerals.{add-one}
use borrow.Author.Tests.{lt-ltb, le-ltb, le-leb, lt-leb, ne_eqb}
use Rattle.standard.specs.Ramps.{still, walk, choice}
use Rattle.timing.proofs.Turns.{decided, onward, ended}
use Rattle.timing.proofs.updates.Timings.choose.Goals as goal

pub returns-then-sample-timing : goal.returns-then-sample-timing
unfolding choice walk
returns-then-sample-timing c =
    c.still.ensures
    ∙ sym (decided c.loop-row.invariant c.from-timing.ensures c.loop-row-test.true (rw (lt-ltb _ _ c.if-sample-timing.true)))
    ∙ ap (choice c.args.sample) c.self.view_is

pub returns-then-elapsed-timing : goal.returns-then-elapsed-timing
unfolding choice walk
returns-then-elapsed-timing c =
    sym
    (decided c.loop-row.invariant c.from-timing.ensures c.loop-row-test.true
    (rw (le-ltb _ _ c.if-sample-timing.false, ne_eqb c.from-timing.result.ramp_duration 0 (λ z. omega arith), lt-leb _ _ c.if-elapsed-timing.true, add-one)))
    ∙ ap (choice c.args.sample) c.self.view_is

pub loop-row-preserved : goal.loop-row-preserved
unfolding walk
loop-row-preserved c =
    onward c.loop-row.invariant c.from-timing.ensures c.loop-row-test.true
    (rw (le-ltb _ _ c.if-sample-timing.false, le-leb _ _ c.if-elapsed-timing.false, or-true, add-one))

pub returns : goal.returns
unfolding choice walk
returns c =
    let e : length c.self.inside.blocks.now ≡ c.loop-row.row = omega arith in
    c.still-2.ensures ∙ ap still e ∙ sym (ended c.loop-row.invariant c.loop-row-test.false) ∙ ap (choice c.args.sample) c.self.view_is
