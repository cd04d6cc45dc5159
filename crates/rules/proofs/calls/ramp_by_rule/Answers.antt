-- The tests in their order, and the choice.
use Rattle.std.proofs.Common.{ltb, leb, true}
use Rattle.standard.specs.Numbers.{frame_length, block_limit}
use Rattle.standard.specs.CarriedCalls.{timings_room, going_form, ramp_by_rule}
use Rattle.timing.specs.Going.{going_in}
use Rattle.rows.proofs.Faults.{not_accepted}
use Rattle.rules.specs.Rules.{rule_said}
use Rattle.rules.proofs.Answers.{no-rule, no-frame, no-form, all-passed, ramp-refused, ramp-as, ramp-under, sample-refused, sample-passed, going-passed, passed-counts}
use Rattle.rules.proofs.calls.ramp_by_rule.Goals as goal

pub returns-in_err-rule : goal.returns-in_err-rule
unfolding ramp_by_rule
returns-in_err-rule c = ramp-refused _ c.from_residual.ensures.1 (rw c.in_err-rule.ensures.1 (no-rule _ _ _ _ _ _ c.in_err-rule.ensures.0))

pub returns-in_err-sample : goal.returns-in_err-sample
unfolding ramp_by_rule
returns-in_err-sample c =
    let k = sample-refused (ltb c.args.sample frame_length) _ _ c.in_err-sample.ensures in
    ramp-refused _ c.from_residual-in_err-sample.ensures.1
    (no-frame _ _ _ _ _ _ c.in_ok-rule.ensures (timings_room c.args.timings.now c.args.blocks) (λ e. e) _ (rw (k.0, k.1)) (not_accepted _))

pub returns-in_err-timings : goal.returns-in_err-timings
unfolding ramp_by_rule
returns-in_err-timings c =
    let k = sample-passed (ltb c.args.sample frame_length) _ _ c.in_ok-sample.ensures in
    ramp-refused _ c.from_residual-in_err-timings.ensures.1
    (no-frame _ _ _ _ _ _ c.in_ok-rule.ensures (timings_room c.args.timings.now c.args.blocks) (λ e. e) _ (rw k.0 c.in_err-timings.ensures.number) (not_accepted _))

pub returns-in_err-going : goal.returns-in_err-going
unfolding ramp_by_rule
returns-in_err-going c =
    let k = sample-passed (ltb c.args.sample frame_length) _ _ c.in_ok-sample.ensures in
    let m = passed-counts (leb c.args.blocks block_limit) (timings_room c.args.timings.now c.args.blocks) c.in_ok-timings.ensures.number in
    ramp-refused _ c.from_residual-in_err-going.ensures.1
    (no-form _ _ _ _ _ _ c.in_ok-rule.ensures (rw (k.0, m.0)) true m.1 _ c.in_err-going.ensures.number (not_accepted _))

pub returns : goal.returns
unfolding ramp_by_rule
returns c =
    let k = sample-passed (ltb c.args.sample frame_length) _ _ c.in_ok-sample.ensures in
    let m = passed-counts (leb c.args.blocks block_limit) (timings_room c.args.timings.now c.args.blocks) c.in_ok-timings.ensures.number in
    let f = going-passed (going_form (going_in c.args.state.now) (rule_said c.in_ok-rule.rule)) c.in_ok-going.ensures.number in
    ramp-as (all-passed _ _ _ _ _ c.args.rule c.in_ok-rule.ensures (rw (k.0, m.0)) m.1 f)
    (rw (← ramp-under, ← c.in_ok-going.ensures.says, ← k.1, ← c.in_ok-timings.ensures.says) c.ramp.ensures)
