-- The tests in their order, and what is taken up.
use Rattle.std.proofs.Common.{◌≡◌, ℕ, cond, List, ℤ}
use mathlib.Core.Option.{some}
use Rattle.standard.specs.Numbers.{accepted, room, form, query}
use Rattle.standard.specs.Carried.{rule_of}
use Rattle.standard.specs.Tables.{rows_of}
use Rattle.standard.specs.CarriedCalls.{Going, counts_within, frame_room, carried_room, carried_form, carried_of, timing_under, timing_by_rule, drop_ramp}
use Rattle.timing.specs.declared.frame.Frame.{Frame}
use Rattle.timing.specs.Frames.{Of}
use Rattle.rows.proofs.Faults.{not_accepted}
use Rattle.rules.specs.declared.rule.Rule.{Rule}
use Rattle.rules.specs.Rules.{rule_said}
use Rattle.rules.proofs.Answers.{no-rule, no-frame, no-form, all-passed, timing-refused, passed-counts, passed-form, timing-fails, timing-passes}
use Rattle.rules.proofs.calls.timing_by_rule.Goals as goal

pub returns-in_err-rule : goal.returns-in_err-rule
unfolding timing_by_rule
returns-in_err-rule c = timing-refused _ c.from_residual.ensures.1 (rw c.in_err-rule.ensures.1 (no-rule _ _ _ _ _ _ c.in_err-rule.ensures.0))

pub returns-in_err-frame : goal.returns-in_err-frame
unfolding timing_by_rule
returns-in_err-frame c =
    timing-refused _ c.from_residual-in_err-frame.ensures.1
    (no-frame _ _ _ _ _ _ c.in_ok-rule.ensures (frame_room c.args.timings.now c.args.blocks c.args.start.now) (λ e. rw e) _ c.in_err-frame.ensures.number (not_accepted _))

pub returns-in_err-going : goal.returns-in_err-going
unfolding timing_by_rule
returns-in_err-going c =
    let k = passed-counts (counts_within c.args.blocks c.args.objects) (frame_room c.args.timings.now c.args.blocks c.args.start.now) c.in_ok-frame.ensures.number in
    timing-refused _ c.from_residual-in_err-going.ensures.1
    (no-form _ _ _ _ _ _ c.in_ok-rule.ensures k.0 (carried_room c.args.carried.now (rule_said c.in_ok-rule.rule)) (rw k.1) _ c.in_err-going.ensures.number (not_accepted _))

-- past the tests of what is lent
passed : (rule : Rule) (number blocks objects : ℕ) (timings : List ℕ) (start carried : List ℤ) (g : Going) (frame : Frame) → rule_of number ≡ some (rule_said rule)
    → accepted ≡ cond (counts_within blocks objects) (cond (frame_room timings blocks start) accepted room) query
    → accepted ≡ cond (carried_room carried (rule_said rule)) (cond (carried_form g carried (rule_said rule)) accepted form) room
    → Of timings blocks objects start frame
    → timing_by_rule number timings blocks objects start carried g ≡ timing_under (rule_said rule) frame.timings (carried_of g carried) (rows_of frame.objects frame.start.now)
unfolding timing_by_rule
passed rule number blocks objects timings start carried g frame r f c o =
    let k = passed-counts (counts_within blocks objects) (frame_room timings blocks start) f in
    let m = passed-form (carried_room carried (rule_said rule)) (carried_form g carried (rule_said rule)) c in
    rw (o.timed, o.starts, o.many) (all-passed _ _ _ _ _ number r k.0 (rw (k.1, m.0)) m.1)

pub returns-in_err-test : goal.returns-in_err-test
unfolding drop_ramp
returns-in_err-test c =
    timing-fails (rule_said c.in_ok-rule.rule) _ _ _ _ c.in_ok-going.ensures.says c.taken_up-taken.ensures
    (passed _ _ _ _ _ _ _ _ c.in_ok-frame.frame c.in_ok-rule.ensures c.in_ok-frame.ensures.number c.in_ok-going.ensures.number c.in_ok-frame.ensures.says)
    _ c.from_residual-in_err-test.ensures.1 (rw (← c.remains.ensures) c.in_err-test.ensures) c.drop_ramp.ensures

pub returns : goal.returns
returns c =
    timing-passes (rule_said c.in_ok-rule.rule) _ _ _ _ c.in_ok-going.ensures.says c.taken_up-taken.ensures
    (passed _ _ _ _ _ _ _ _ c.in_ok-frame.frame c.in_ok-rule.ensures c.in_ok-frame.ensures.number c.in_ok-going.ensures.number c.in_ok-frame.ensures.says)
    (rw (← c.remains.ensures) c.in_ok-test.ensures) c.put.ensures
