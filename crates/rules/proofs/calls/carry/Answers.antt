-- The tests in their order, and what goes over.
use Rattle.std.proofs.Common.{refl, sym, ◌≡◌, ◌∙◌, ap, ℕ, ◌-◌, ◌≤◌, cond, List, ℤ, length, leb, inl, inr, true, false, ◌&&◌}
use mathlib.Core.Bool.{and-eq-true_iff}
use mathlib.Core.Option.{some}
use borrow.Author.Tests.{le-leb, lt-leb, leb-true, eqb-true, eqb-false}
use Rattle.standard.specs.Numbers.{block_limit, blocks_length, accepted, room, form, query}
use Rattle.standard.specs.Rows.{Row}
use Rattle.standard.specs.Tables.{rows_numbers}
use Rattle.standard.specs.Carried.{rule_of}
use Rattle.standard.specs.Calls.{over}
use Rattle.standard.specs.CarriedCalls.{Going, counts_within, frame_room, carried_room, carried_form, carried_of, table_rows, carry_under, carry, drop_ramp}
use Rattle.timing.specs.declared.frame.Frame.{Frame}
use Rattle.timing.specs.Frames.{Of}
use Rattle.timing.specs.Going.{going_in}
use Rattle.rows.proofs.Faults.{not_accepted}
use Rattle.timing.proofs.Over.{table-many}
use Rattle.rules.specs.declared.rule.Rule.{Rule}
use Rattle.rules.specs.Rules.{rule_said}
use Rattle.rules.proofs.Answers.{no-rule, no-frame, no-room, no-form, all-passed, carry-refused, carry-as, passed-counts, passed-form, length-timings, carry-fails, carry-passes, lasts, ends, go-under, room-under, stay-under}
use Rattle.rules.proofs.calls.carry.Goals.{else-is_some-via-then-is_some+else-not-is_empty, else-is_some-via-else-is_some}
use Rattle.rules.proofs.calls.carry.Goals as goal

pub returns-in_err-rule : goal.returns-in_err-rule
unfolding carry
returns-in_err-rule c = carry-refused _ c.from_residual.ensures.1 (rw c.in_err-rule.ensures.1 (no-rule _ _ _ _ _ _ c.in_err-rule.ensures.0))

pub returns-in_err-frame : goal.returns-in_err-frame
unfolding carry
returns-in_err-frame c =
    carry-refused _ c.from_residual-in_err-frame.ensures.1
    (no-frame _ _ _ _ _ _ c.in_ok-rule.ensures (frame_room c.args.timings.now c.args.blocks c.args.start.now) (λ e. rw e) _ c.in_err-frame.ensures.number (not_accepted _))

pub returns-then-block_rows-lt-BLOCKS_LENGTH : goal.returns-then-block_rows-lt-BLOCKS_LENGTH
unfolding carry blocks_length
returns-then-block_rows-lt-BLOCKS_LENGTH c =
    let k = passed-counts (counts_within c.args.blocks c.args.objects) (frame_room c.args.timings.now c.args.blocks c.args.start.now) c.in_ok-frame.ensures.number in
    let short : (frame_room c.args.timings.now c.args.blocks c.args.start.now && (leb blocks_length (length c.args.block_rows.now) && carried_room c.args.carried.now (rule_said c.in_ok-rule.rule))) ≡ false =
    rw (k.1, lt-leb _ _ c.if-block_rows-lt-BLOCKS_LENGTH.true) in
    carry-as (no-room _ _ _ _ _ c.args.rule c.in_ok-rule.ensures k.0 short) (record { number = refl; state = refl; carried = refl })

pub returns-in_err-going : goal.returns-in_err-going
unfolding carry blocks_length
returns-in_err-going c =
    let k = passed-counts (counts_within c.args.blocks c.args.objects) (frame_room c.args.timings.now c.args.blocks c.args.start.now) c.in_ok-frame.ensures.number in
    carry-refused _ c.from_residual-in_err-going.ensures.1
    (no-form _ _ _ _ _ _ c.in_ok-rule.ensures k.0 (carried_room c.args.carried.now (rule_said c.in_ok-rule.rule)) (rw (k.1, le-leb _ _ c.if-block_rows-lt-BLOCKS_LENGTH.false)) _ c.in_err-going.ensures.number (not_accepted _))

-- the rows before the last block
abbrev before : Frame → List ℤ → List Row
before frame block_rows = table_rows frame.start.now block_rows frame.objects (length frame.timings - 1)

-- past the tests of what is lent
passed : (rule : Rule) (number blocks objects : ℕ) (timings : List ℕ) (start block_rows carried : List ℤ) (g : Going) (frame : Frame) → rule_of number ≡ some (rule_said rule)
    → accepted ≡ cond (counts_within blocks objects) (cond (frame_room timings blocks start) accepted room) query
    → blocks_length ≤ length block_rows
    → accepted ≡ cond (carried_room carried (rule_said rule)) (cond (carried_form g carried (rule_said rule)) accepted form) room
    → Of timings blocks objects start frame
    → carry number timings blocks objects start block_rows carried g ≡ carry_under (rule_said rule) frame.timings (carried_of g carried) (before frame block_rows) carried
unfolding carry
passed rule number blocks objects timings start block_rows carried g frame r f b c o =
    let k = passed-counts (counts_within blocks objects) (frame_room timings blocks start) f in
    let m = passed-form (carried_room carried (rule_said rule)) (carried_form g carried (rule_said rule)) c in
    rw (o.timed, o.starts, o.many, length-timings blocks timings) (all-passed _ _ _ _ _ number r k.0 (rw (k.1, le-leb _ _ b, m.0)) m.1)

pub returns-in_err-test : goal.returns-in_err-test
unfolding drop_ramp blocks_length
returns-in_err-test c =
    carry-fails (rule_said c.in_ok-rule.rule) _ _ _ _ c.in_ok-going.ensures.says
    (passed _ _ _ _ _ _ _ _ _ c.in_ok-frame.frame c.in_ok-rule.ensures c.in_ok-frame.ensures.number c.if-block_rows-lt-BLOCKS_LENGTH.false c.in_ok-going.ensures.number c.in_ok-frame.ensures.says)
    _ c.from_residual-in_err-test.ensures.1 (rw (← c.remains.ensures) c.in_err-test.ensures) c.drop_ramp.ensures

-- a frame's timings, which are few
few : (blocks objects : ℕ) (timings : List ℕ) (start : List ℤ) (frame : Frame) → counts_within blocks objects ≡ true → Of timings blocks objects start frame → length frame.timings ≤ block_limit
few blocks objects timings start frame h o = rw (o.timed, length-timings blocks timings) (leb-true _ _ ((and-eq-true_iff _ _).0 h).0)

pub keep_before-requires : goal.keep_before-requires
unfolding blocks_length
keep_before-requires c =
    let r = rule_said c.in_ok-rule.rule in
    let f = c.in_ok-frame.frame in
    let rows = before f c.args.block_rows.now in
    let on = c.carried_on-next.ensures c.args.carried.now rows (table-many _ _ _ _) in
    let k = passed-counts (counts_within c.args.blocks c.args.objects) (frame_room c.args.timings.now c.args.blocks c.args.start.now) c.in_ok-frame.ensures.number in
    let m = passed-form (carried_room c.args.carried.now r) (carried_form (going_in c.args.state.now) c.args.carried.now r) c.in_ok-going.ensures.number in (
      few c.args.blocks c.args.objects c.args.timings.now c.args.start.now f k.0 c.in_ok-frame.ensures.says,
      (
        c.if-block_rows-lt-BLOCKS_LENGTH.false,
        room-under r c.args.carried.now _ rows f.timings m.0
            (lasts r f.timings _ _ rows c.in_ok-going.ensures.says _ on (sym c.is_some.ensures ∙ c.if-is_some.true)),
      ),
    )

pub returns-then-not-is_empty : goal.returns-then-not-is_empty
unfolding blocks_length
returns-then-not-is_empty c =
    let r = rule_said c.in_ok-rule.rule in
    let f = c.in_ok-frame.frame in
    let rows = before f c.args.block_rows.now in
    let on = c.carried_on-next.ensures c.args.carried.now rows (table-many _ _ _ _) in
    let long = eqb-false _ _ (sym c.is_empty.ensures ∙ c.if-not-is_empty.true) in
    carry-passes r _ _ _ rows c.in_ok-going.ensures.says
    (passed _ _ _ _ _ _ _ _ _ f c.in_ok-rule.ensures c.in_ok-frame.ensures.number c.if-block_rows-lt-BLOCKS_LENGTH.false c.in_ok-going.ensures.number c.in_ok-frame.ensures.says)
    (rw (← c.remains.ensures) c.in_ok-test.ensures) on c.put.ensures
    (c.keep_before.ensures
    ∙ ap (λ (rs : List Row). over (rows_numbers rs) c.args.carried.now)
    (sym (go-under r _ rows f.timings long (lasts r f.timings _ _ rows c.in_ok-going.ensures.says _ on (sym c.is_some.ensures ∙ c.if-is_some.true)))))

pub returns-else-is_some : goal.returns-else-is_some
unfolding blocks_length
returns-else-is_some c =
    let r = rule_said c.in_ok-rule.rule in
    let f = c.in_ok-frame.frame in
    let rows = before f c.args.block_rows.now in
    let on = c.carried_on-next.ensures c.args.carried.now rows (table-many _ _ _ _) in
    let m = passed-form (carried_room c.args.carried.now r) (carried_form (going_in c.args.state.now) c.args.carried.now r) c.in_ok-going.ensures.number in
    let stays = stay-under r (going_in c.args.state.now) c.args.carried.now m.1 m.0 f.timings rows _ (sym c.in_ok-test.ensures) in
    carry-passes r _ _ _ rows c.in_ok-going.ensures.says
    (passed _ _ _ _ _ _ _ _ _ f c.in_ok-rule.ensures c.in_ok-frame.ensures.number c.if-block_rows-lt-BLOCKS_LENGTH.false c.in_ok-going.ensures.number c.in_ok-frame.ensures.says)
    (rw (← c.remains.ensures) c.in_ok-test.ensures) on c.put.ensures
    (elim c.else-is_some.branch [
      | else-is_some-via-then-is_some+else-not-is_empty w ↦ sym (stays (inl (eqb-true _ _ (sym w.is_empty.ensures ∙ w.if-not-is_empty.false))))
      | else-is_some-via-else-is_some w ↦ sym (stays (inr (ends r f.timings _ _ rows c.in_ok-going.ensures.says _ on (sym c.is_some.ensures ∙ w.if-is_some.false))))
    ])
