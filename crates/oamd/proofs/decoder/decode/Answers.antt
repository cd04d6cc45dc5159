use Rattle.std.proofs.Common.{rules, pos, refl, sym, arith}
use Rattle.std.proofs.lemmas.List.{length-take-le}
use Rattle.standard.specs.Numbers.{start_length, payload_limit}
use Rattle.rows.proofs.Keeping.{countable}
use Rattle.rows.proofs.Written.{head-filled}
use Rattle.oamd.proofs.Ends.{room-retained, room-start, room-blocks, room-timings, retainable, accepted, declined, settled}
use Rattle.oamd.proofs.decoder.decode.Goals as goal

pub bits-limit-requires : goal.bits-limit-requires
unfolding payload_limit
bits-limit-requires c = omega (arith, c.in_ok-test.ensures.near)

pub invariant_of-tables : goal.invariant_of-tables
invariant_of-tables c = record { for_blocks = room-blocks c.in_ok-test.ensures; for_timings = room-timings c.in_ok-test.ensures }

pub invariant_of-held : goal.invariant_of-held
invariant_of-held c =
    let r = c.in_ok-test.ensures in
    record { long = room-retained r; countable = countable _ (room-retained r) r.form }

pub parse_payload-requires : goal.parse_payload-requires
unfolding payload_limit
parse_payload-requires c =
    let r = c.in_ok-test.ensures in
    record {
      for_start = room-start r;
      nothing = refl;
    }

pub retain-requires : goal.retain-requires
retain-requires c =
    retainable c.in_ok-test.ensures _ c.parse_payload.new.start c.parse_payload.new.tables (rw (c.new-bits.ensures, c.bits-limit.ensures) at c.in-Ok.ensures.reads.answer)

pub slice_bounds-fill-end : goal.slice_bounds-fill-end
unfolding start_length
slice_bounds-fill-end c = omega (arith, room-start c.in_ok-test.ensures, c.parse_payload.auto.start)

pub slice_bounds-fill-end-in-Err : goal.slice_bounds-fill-end-in-Err
unfolding start_length
slice_bounds-fill-end-in-Err c = sym (length-take-le 2048 _ (omega (arith, room-start c.in_ok-test.ensures, c.parse_payload.auto.start)))

pub returns-in-Ok : goal.returns-in-Ok
returns-in-Ok c =
    let same = c.in-Ok.ensures.kept.same in
    settled c.parse_payload.new.tables (search rules) (search rules)
    (accepted c.in_ok-test.ensures _ c.parse_payload.new.start c.parse_payload.new.tables (rw (c.new-bits.ensures, c.bits-limit.ensures) at c.in-Ok.ensures.reads.answer) c.retain.ensures)

pub returns-in-Err : goal.returns-in-Err
unfolding start_length
returns-in-Err c =
    let e = c.into.ensures in
    let same = c.in-Err.ensures.kept.same in
    let bits_answer = rw (c.new-bits.ensures, c.bits-limit.ensures) at c.in-Err.ensures.reads.answer in
    let cleared = head-filled 2048 c.parse_payload.new.start _ (pos 0) (omega (arith, room-start c.in_ok-test.ensures, c.parse_payload.auto.start)) (c.fill.ensures.after (λ y h. search rules)) in
    settled c.clear.new.self (search rules) (search rules)
    (rw (e, cleared) (declined c.in_ok-test.ensures bits_answer c.parse_payload.new.start c.in-Err.ensures.start_rest refl refl c.in-Err.ensures.kept c.clear.ensures))
