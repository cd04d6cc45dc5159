use Rattle.std.proofs.Common.{◌≡◌, ◌-◌, refl, arith}
use Rattle.standard.specs.Meaning.{updated}
use Rattle.rows.specs.Say.{row_said}
use Rattle.rows.specs.Kinds.{kind_said}
use Rattle.rows.proofs.Tests.{back}
use Rattle.update.specs.Say.{update_said}
use Rattle.bits.proofs.Reading.{begins, leads_to, turns, turn_stops, ends, done}
use Rattle.objects.specs.Walk.{gain_before}
use Rattle.objects.proofs.Filling.{untouched}
use Rattle.objects.proofs.Places.{within}
use Rattle.objects.proofs.Turns.{block_more, blocks-done, put-within}
use Rattle.objects.proofs.walk.parse_object.Goals as goal

pub loop-block-init : goal.loop-block-init
loop-block-init c = record {
  leads = begins (λ s e p. let k : c.args.column.blocks - 0 ≡ c.args.column.blocks = omega arith in rw k refl);
  filled = untouched;
}

pub returns-in_err-words : goal.returns-in_err-words
returns-in_err-words c = record {
  reads = turn_stops _ (leads_to c.loop-block.invariant.leads (block_more _ _ _ _ _ _ _ c.loop-block-test.true)) c.in_err-words.ensures.reads c.from_residual.ensures.1;
  filled = c.loop-block.invariant.filled;
}

pub gain_before-gain-requires : goal.gain_before-gain-requires
gain_before-gain-requires c =
    let room = within c.args.column.objects c.args.column.blocks c.loop-block.block c.args.column.object c.loop-block-test.true c.requires.0 in
    omega (arith, room, c.loop-block.invariant.filled.long, c.requires)

pub place-requires : goal.place-requires
place-requires c =
    let room = within c.args.column.objects c.args.column.blocks c.loop-block.block c.args.column.object c.loop-block-test.true c.requires.0 in
    omega (arith, room, c.well_formed, c.requires)

pub put_row-requires : goal.put_row-requires
put_row-requires c =
    let room = within c.args.column.objects c.args.column.blocks c.loop-block.block c.args.column.object c.loop-block-test.true c.requires.0 in
    omega (arith, c.place.ensures, room, c.loop-block.invariant.filled.long, c.requires)

pub loop-block-preserved : goal.loop-block-preserved
loop-block-preserved c =
    let room = within c.args.column.objects c.args.column.blocks c.loop-block.block c.args.column.object c.loop-block-test.true c.requires.0 in
    let row : row_said c.apply-row.result ≡ updated (kind_said c.args.column.kind) (gain_before c.args.column.objects c.loop-block.block c.args.column.object c.loop-block.blocks) (update_said c.in_ok-words.words) (row_said c.loop-block.row)
    = rw (back {z = c.gain_before-gain.result} c.gain_before-gain.type_inv, c.gain_before-gain.ensures) at c.apply-row.ensures in
    rw (c.put_row.ensures, c.place.ensures, row)
    (record {
      leads = turns _ (leads_to c.loop-block.invariant.leads (block_more _ _ _ _ _ _ _ c.loop-block-test.true)) c.in_ok-words.ensures.reads;
      filled = put-within _ _ c.loop-block.invariant.filled room;
    })

pub returns : goal.returns
returns c = record {
  reads = ends (leads_to c.loop-block.invariant.leads (blocks-done _ _ _ _ _ _ _ c.loop-block-test.false)) done;
  filled = c.loop-block.invariant.filled;
}
