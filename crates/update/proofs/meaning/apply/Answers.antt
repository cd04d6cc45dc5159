use Rattle.std.proofs.Common.{rules}
use Rattle.standard.specs.Marks.{row_mark}
use Rattle.standard.specs.Meaning.{row_picture, updated}
use Rattle.rows.proofs.Tests.{back}
use Rattle.update.specs.Say.{number_said}
use Rattle.update.proofs.Wording.{word-before}
use Rattle.update.proofs.meaning.apply.Goals as goal

pub returns-in-Inactive : goal.returns-in-Inactive
unfolding row_mark row_picture updated
returns-in-Inactive c =
    rw (
      c.in-Inactive.is,
      back {z = c.number.result} c.number.type_inv,
      c.number.ensures,
      back {z = c.row_mark.result} c.row_mark.type_inv,
      c.row_mark.ensures,
      c.is_dynamic-dynamic.ensures,
      back {z = c.args.row.mark} (search rules),
    )

pub returns-in-Active : goal.returns-in-Active
unfolding row_mark row_picture updated
returns-in-Active c =
    rw (
      c.in-Active.is,
      back {z = c.number-in-Active.result} c.number-in-Active.type_inv,
      c.number-in-Active.ensures,
      back {z = c.new_gain.result} c.new_gain.type_inv,
      c.new_gain.ensures,
      back {z = c.or_before.result} c.or_before.type_inv,
      c.or_before.ensures,
      c.row_picture.ensures,
      back {z = c.row_mark-in-Active.result} c.row_mark-in-Active.type_inv,
      c.row_mark-in-Active.ensures,
      c.is_dynamic-dynamic.ensures,
      back {z = c.args.previous_gain} c.ranges.previous_gain.sfits,
      back {z = c.args.row.gain} (search rules),
      back {z = c.args.row.priority} (search rules),
      back {z = c.args.row.mark} (search rules),
      word-before number_said c.in-Active.basic.priority,
    )
