use Rattle.std.proofs.Common.{ap, rules}
use Rattle.standard.specs.Meaning.{new_picture}
use Rattle.standard.specs.Rows.{Picture}
use Rattle.rows.specs.Say.{zone_said, size_said}
use Rattle.rows.proofs.Tests.{back}
use Rattle.update.specs.Say.{number_said}
use Rattle.update.proofs.Wording.{word-before}
use Rattle.update.proofs.meaning.new_picture.Goals as goal

pub returns : goal.returns
unfolding new_picture
returns c =
    rw (
      back {z = c.moved.result.distance} (search rules),
      ap (λ (p : Picture). p.position) c.moved.ensures,
      c.or_before.ensures,
      c.or_before-2.ensures,
      back {z = c.or_before-3.result} c.or_before-3.type_inv,
      c.or_before-3.ensures,
      back {z = c.args.groups.lock.word} (search rules),
      word-before zone_said c.args.groups.zone,
      word-before size_said c.args.groups.size,
      word-before number_said c.args.groups.screen,
      back {z = c.args.before.screen} (search rules),
    )
