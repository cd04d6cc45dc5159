use Rattle.std.proofs.Common.{◌≡◌, ◌%◌, ◌∙◌, ap, pos, arith}
use Rattle.std.specs.Int.{int_max}
use mir.Syntax.{w16}
use mir.Facts.{to_z_pos}
use lib.Bits.{bit_or}
use lib.IntN.{nat_abs}
use Rattle.rows.proofs.Tests.{back}
use Rattle.update.proofs.MarkBits.{joined-bits, own-marked}
use Rattle.update.proofs.meaning.risen.Goals as goal

pub returns : goal.returns
returns c =
    let m : c.max.result ≡ int_max c.args.before (pos 0) = rw (back {z = c.args.before} c.ranges.before.sfits) at c.max.ensures.value in
    rw (back {z = c.max.result} c.max.type_inv, m)
    (to_z_pos w16 {n = bit_or c.args.bits (nat_abs (int_max c.args.before (pos 0))) % 32} (omega arith) ∙ ap pos (joined-bits c.args.bits _ c.args.before (own-marked c.args.before)))
