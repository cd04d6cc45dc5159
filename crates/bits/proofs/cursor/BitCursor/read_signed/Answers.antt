use mir.Syntax.{w16}
use mir.Facts.{to_z-of_z}
use Rattle.bits.specs.Reads.{read_signed}
use Rattle.bits.proofs.Fields.{read-lt}
use Rattle.bits.proofs.Reading.{stops_with, then_with, has}
use Rattle.bits.proofs.cursor.BitCursor.read_signed.Goals as goal

pub returns-in_err-value-clause-reads : goal.returns-in_err-value-clause-reads
unfolding read_signed
returns-in_err-value-clause-reads c = stops_with _ c.in_err-value.ensures.reads c.from_residual.ensures.1

pub with_sign-requires : goal.with_sign-requires
with_sign-requires c = (c.requires, has (read-lt _ _) c.in_ok-value.ensures.reads)

pub returns-clause-reads : goal.returns-clause-reads
unfolding read_signed
returns-clause-reads c =
    rw (to_z-of_z {w = w16} (record { sfits = c.with_sign.type_inv }), c.with_sign.ensures) (then_with _ c.in_ok-value.ensures.reads)
