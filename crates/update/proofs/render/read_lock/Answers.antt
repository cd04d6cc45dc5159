use Rattle.std.proofs.Common.{sym}
use Rattle.standard.specs.Updates.{bit}
use Rattle.bits.proofs.Reading.{stops_with, then_as}
use Rattle.update.proofs.Numbers.{flag-bit}
use Rattle.update.proofs.render.read_lock.Goals as goal

pub returns-in_err-lock : goal.returns-in_err-lock
returns-in_err-lock c = stops_with _ c.in_err-lock.ensures.reads c.from_residual.ensures.1

pub returns : goal.returns
returns c = then_as bit (sym (flag-bit _ c.from.ensures c.from.type_inv)) c.in_ok-lock.ensures.reads
