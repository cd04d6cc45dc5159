use Rattle.std.proofs.Common.{refl}
use lib.Ieee.{of_bits}
use Rattle.standard.specs.Shown.{nothing_shown}
use Rattle.rack.proofs.Promised.{shown-twin}
use Rattle.rack.proofs.oamd_shown.Goals as goal

pub returns-in-Err : goal.returns-in-Err
unfolding nothing_shown of_bits
returns-in-Err c = rw c.number.ensures (shown-twin c.in-Err.ensures refl)
