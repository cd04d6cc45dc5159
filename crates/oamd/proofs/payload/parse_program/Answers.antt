use Rattle.std.proofs.Common.{refl}
use Rattle.bits.proofs.Reading.{stops, then}
use Rattle.oamd.specs.Whole.{program_in}
use Rattle.oamd.proofs.Framing.{kept}
use Rattle.oamd.proofs.payload.parse_program.Goals as goal

pub returns-in_err-parse_program_assignment : goal.returns-in_err-parse_program_assignment
unfolding program_in
returns-in_err-parse_program_assignment c =
    record { reads = stops _ c.in_err-parse_program_assignment.ensures.reads c.from_residual.ensures.1; start_rest = refl; kept = kept }

pub returns : goal.returns
unfolding program_in
returns c =
    record { reads = then _ c.in_ok-parse_program_assignment.ensures.reads c.parse_body.ensures.reads; start_rest = c.parse_body.ensures.start_rest; kept = c.parse_body.ensures.kept }
