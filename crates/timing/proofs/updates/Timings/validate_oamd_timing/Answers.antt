-- The walk by ends.
use Rattle.std.proofs.Common.{rules, ◌∙◌}
use Rattle.standard.specs.Timing.{end_of}
use Rattle.timing.proofs.Rules.{apart-ends}
use Rattle.timing.proofs.updates.Timings.validate_oamd_timing.Goals as goal

pub returns : goal.returns
returns c = c.validate_within.ensures end_of (λ t n e. search rules) ∙ apart-ends _ _
