-- The walk by starts.
use Rattle.std.proofs.Common.{arith, rules, ap, ◌∙◌}
use Rattle.standard.specs.Carried.{following}
use Rattle.timing.proofs.Rules.{following-starts}
use Rattle.timing.proofs.updates.Timings.validate_following.Goals as goal

pub returns : goal.returns
returns c =
    c.validate_within.ensures (λ t. t.start) (λ t n e. search rules)
    ∙ following-starts _ _
    ∙ ap (λ n. following n c.args.self.now) (omega arith)
