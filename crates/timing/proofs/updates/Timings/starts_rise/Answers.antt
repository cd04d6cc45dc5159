-- The starts rise where the test of their order says so.
use Rattle.std.proofs.Common.{rules, ◌∙◌, ap, get_or}
use Rattle.std.proofs.lemmas.Fn.{always_returns_same}
use Rattle.standard.specs.Timing.{rising}
use Rattle.timing.proofs.Pairs.{rises-sorted}
use Rattle.timing.proofs.updates.Timings.starts_rise.Goals as goal

pub returns-then-not-is_sorted_by_key : goal.returns-then-not-is_sorted_by_key
returns-then-not-is_sorted_by_key c =
    let e = rises-sorted _ _ (c.is_sorted_by_key.ensures.cases (λ x. get_or x 0 0) (always_returns_same _ _ _ (λ a r f' h. search rules))) ∙ ap (rising 0) c.self.view_is in
    rw (← e, c.if-not-is_sorted_by_key.true)

pub returns : goal.returns
returns c =
    let e = rises-sorted _ _ (c.is_sorted_by_key.ensures.cases (λ x. get_or x 0 0) (always_returns_same _ _ _ (λ a r f' h. search rules))) ∙ ap (rising 0) c.self.view_is in
    rw (← e, c.if-not-is_sorted_by_key.false)
