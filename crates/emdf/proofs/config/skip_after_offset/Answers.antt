-- Flag by flag.
use Rattle.std.proofs.Common.{not, ap, rules}
use Rattle.bits.proofs.Reading.{then, stops, next, next_stops, on_true, on_false, done}
use Rattle.standard.specs.Container.{pass, passed, variable, if_set, after_offset}
use Rattle.emdf.proofs.Kept.{dropped}
use Rattle.emdf.proofs.config.skip_after_offset.Goals as goal

pub returns-in_err-skip_flagged : goal.returns-in_err-skip_flagged
unfolding after_offset
returns-in_err-skip_flagged c =
    next_stops _ (c.in_err-skip_flagged.ensures (passed (variable 11)) (λ b b' r h. dropped _ r (search rules))) c.from_residual.ensures.1

pub returns-in_err-skip_flagged-2 : goal.returns-in_err-skip_flagged-2
unfolding after_offset
returns-in_err-skip_flagged-2 c =
    next (c.in_ok-skip_flagged.ensures (passed (variable 11)) (λ b b' r h. dropped _ r (search rules)))
    (next_stops _ (c.in_err-skip_flagged-2.ensures (passed (variable 2)) (λ b b' r h. dropped _ r (search rules))) c.from_residual-in_err-skip_flagged-2.ensures.1)

pub returns-in_err-skip_flagged-3 : goal.returns-in_err-skip_flagged-3
unfolding after_offset
returns-in_err-skip_flagged-3 c =
    next (c.in_ok-skip_flagged.ensures (passed (variable 11)) (λ b b' r h. dropped _ r (search rules)))
    (next (c.in_ok-skip_flagged-2.ensures (passed (variable 2)) (λ b b' r h. dropped _ r (search rules)))
    (next_stops _ (c.in_err-skip_flagged-3.ensures (pass 8) (λ b b' r h. search rules)) c.from_residual-in_err-skip_flagged-3.ensures.1))

pub returns-in_err-discard_unknown : goal.returns-in_err-discard_unknown
unfolding after_offset
returns-in_err-discard_unknown c =
    next (c.in_ok-skip_flagged.ensures (passed (variable 11)) (λ b b' r h. dropped _ r (search rules)))
    (next (c.in_ok-skip_flagged-2.ensures (passed (variable 2)) (λ b b' r h. dropped _ r (search rules)))
    (next (c.in_ok-skip_flagged-3.ensures (pass 8) (λ b b' r h. search rules))
    (stops _ c.in_err-discard_unknown.ensures c.from_residual-in_err-discard_unknown.ensures.1)))

pub returns-then-discard_unknown : goal.returns-then-discard_unknown
unfolding after_offset if_set
returns-then-discard_unknown c =
    next (c.in_ok-skip_flagged.ensures (passed (variable 11)) (λ b b' r h. dropped _ r (search rules)))
    (next (c.in_ok-skip_flagged-2.ensures (passed (variable 2)) (λ b b' r h. dropped _ r (search rules)))
    (next (c.in_ok-skip_flagged-3.ensures (pass 8) (λ b b' r h. search rules))
    (then _ c.in_ok-discard_unknown.ensures (on_false _ (ap not c.if-discard_unknown.true) done))))

pub returns : goal.returns
unfolding after_offset if_set
returns c =
    next (c.in_ok-skip_flagged.ensures (passed (variable 11)) (λ b b' r h. dropped _ r (search rules)))
    (next (c.in_ok-skip_flagged-2.ensures (passed (variable 2)) (λ b b' r h. dropped _ r (search rules)))
    (next (c.in_ok-skip_flagged-3.ensures (pass 8) (λ b b' r h. search rules))
    (then _ c.in_ok-discard_unknown.ensures (on_true _ (ap not c.if-discard_unknown.false) c.skip_handling.ensures))))
