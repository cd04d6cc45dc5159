-- The id, the config and the size.
use Rattle.std.proofs.Common.{not, refl, ap}
use Rattle.std.proofs.lemmas.Bool.{eq-eqb, ne_eqb}
use Rattle.bits.proofs.Reading.{then, stops, next, next_stops, then_as, stops_with}
use Rattle.emdf.proofs.Kept.{header-then}
use Rattle.bits.proofs.Reading.{passes, fails}
use Rattle.emdf.proofs.Reading.{same_here}
use Rattle.emdf.proofs.payloads.read_header.Goals as goal

pub returns-in_err-id : goal.returns-in_err-id
returns-in_err-id c = same_here (header-then _ _ _) (stops _ c.in_err-id.ensures c.from_residual.ensures.1)

pub returns-then-id-eq0 : goal.returns-then-id-eq0
returns-then-id-eq0 c = same_here (header-then _ _ _) (then _ c.in_ok-id.ensures (fails _ (ap not (eq-eqb _ _ c.if-id-eq0.true)) refl))

pub returns-in_err-skip_config : goal.returns-in_err-skip_config
returns-in_err-skip_config c =
    same_here (header-then _ _ _)
    (then _ c.in_ok-id.ensures (passes _ (ap not (ne_eqb _ _ c.if-id-eq0.false)) (next_stops _ c.in_err-skip_config.ensures c.from_residual-in_err-skip_config.ensures.1)))

pub returns-in_err-size : goal.returns-in_err-size
returns-in_err-size c =
    same_here (header-then _ _ _)
    (then _ c.in_ok-id.ensures (passes _ (ap not (ne_eqb _ _ c.if-id-eq0.false)) (next c.in_ok-skip_config.ensures (stops_with _ c.in_err-size.ensures c.from_residual-in_err-size.ensures.1))))

pub returns : goal.returns
returns c =
    same_here (header-then _ _ _)
    (then _ c.in_ok-id.ensures (passes _ (ap not (ne_eqb _ _ c.if-id-eq0.false)) (next c.in_ok-skip_config.ensures (then_as _ refl c.in_ok-size.ensures))))
