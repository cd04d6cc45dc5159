-- The version, the key id and the payloads.
use Rattle.std.proofs.Common.{refl}
use Rattle.std.proofs.lemmas.Bool.{eq-eqb, ne_eqb}
use Rattle.standard.specs.Container.{passed}
use Rattle.bits.proofs.Reading.{then, stops, next, next_stops, then_with, stops_with}
use Rattle.emdf.proofs.Kept.{opening-then}
use Rattle.bits.proofs.Reading.{passes, fails}
use Rattle.emdf.proofs.Reading.{same_here}
use Rattle.emdf.proofs.payloads.find_object.Goals as goal

pub returns-in_err-version : goal.returns-in_err-version
returns-in_err-version c = same_here (opening-then _ _ _) (stops _ c.in_err-version.ensures c.from_residual.ensures.1)

pub returns-then-version-ne0 : goal.returns-then-version-ne0
returns-then-version-ne0 c = same_here (opening-then _ _ _) (then _ c.in_ok-version.ensures (fails _ (ne_eqb _ _ c.if-version-ne0.true) refl))

pub returns-in_err-_key : goal.returns-in_err-_key
unfolding passed
returns-in_err-_key c =
    same_here (opening-then _ _ _)
    (then _ c.in_ok-version.ensures (passes _ (eq-eqb _ _ c.if-version-ne0.false) (next_stops {V = Unit {0}} {say = λ a. a} _ (stops_with _ c.in_err-_key.ensures refl) c.from_residual-in_err-_key.ensures.1)))

pub returns : goal.returns
unfolding passed
returns c =
    same_here (opening-then _ _ _)
    (then _ c.in_ok-version.ensures (passes _ (eq-eqb _ _ c.if-version-ne0.false) (next (then_with _ c.in_ok-_key.ensures) c.first_object.ensures)))
