-- The number, and what its largest value has added to it.
use Rattle.std.proofs.Common.{ℕ, ◌^◌, ◌≤◌, ◌<◌, arith}
use Rattle.std.proofs.lemmas.Bool.{eq-eqb, ne_eqb}
use lib.Pow.{pow_mono}
use Rattle.bits.proofs.Reading.{then, stops, then_with, stops_with, on_true, on_false, done, has}
use Rattle.emdf.specs.Say.{large}
use Rattle.emdf.proofs.Cuts.{bits-lt}
use Rattle.emdf.proofs.Nearness.{min-small}
use Rattle.emdf.proofs.Kept.{extended-then}
use Rattle.emdf.proofs.Reading.{same_here}
use Rattle.emdf.proofs.variable.read_extended.Goals as goal

small : (w v : ℕ) → w ≤ 11 → v < 2 ^ w → v ≤ large
small w v h l = omega (arith, pow_mono {j = 11} h)

pub returns-in_err-value : goal.returns-in_err-value
returns-in_err-value c = same_here (extended-then _ _ _ _) (stops _ c.in_err-value.ensures c.from_residual.ensures.1)

pub returns-then-value-two_to : goal.returns-then-value-two_to
returns-then-value-two_to c =
    same_here (extended-then _ _ _ _)
    (then _ c.in_ok-value.ensures (on_false _ (ne_eqb _ _ (rw c.two_to.ensures at c.if-value-two_to.true))
    (rw (min-small _ (small _ _ c.requires (has (bits-lt _) c.in_ok-value.ensures))) done)))

pub returns-in_err-more : goal.returns-in_err-more
returns-in_err-more c =
    same_here (extended-then _ _ _ _)
    (then _ c.in_ok-value.ensures (on_true _ (eq-eqb _ _ (rw c.two_to.ensures at c.if-value-two_to.false)) (stops_with _ c.in_err-more.ensures c.from_residual-in_err-more.ensures.1)))

pub returns : goal.returns
returns c =
    same_here (extended-then _ _ _ _)
    (then _ c.in_ok-value.ensures (on_true _ (eq-eqb _ _ (rw c.two_to.ensures at c.if-value-two_to.false)) (rw c.min.ensures (then_with _ c.in_ok-more.ensures))))
