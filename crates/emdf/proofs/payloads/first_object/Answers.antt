-- A header, and then it is the object payload's, or the payload is passed over.
use Rattle.std.proofs.Common.{◌≤◌, ap, ◌∙◌, arith}
use Rattle.std.proofs.lemmas.Bool.{eq-eqb, ne_eqb}
use Rattle.bits.proofs.Reading.{then, stops, next, next_stops, on_true, on_false, done, has, tells}
use Rattle.emdf.specs.Say.{large}
use Rattle.emdf.proofs.Cuts.{pass-tells}
use Rattle.emdf.proofs.ListLaws.{near-header-small}
use Rattle.emdf.proofs.Places.{near-header-forward}
use Rattle.emdf.proofs.Kept.{first_object-then}
use Rattle.emdf.proofs.Reading.{same_here}
use Rattle.emdf.proofs.payloads.first_object.Goals as goal

pub returns-in_err-header : goal.returns-in_err-header
returns-in_err-header c =
    c.loop-header.invariant.rest _ _ (same_here (first_object-then _ _ _ (rw c.loop-header.invariant.end c.requires)) (stops _ c.in_err-header.ensures c.from_residual.ensures.1))

pub returns-then-header-eq-OBJECT_ID : goal.returns-then-header-eq-OBJECT_ID
returns-then-header-eq-OBJECT_ID c =
    c.loop-header.invariant.rest _ _ (same_here (first_object-then _ _ _ (rw c.loop-header.invariant.end c.requires)) (then _ c.in_ok-header.ensures (on_true _ (eq-eqb _ _ c.if-header-eq-OBJECT_ID.true) done)))

pub overflow_mul-header : goal.overflow_mul-header
overflow_mul-header c = let h : c.in_ok-header.header.size ≤ large = has near-header-small c.in_ok-header.ensures in omega arith

pub returns-in_err-skip : goal.returns-in_err-skip
returns-in_err-skip c =
    c.loop-header.invariant.rest _ _
    (same_here (first_object-then _ _ _ (rw c.loop-header.invariant.end c.requires))
    (then _ c.in_ok-header.ensures (on_false _ (ne_eqb _ _ c.if-header-eq-OBJECT_ID.false) (next_stops _ c.in_err-skip.ensures c.from_residual-in_err-skip.ensures.1))))

pub loop-header-preserved : goal.loop-header-preserved
loop-header-preserved c = record {
  end = c.in_ok-skip.ensures.end ∙ c.in_ok-header.ensures.end ∙ c.loop-header.invariant.end;
  rest = λ r d h.
      c.loop-header.invariant.rest _ _
      (same_here (first_object-then _ _ _ (rw c.loop-header.invariant.end c.requires))
      (then _ c.in_ok-header.ensures (on_false _ (ne_eqb _ _ c.if-header-eq-OBJECT_ID.false) (next c.in_ok-skip.ensures h))));
}

pub loop-header-smaller : goal.loop-header-smaller
loop-header-smaller c =
    omega (arith, tells near-header-forward c.in_ok-header.ensures, tells (pass-tells _) c.in_ok-skip.ensures, ap (λ b. b.0) c.in_ok-header.ensures.end, ap (λ b. b.0) c.in_ok-skip.ensures.end)
