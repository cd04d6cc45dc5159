use Rattle.std.proofs.Common.{arith}
use Rattle.bits.proofs.Reading.{begins, leads_to, turns, turn_stops, ends, done}
use Rattle.standard.specs.Numbers.{row_width}
use Rattle.objects.proofs.Filling.{untouched, further}
use Rattle.objects.proofs.Turns.{codes-begun, code-more, codes-done}
use Rattle.objects.proofs.walk.parse_objects.Goals as goal

pub loop-object-init : goal.loop-object-init
loop-object-init c = record { leads = begins (λ s e p. codes-begun _ _ _ s e p _); filled = untouched }

pub overflow_mul-object : goal.overflow_mul-object
unfolding row_width
overflow_mul-object c = omega (arith, c.loop-object-test.true, c.requires, c.well_formed)

pub row_at-first-requires : goal.row_at-first-requires
unfolding row_width
row_at-first-requires c = omega (arith, c.loop-object-test.true, c.requires)

pub returns-in_err-parse_object : goal.returns-in_err-parse_object
unfolding row_width
returns-in_err-parse_object c = record {
  reads = turn_stops _ (leads_to c.loop-object.invariant.leads (λ s e p. code-more _ _ _ s e p _ _ _ c.loop-object-test.true)) (rw c.row_at-first.ensures at c.in_err-parse_object.ensures.reads) c.from_residual.ensures.1;
  filled = further c.loop-object.invariant.filled c.parse_object.ensures.filled (omega arith);
}

pub loop-object-preserved : goal.loop-object-preserved
unfolding row_width
loop-object-preserved c = record {
  leads = turns _ (leads_to c.loop-object.invariant.leads (λ s e p. code-more _ _ _ s e p _ _ _ c.loop-object-test.true)) (rw c.row_at-first.ensures at c.in_ok-parse_object.ensures.reads);
  filled = further c.loop-object.invariant.filled c.parse_object.ensures.filled (omega arith);
}

pub returns : goal.returns
returns c = record {
  reads = ends (leads_to c.loop-object.invariant.leads (λ s e p. codes-done _ _ _ s e p _ _ c.loop-object-test.false)) done;
  filled = c.loop-object.invariant.filled;
}
