use Rattle.std.proofs.Common.{arith}
use Rattle.bits.proofs.Reading.{begins, leads_to, turns, turn_stops, ends, done}
use Rattle.objects.proofs.Filling.{untouched, further}
use Rattle.objects.proofs.Timed.{one_more, no_more, all-stored}
use Rattle.objects.proofs.timings.parse_timings.Goals as goal

pub loop-block-init : goal.loop-block-init
loop-block-init c = record {
  leads = begins (λ s e p. all-stored _ s e p _ _ c.requires.1);
  filled = untouched;
}

pub returns-in_err-parse_timing : goal.returns-in_err-parse_timing
returns-in_err-parse_timing c = record {
  reads = turn_stops _ (leads_to c.loop-block.invariant.leads (λ s e p. one_more _ s e p _ _ _ c.loop-block-test.true)) c.in_err-parse_timing.ensures.reads c.from_residual.ensures.1;
  filled = further c.loop-block.invariant.filled c.parse_timing.ensures.filled (omega arith);
}

pub loop-block-preserved : goal.loop-block-preserved
loop-block-preserved c = record {
  leads = turns _ (leads_to c.loop-block.invariant.leads (λ s e p. one_more _ s e p _ _ _ c.loop-block-test.true)) c.in_ok-parse_timing.ensures.reads;
  filled = further c.loop-block.invariant.filled c.parse_timing.ensures.filled (omega arith);
}

pub returns : goal.returns
returns c = record {
  reads = ends (leads_to c.loop-block.invariant.leads (λ s e p. no_more _ s e p _ _ _ c.loop-block-test.false)) done;
  filled = c.loop-block.invariant.filled;
}
