-- What is left to read is the later timings, over the table so far.
use Rattle.std.proofs.Common.{◌*◌, ◌-◌}
use Rattle.bits.specs.Parsed.{map_p, times}
use Rattle.bits.proofs.Reading.{Leads}
use Rattle.standard.specs.Syntax.{timing}
use Rattle.standard.specs.Tables.{timing_numbers}
use Rattle.standard.specs.Calls.{over}
use Rattle.objects.specs.Fills.{Filled}
use Rattle.objects.proofs.Timed.{storing}
use Rattle.objects.proofs.timings.parse_timings.Given as goal

abbrev pub invariant-loop-block : goal.invariant-loop-block
invariant-loop-block l = record {
  leads : Leads (map_p (λ ts. over (timing_numbers ts) l.fn.timings) (times l.block_count (timing l.sample_offset))) l.fn.bits (storing l.sample_offset (l.block_count - l.block) l.block l.timings) l.bits;
  filled : Filled (2 * l.block_count) l.fn.timings l.timings;
}
