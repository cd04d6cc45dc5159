use Rattle.std.proofs.Common.{ℕ, ◌+◌, ◌*◌, ◌^◌, ◌<◌, List, arith}
use Rattle.bits.proofs.Laws.{read-lt}
use Rattle.bits.proofs.Reading.{begins, ends, then, stops, done, has}
use Rattle.standard.specs.Numbers.{timings_length}
use Rattle.standard.proofs.RampTable.{offset-le}
use Rattle.objects.specs.Fills.{Filled}
use Rattle.objects.proofs.Filling.{untouched, further}
use Rattle.objects.proofs.Parts.{head, head_read}
use Rattle.objects.proofs.timings.parse_block_timings.Goals as goal

pub returns-in_err-sample_offset : goal.returns-in_err-sample_offset
unfolding head
returns-in_err-sample_offset c = record {
  reads = ends (begins (head_read _)) (stops _ c.in_err-sample_offset.ensures c.from_residual.ensures.1);
  filled = untouched;
}

pub returns-in_err-later_blocks : goal.returns-in_err-later_blocks
unfolding head
returns-in_err-later_blocks c = record {
  reads = ends (begins (head_read _)) (then _ c.in_ok-sample_offset.ensures (stops _ c.in_err-later_blocks.ensures.reads c.from_residual-in_err-later_blocks.ensures.1));
  filled = untouched;
}

pub overflow_add-block_count : goal.overflow_add-block_count
overflow_add-block_count c = omega (arith, has (read-lt 3 _) c.in_ok-later_blocks.ensures.reads)

pub parse_timings-requires : goal.parse_timings-requires
unfolding timings_length
parse_timings-requires c =
    (omega (arith, has offset-le c.in_ok-sample_offset.ensures), omega (arith, has (read-lt 3 _) c.in_ok-later_blocks.ensures.reads, c.requires))

-- two numbers for each of at most eight blocks
all-filled : {m : ℕ} {t t' : List ℕ} → m < 2 ^ 3 → Filled (2 * (m + 1)) t t' → Filled timings_length t t'
unfolding timings_length
all-filled l h = further untouched h (omega arith)

pub returns-in_err-parse_timings : goal.returns-in_err-parse_timings
unfolding head
returns-in_err-parse_timings c = record {
  reads = ends (begins (head_read _)) (then _ c.in_ok-sample_offset.ensures (then _ c.in_ok-later_blocks.ensures.reads (stops _ c.in_err-parse_timings.ensures.reads c.from_residual-in_err-parse_timings.ensures.1)));
  filled = all-filled (has (read-lt 3 _) c.in_ok-later_blocks.ensures.reads) c.parse_timings.ensures.filled;
}

pub returns-in_err-skip_reserved : goal.returns-in_err-skip_reserved
unfolding head
returns-in_err-skip_reserved c = record {
  reads = ends (begins (head_read _)) (then _ c.in_ok-sample_offset.ensures (then _ c.in_ok-later_blocks.ensures.reads (then _ c.in_ok-parse_timings.ensures.reads (stops _ c.in_err-skip_reserved.ensures c.from_residual-in_err-skip_reserved.ensures.1))));
  filled = all-filled (has (read-lt 3 _) c.in_ok-later_blocks.ensures.reads) c.parse_timings.ensures.filled;
}

pub returns : goal.returns
unfolding head
returns c = record {
  reads = ends (begins (head_read _)) (then _ c.in_ok-sample_offset.ensures (then _ c.in_ok-later_blocks.ensures.reads (then _ c.in_ok-parse_timings.ensures.reads (then _ c.in_ok-skip_reserved.ensures done))));
  filled = all-filled (has (read-lt 3 _) c.in_ok-later_blocks.ensures.reads) c.parse_timings.ensures.filled;
}
