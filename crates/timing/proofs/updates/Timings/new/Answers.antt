-- As many pairs as there are blocks.
use Rattle.std.proofs.Common.{arith, ◌*◌, ◌/◌, ◌≤◌, length}
use borrow.Author.Tests.{le-leb}
use Rattle.standard.specs.Numbers.{block_limit}
use Rattle.timing.proofs.Pairs.{pairs-read}
use Rattle.timing.proofs.updates.Timings.new.Goals as goal

pub returns : goal.returns
unfolding block_limit
returns c =
    let g = rw c.in_ok-blocks.ensures.ok_part at c.get.ensures.lookup in
    let few : c.args.blocks ≤ length c.as_chunks.result.0.now = g.0.1 in
    let room : 2 * c.args.blocks ≤ length c.args.table.now = omega (arith, few, c.as_chunks.ensures.front_len) in
    record {
      number = rw (le-leb _ _ c.if-blocks-gt-BLOCK_LIMIT.false, le-leb _ _ room);
      says = rw (g.0.2, c.as_chunks.ensures.front) (pairs-read c.args.blocks (length c.args.table.now / 2) c.args.table.now (omega (arith, few, c.as_chunks.ensures.front_len)));
    }
