-- What is left to read is the later blocks, after the row so far and over the table so far.
use Rattle.std.proofs.Common.{◌*◌, ◌-◌}
use Rattle.bits.proofs.Reading.{Leads}
use Rattle.standard.specs.Numbers.{row_width}
use Rattle.rows.specs.Say.{row_said}
use Rattle.rows.specs.Kinds.{kind_said}
use Rattle.objects.specs.Fills.{Filled}
use Rattle.objects.specs.Walk.{column_from}
use Rattle.objects.proofs.walk.parse_object.Given as goal

abbrev pub invariant-loop-block : goal.invariant-loop-block
invariant-loop-block l =
    let c = l.column in
    record {
      leads : Leads (column_from c.objects c.object (kind_said c.kind) c.blocks 0 (row_said l.fn.first) l.fn.blocks) l.fn.bits (column_from c.objects c.object (kind_said c.kind) (c.blocks - l.block) l.block (row_said l.row) l.blocks) l.bits;
      filled : Filled (c.blocks * c.objects * row_width) l.fn.blocks l.blocks;
    }
