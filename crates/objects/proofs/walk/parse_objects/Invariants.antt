-- What is left to read is the later objects, over the table so far.
use Rattle.std.proofs.Common.{◌*◌, map, length}
use Rattle.bits.proofs.Reading.{Leads}
use Rattle.standard.specs.Numbers.{row_width}
use Rattle.rows.specs.Kinds.{kind_said}
use Rattle.objects.specs.Fills.{Filled}
use Rattle.objects.specs.Walk.{objects_from}
use Rattle.objects.proofs.Turns.{objects_left}
use Rattle.objects.proofs.walk.parse_objects.Given as goal

abbrev pub invariant-loop-object : goal.invariant-loop-object
invariant-loop-object l =
    let ks = map kind_said l.kinds in
    record {
      leads : Leads (objects_from (length l.kinds) l.block_count l.start 0 ks l.fn.blocks) l.fn.bits (objects_left l.block_count ks l.start l.object l.blocks) l.bits;
      filled : Filled (l.block_count * length l.kinds * row_width) l.fn.blocks l.blocks;
    }
