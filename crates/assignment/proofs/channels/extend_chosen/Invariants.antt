-- What is left to add are the channels from the bit at hand.
use Rattle.std.proofs.Common.{◌≡◌, ◌≤◌, ◌+◌, ◌*◌}
use Rattle.assignment.specs.Kinds.{held, extend}
use Rattle.assignment.proofs.Chosen.{kinds_from}
use Rattle.assignment.proofs.channels.extend_chosen.Given as goal

abbrev pub invariant-loop-index : goal.invariant-loop-index
invariant-loop-index l = record {
  count : l.kinds.count ≤ l.fn.kinds.count + 255 * l.index;
  left : extend (kinds_from l.second_lfe l.index l.widths l.assignment) (held l.kinds) ≡ extend (kinds_from l.second_lfe 0 l.widths l.assignment) (held l.fn.kinds);
  table : l.kinds.table.ghost_name ≡ l.fn.kinds.table.ghost_name;
}
