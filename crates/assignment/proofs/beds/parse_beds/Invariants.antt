-- What is left to read are the beds that are left.
use Rattle.std.proofs.Common.{◌≡◌, ◌-◌, ◌*◌, ◌≤◌}
use Rattle.bits.proofs.Reading.{Leads}
use Rattle.standard.specs.Assignment.{beds}
use Rattle.assignment.specs.Kinds.{held, onto}
use Rattle.assignment.proofs.Stages.{some_beds}
use Rattle.assignment.proofs.beds.parse_beds.Given as goal

abbrev pub invariant-loop : goal.invariant-loop
invariant-loop l = record {
  left : Leads (onto (held l.fn.kinds) beds) l.fn.bits (onto (held l.kinds) (some_beds (l.end - l.counter))) l.bits;
  count : l.kinds.count ≤ 17 * l.counter;
  table : l.kinds.table.ghost_name ≡ l.fn.kinds.table.ghost_name;
}
