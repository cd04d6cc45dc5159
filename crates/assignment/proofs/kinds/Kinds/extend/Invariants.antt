-- What is left to add is what is left of the number.
use Rattle.std.proofs.Common.{◌≡◌, ◌+◌, ◌-◌, replicate}
use Rattle.rows.specs.Kinds.{kind_said}
use Rattle.assignment.specs.Kinds.{held, extend}
use Rattle.assignment.proofs.kinds.Kinds.extend.Given as goal

abbrev pub invariant-loop : goal.invariant-loop
invariant-loop l = record {
  count : l.self.count ≡ l.fn.self.count + l.counter;
  left : extend (replicate (l.number - l.counter) (kind_said l.kind)) (held l.self) ≡ extend (replicate l.number (kind_said l.kind)) (held l.fn.self);
  table : l.self.table.ghost_name ≡ l.fn.self.table.ghost_name;
}
