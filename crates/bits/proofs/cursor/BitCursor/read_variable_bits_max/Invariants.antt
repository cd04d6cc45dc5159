-- What the later groups give from here is what the number gives from where it began, and the value stays small. The cursor itself stays.
use Rattle.std.proofs.Common.{◌≡◌, ℕ, ◌-◌, Result}
use Rattle.bits.specs.Reads.{later_groups, variable_bits}
use Rattle.bits.specs.Say.{Reads}
use Rattle.bits.specs.declared.refusals.Refusal.{Refusal}
use Rattle.bits.specs.declared.cursor.BitCursor.{BitCursor}
use Rattle.bits.proofs.Groups.{Small}
use Rattle.bits.proofs.cursor.BitCursor.read_variable_bits_max.Given as goal

abbrev pub invariant-loop-groups : goal.invariant-loop-groups
invariant-loop-groups l = record {
  small : Small (4 - l._groups) l.value;
  kept : l.self ≡ l.fn.self;
  rest : (r : Result ℕ Refusal) (c : BitCursor) → Reads (later_groups l.width l.context l.fn.self.position.0 (4 - l._groups) l.value) l.ahead r c → Reads (variable_bits l.width 3 l.context) l.fn.self r c;
}
