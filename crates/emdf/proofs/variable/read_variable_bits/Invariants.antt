-- What is left to read from here gives what the number gives from where it began, and the value stays small.
use Rattle.std.proofs.Common.{ℕ, ◌-◌, ◌≤◌, Result}
use Rattle.bits.specs.declared.refusals.Fault.{Fault}
use Rattle.bits.specs.declared.cursor.BitCursor.{BitCursor}
use Rattle.standard.specs.Container.{variable}
use Rattle.emdf.specs.Say.{ReadsContainer, large, nearly}
use Rattle.emdf.proofs.Kept.{later}
use Rattle.emdf.proofs.variable.read_variable_bits.Given as goal

abbrev pub invariant-loop-bits : goal.invariant-loop-bits
invariant-loop-bits l = record {
  small : l.value ≤ large;
  rest : (r : Result ℕ Fault) (c : BitCursor) → ReadsContainer (later l.width l.fn.bits.position.0 l.value) l.bits r c → ReadsContainer (nearly (variable l.width)) l.fn.bits r c;
}

abbrev pub decreases-loop-bits : goal.decreases-loop-bits
decreases-loop-bits l = l.bits.limit.0 - l.bits.position.0
