-- What is found from here on is what is found from where the list began.
use Rattle.std.proofs.Common.{◌≡◌, ℕ, ◌-◌, Result}
use Rattle.bits.specs.declared.refusals.Fault.{Fault}
use Rattle.bits.specs.declared.cursor.BitCursor.{BitCursor}
use Rattle.standard.specs.Container.{first_object}
use Rattle.emdf.specs.Say.{ReadsContainer, nearly}
use Rattle.emdf.proofs.payloads.first_object.Given as goal

abbrev pub invariant-loop-header : goal.invariant-loop-header
invariant-loop-header l = record {
  end : l.bits.limit ≡ l.fn.bits.limit;
  rest : (r : Result ℕ Fault) (c : BitCursor) → ReadsContainer (nearly first_object) l.bits r c → ReadsContainer (nearly first_object) l.fn.bits r c;
}

abbrev pub decreases-loop-header : goal.decreases-loop-header
decreases-loop-header l = l.bits.limit.0 - l.bits.position.0
