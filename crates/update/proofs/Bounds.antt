-- How large what is read is.
use Prim.Native.Nat.{ℕ, ◌<◌}
use mathlib.Core.Bool.{Bool}
use native.Mathlib.Omega.{arith}
use Rattle.bits.proofs.Always.{Always, choose, given}
use Rattle.bits.proofs.Laws.{read-lt}
use Rattle.standard.specs.Updates.{status}

-- a status has two bits
pub status-lt : (first : Bool) (c : ℕ) → Always (λ v. v < 4) (status first c)
unfolding status
status-lt first c = choose first (given 1 (omega arith)) (read-lt 2 c)
