-- What the timing and carry calls promise.
use Rattle.std.specs.Prelude.{◌≡◌, ℕ, List, ℤ, Result}
use Rattle.bits.specs.Faults.{number_of}
use Rattle.bits.specs.declared.refusals.Fault.{Fault}
use Rattle.standard.specs.CarriedCalls.{TimingAnswer, CarryAnswer}
use Rattle.timing.specs.Going.{going_in}

-- the number, and the three numbers that are left
pub record TimingLeft (a : TimingAnswer) (r : Result (Unit {0}) Fault) (s : List ℕ) : Type 0 where
  pub number : number_of r ≡ a.number
  pub state : going_in s ≡ a.going

-- and the carried rows
pub record CarryLeft (a : CarryAnswer) (r : Result (Unit {0}) Fault) (s : List ℕ) (l : List ℤ) : Type 0 where
  pub number : number_of r ≡ a.number
  pub state : going_in s ≡ a.going
  pub carried : l ≡ a.carried
