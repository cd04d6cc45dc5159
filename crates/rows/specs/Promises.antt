-- What the public calls promise: the number given back, each list left behind and each part.
use Rattle.std.specs.Prelude.{◌≡◌, List, [], ℤ, Result, Ok, Err}
use Rattle.std.specs.Borrow.{Bor}
use Rattle.bits.specs.declared.refusals.Fault.{Fault}
use Rattle.bits.specs.Faults.{number_of}
use Rattle.standard.specs.Calls.{Kept, PartAnswer}

-- a refused call hands nothing over
abbrev pub part_of : Result (Bor (List ℤ)) Fault → List ℤ
part_of (Ok p) = p.now
part_of (Err f) = []

pub record Left (k : Kept) (r : Result (Unit {0}) Fault) (l : List ℤ) : Type 0 where
  pub number : number_of r ≡ k.number
  pub retained : l ≡ k.retained

pub record Handed (a : PartAnswer) (r : Result (Bor (List ℤ)) Fault) : Type 0 where
  pub number : number_of r ≡ a.number
  pub part : part_of r ≡ a.part
