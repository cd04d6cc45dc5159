-- The number of each fault: the specification, section 4, "Numbers given back".
use Rattle.std.specs.Prelude.{ℕ, Result, Ok, Err}
use Rattle.bits.specs.declared.refusals.Fault.{Fault}
use Rattle.bits.specs.declared.refusals.Fault.TheVariants as fault

abbrev pub fault_number : Fault → ℕ
fault_number fault.Room = 5
fault_number fault.Form = 6
fault_number fault.Size = 7
fault_number fault.Ordering = 8
fault_number fault.Overlap = 9
fault_number fault.CrossFrame = 10
fault_number fault.Query = 11
fault_number fault.Index = 12
fault_number fault.EndsEarly = 13
fault_number fault.OtherVersion = 14
fault_number fault.NoObject = 15
fault_number fault.UnknownRule = 16

module _ {A : Type 0} where
  -- the number that is given back; 0 of what is accepted
  abbrev pub number_of : Result A Fault → ℕ
  number_of (Ok a) = 0
  number_of (Err f) = fault_number f
