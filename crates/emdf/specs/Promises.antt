-- What the call promises: a field for each number given back, and the buffer left behind.
use Rattle.std.specs.Prelude.{ℕ, ◌≡◌, List, Result, Ok, Err}
use Rattle.bits.specs.declared.refusals.Fault.{Fault}
use Rattle.standard.specs.Calls.{Taken}

pub record Left (t : Taken) (n length : ℕ) (b : List ℕ) : Type 0 where
  pub number : n ≡ t.number
  pub its-length : length ≡ t.length
  pub buffer : b ≡ t.buffer

-- the length of an answer
abbrev pub length_of : Result ℕ Fault → ℕ
length_of (Ok n) = n
length_of (Err f) = 0
