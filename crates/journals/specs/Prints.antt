-- What the line of a turn promises.
use Rattle.std.specs.Prelude.{ℕ, ◌≤◌, ◌<◌, ◌≡◌, List, ℤ, length, Result, Ok, Err}
use Rattle.standard.specs.Journal.{line}
use Rattle.journals.specs.Promises.{record_limit}
use Rattle.journals.specs.Turns.{Happened, replied, waits, stops, Turned}
use Rattle.journals.specs.Texts.{line_length}
use Rattle.journals.specs.declared.records.Pause.{Pause}
use Rattle.journals.specs.declared.records.Pause.TheVariants.{More, Unknown}
use Rattle.journals.specs.declared.prints.Printed.{Printed}

-- a record that was answered has a line
abbrev pub printed_of : ℕ → ℕ → Happened → Result Printed Pause
printed_of number offset (replied r k) = Ok (record { line = line number offset r; used = k })
printed_of number offset waits = Err More
printed_of number offset stops = Err Unknown

-- of n bytes: a record is some of them, and a full buffer of record_limit bytes never waits
abbrev pub Inside : ℕ → Result Printed Pause → Type 0
Inside n (Ok x) = (0 < x.used) × (x.used ≤ n) × (length x.line ≤ line_length)
Inside n (Err More) = n < record_limit
Inside n (Err Unknown) = Unit {0}

-- a line that was lent, and how many bytes its record has
abbrev pub printed_in : List ℕ → Result ℕ Pause → Result Printed Pause
printed_in line (Ok used) = Ok (record { line = line; used = used })
printed_in line (Err e) = Err e

pub record PrintLeft (number offset : ℕ) (d : Turned) (arrived : List ℕ) (x : Result Printed Pause) (r s b : List ℤ) (t : List ℕ) : Type 0 where
  pub answer : x ≡ printed_of number offset d.happened
  pub inside : Inside (length arrived) x
  pub retained : r ≡ d.lent.retained
  pub start : s ≡ d.lent.start
  pub blocks : b ≡ d.lent.blocks
  pub timings : t ≡ d.lent.timings
