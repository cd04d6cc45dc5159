-- What a turn of the program is: a step of a run, or its end; and what becomes of the lines.
use Rattle.std.specs.Prelude.{◌≡◌, ℕ, suc, ◌-◌, ◌^◌, ◌<◌, length, Bool, true, false, List, [], ◌++◌, Result, Ok, Err, IsErr}
use Rattle.std.specs.declared.io.Error.{Error}
use Rattle.standard.specs.Calls.{Lent}
use Rattle.journals.specs.Say.{lent_of}
use Rattle.journals.specs.Runs as runs
use Rattle.journals.specs.Runs.{Standing, at_start, Called, Closed, Goes, Ends, Ran}
use Rattle.journals.specs.declared.lines.Ending.{Ending}
use Rattle.journals.specs.declared.lines.Ending.TheVariants as ending
use Rattle.journals.specs.declared.records.Pause.TheVariants.{More}
use Rattle.journal.specs.Waits.{Emits}
use Rattle.journal.specs.declared.player.Player.{Player}

-- where the program stands in a run, with these tables
abbrev pub standing_with : Player → Lent → Standing
standing_with p l = record { records = p.records; offset = p.offset; tables = l; unused = p.arrived }

-- and with its own
abbrev pub standing : Player → Standing
standing p = standing_with p (lent_of p.tables)

pub record Begins (p : Player) : Type 0 where
  pub stands : standing p ≡ at_start
  pub waits : p.lines ≡ []

-- the last line waits behind the others
pub record Stopped (p : Player) (e : Ending) (r : Bool) (q : Player) : Type 0 where
  pub ended : r ≡ false
  pub records : q.records ≡ p.records
  pub offset : q.offset ≡ p.offset
  pub text : List ℕ
  pub closed : Closed p.records e text
  pub emitted : Emits p.lines text q.lines

-- what arrives in a step is one byte or more
abbrev pub Brings : {p q : Standing} {part text : List ℕ} → Goes p part text q → Type 0
Brings (runs.prints c) = Unit {0}
Brings (runs.arrives c part) = 0 < length part

-- as many records and bytes are used there
abbrev pub AsFar : Standing → Standing → Type 0
AsFar p q = (q.records ≡ p.records) × (q.offset ≡ p.offset)

-- One turn: a step, the last line, a fault of the input, or lines that could not be written
pub data Turned (p : Standing) (waited : List ℕ) (r : Result Bool Error) (q : Standing) (waits : List ℕ) : Type 0 where
  goes : {part text : List ℕ} → r ≡ Ok true → (step : Goes p part text q) → Brings step → Emits waited text waits → Turned p waited r q waits
  ends : {unread text : List ℕ} {e : Ending} → r ≡ Ok false → Ends p unread e → Closed p.records e text → AsFar p q → Emits waited text waits → Turned p waited r q waits
  faults : {l : Lent} {text : List ℕ} → r ≡ Ok false → Called p (Err More) l → Closed p.records (ending.Fault p.offset) text → AsFar p q → Emits waited text waits
      → Turned p waited r q waits
  fails : IsErr r → Turned p waited r q waits

-- the rest of a turn in which print_next asked for more
abbrev pub ReadOn : Player → Result Bool Error → Player → Type 0
ReadOn p r q = (l : Lent) → Called (standing_with p l) (Err More) (lent_of p.tables) → Turned (standing_with p l) p.lines r (standing q) q.lines

-- how many steps a run has taken
abbrev pub steps : {s text : List ℕ} {p : Standing} → Ran s text p → ℕ
steps runs.begins = 0
steps (runs.goes r g) = suc (steps r)

-- and each arrival brought bytes
abbrev pub Fed : {s text : List ℕ} {p : Standing} → Ran s text p → Type 0
Fed runs.begins = Unit {0}
Fed (runs.goes r g) = Fed r × Brings g

-- the last line waits whole, behind some of the others
abbrev pub WaitsBehind : List ℕ → List ℕ → Type 0
WaitsBehind last waits = (before : List ℕ) × (waits ≡ before ++ last)

-- All turns: what went to write and what waits is the text of a run over s, and its last line behind it, or no turn is left
pub data Played (r : Result (Unit {0}) Error) (p : Standing) (waits : List ℕ) : Type 0 where
  on : {s text : List ℕ} (handed : List ℕ) → r ≡ Ok tt → (run : Ran s text p) → steps run ≡ 2 ^ 64 - 1 → Fed run → handed ++ waits ≡ text → Played r p waits
  over : {s unread text last : List ℕ} {e : Ending} {q : Standing} (handed : List ℕ) → r ≡ Ok tt → Ran s text q → Ends q unread e → Closed q.records e last
      → handed ++ waits ≡ text ++ last → WaitsBehind last waits → AsFar q p → Played r p waits
  faulted : {s text last : List ℕ} {l : Lent} {q : Standing} (handed : List ℕ) → r ≡ Ok tt → Ran s text q → Called q (Err More) l
      → Closed q.records (ending.Fault q.offset) last → handed ++ waits ≡ text ++ last → WaitsBehind last waits → AsFar q p → Played r p waits
  failed : IsErr r → Played r p waits
