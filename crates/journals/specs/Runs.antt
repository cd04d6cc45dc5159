-- A run of a program over the calls: what has arrived, what it has put out, and where it stands.
use Rattle.std.specs.Prelude.{ℕ, ◌+◌, ◌%◌, ◌^◌, List, [], ◌∷◌, ◌++◌, drop, Result, Ok, Err}
use Rattle.standard.specs.Calls.{Lent}
use Rattle.standard.specs.Journal.{step, fresh_tables}
use Rattle.journals.specs.Turns.{turn_on}
use Rattle.journals.specs.Texts.{line_length, Puts, ending_text}
use Rattle.journals.specs.Prints.{PrintLeft}
use Rattle.journals.specs.declared.records.Pause.{Pause}
use Rattle.journals.specs.declared.records.Pause.TheVariants.{More, Unknown}
use Rattle.journals.specs.declared.prints.Printed.{Printed}
use Rattle.journals.specs.declared.lines.Ending.{Ending}
use Rattle.journals.specs.declared.lines.Ending.TheVariants as ending

-- Where a program stands
pub record Standing : Type 0 where
  pub records : ℕ  -- printed
  pub offset : ℕ  -- bytes used
  pub tables : Lent
  pub unused : List ℕ  -- bytes that have arrived and are not used

unfoldable pub at_start : Standing
at_start = record { records = 0; offset = 0; tables = fresh_tables; unused = [] }

-- records and bytes are counted in 64 bits
abbrev pub counted : ℕ → ℕ → ℕ
counted n k = (n + k) % 2 ^ 64

-- print_next is called there: its answer, and the tables that it leaves
pub record Called (p : Standing) (x : Result Printed Pause) (l : Lent) : Type 0 where
  pub left : PrintLeft (counted p.records 1) p.offset (turn_on p.tables (step p.unused)) p.unused x l.retained l.start l.blocks l.timings

-- put_last is called, and gives this text
pub record Closed (records : ℕ) (e : Ending) (text : List ℕ) : Type 0 where
  pub left : Puts line_length [] (ending_text records e) text

-- One step, by the answer of print_next: a part that arrives, the text that is put out, and where the program then stands
pub data Goes (p : Standing) : List ℕ → List ℕ → Standing → Type 0 where
  prints : {k : ℕ} {text : List ℕ} {l : Lent} → Called p (Ok (record { line = text; used = k })) l
      → Goes p [] text (record { records = counted p.records 1; offset = counted p.offset k; tables = l; unused = drop k p.unused })
  arrives : {l : Lent} → Called p (Err More) l → (part : List ℕ)
      → Goes p part [] (record { records = p.records; offset = p.offset; tables = l; unused = p.unused ++ part })

-- no whole record is left
abbrev pub left_over : ℕ → List ℕ → Ending
left_over offset [] = ending.Complete
left_over offset (a ∷ s) = ending.Torn offset

-- How it ends, and what is not read any more
pub data Ends (p : Standing) : List ℕ → Ending → Type 0 where
  ends : {l : Lent} → Called p (Err More) l → Ends p [] (left_over p.offset p.unused)
  stops : {l : Lent} → Called p (Err Unknown) l → (unread : List ℕ) → Ends p unread (ending.BadMark p.offset)

-- All that has arrived, and all that was put out, by any number of steps
pub data Ran : List ℕ → List ℕ → Standing → Type 0 where
  begins : Ran [] [] at_start
  goes : {s text part line : List ℕ} {p q : Standing} → Ran s text p → Goes p part line q → Ran (s ++ part) (text ++ line) q
