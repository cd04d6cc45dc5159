-- Text that is put together, and the last line.
use Rattle.std.specs.Prelude.{ℕ, ◌+◌, ◌≤◌, ◌<◌, ◌≡◌, List, [], ◌∷◌, ◌++◌, length}
use Rattle.standard.specs.Journal as journal
use Rattle.journals.specs.declared.lines.Ending.{Ending}
use Rattle.journals.specs.declared.lines.Ending.TheVariants as ending

-- m is l with a text of n bytes at most behind it
pub record Puts (n : ℕ) (l text m : List ℕ) : Type 0 where
  pub left : m ≡ l ++ text
  pub short : length text ≤ n

-- m is l with the text behind it where n bytes have room for both, and else l
pub data Appended (n : ℕ) (l text m : List ℕ) : Type 0 where
  put : length l + length text ≤ n → m ≡ l ++ text → Appended n l text m
  full : n < length l + length text → m ≡ l → Appended n l text m

-- no reply is longer, with its space: a word of two letters and four numbers
abbrev pub reply_length : ℕ
reply_length = 87

-- nor a number and an offset
abbrev pub head_length : ℕ
head_length = 41

-- and no line
abbrev pub line_length : ℕ
line_length = 129

-- `fault` offset: the input could not be read on
abbrev pub fault_line : ℕ → List ℕ
fault_line offset = 102 ∷ 97 ∷ 117 ∷ 108 ∷ 116 ∷ journal.spaced (offset ∷ []) ++ 10 ∷ []

abbrev pub ending_text : ℕ → Ending → List ℕ
ending_text records ending.Complete = journal.last_line records journal.complete
ending_text records (ending.Torn offset) = journal.last_line records (journal.torn offset)
ending_text records (ending.BadMark offset) = journal.last_line records (journal.bad_mark offset)
ending_text records (ending.Fault offset) = fault_line offset
