-- What each layer promises.
use Rattle.std.specs.Prelude.{ℕ, ◌≤◌, ◌<◌, ◌≡◌, List, ℤ, Result, Ok, Err}
use Rattle.standard.specs.Journal.{Step, Replied}
use Rattle.journals.specs.Say.{said_found, said_reply}
use Rattle.journals.specs.declared.records.Found.{Found}
use Rattle.journals.specs.declared.records.Pause.{Pause}
use Rattle.journals.specs.declared.records.Pause.TheVariants.{More, Unknown}
use Rattle.journals.specs.declared.replies.Reply.{Reply}

-- Bytes to records

-- a record has 4 + 65,535 bytes at most: so many never ask for more
abbrev pub record_limit : ℕ
record_limit = 65539

-- a record lies among the n bytes that have arrived, and has its mark at least
abbrev pub Placed : ℕ → Result Found Pause → Type 0
Placed n (Ok f) = (2 ≤ f.length) × (f.length ≤ n)
Placed n (Err More) = n < record_limit
Placed n (Err Unknown) = Unit {0}

-- what was found in n bytes says what stands there
pub record Stepped (x : Step) (n : ℕ) (f : Result Found Pause) : Type 0 where
  pub said : said_found f ≡ x
  pub placed : Placed n f

-- Records to replies: the answer, and each lent list that is left

pub record Left (d : Replied) (a : Reply) (r s b : List ℤ) (t : List ℕ) : Type 0 where
  pub reply : said_reply a ≡ d.reply
  pub retained : r ≡ d.lent.retained
  pub start : s ≡ d.lent.start
  pub blocks : b ≡ d.lent.blocks
  pub timings : t ≡ d.lent.timings
