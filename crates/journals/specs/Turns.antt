-- A turn of the journal: its next step, answered; and what the call of it promises.
use Rattle.std.specs.Prelude.{ℕ, ◌≤◌, ◌<◌, ◌≡◌, List, ℤ, length, Result, Ok, Err}
use Rattle.standard.specs.Calls.{Lent}
use Rattle.standard.specs.Journal.{Reply, Step, whole, more, unknown, reply_to}
use Rattle.journals.specs.Say.{said_reply}
use Rattle.journals.specs.Promises.{record_limit}
use Rattle.journals.specs.declared.records.Pause.{Pause}
use Rattle.journals.specs.declared.records.Pause.TheVariants.{More, Unknown}
use Rattle.journals.specs.declared.turns.Turn.{Turn}

pub data Happened : Type 0 where
  replied : Reply → ℕ → Happened  -- to a record of so many bytes
  waits : Happened
  stops : Happened

pub record Turned : Type 0 where
  pub happened : Happened
  pub lent : Lent

unfoldable pub turn_on : Lent → Step → Turned
turn_on l (whole r k) = let d = reply_to l r in record { happened = replied d.reply k; lent = d.lent }
turn_on l more = record { happened = waits; lent = l }
turn_on l unknown = record { happened = stops; lent = l }

abbrev pub said_turn : Result Turn Pause → Happened
said_turn (Ok t) = replied (said_reply t.reply) t.used
said_turn (Err More) = waits
said_turn (Err Unknown) = stops

-- of n bytes: a record is some of them, and a full buffer of record_limit bytes never waits
abbrev pub Moves : ℕ → Result Turn Pause → Type 0
Moves n (Ok t) = (0 < t.used) × (t.used ≤ n)
Moves n (Err More) = n < record_limit
Moves n (Err Unknown) = Unit {0}

pub record TurnLeft (d : Turned) (arrived : List ℕ) (x : Result Turn Pause) (r s b : List ℤ) (t : List ℕ) : Type 0 where
  pub said : said_turn x ≡ d.happened
  pub moves : Moves (length arrived) x
  pub retained : r ≡ d.lent.retained
  pub start : s ≡ d.lent.start
  pub blocks : b ≡ d.lent.blocks
  pub timings : t ≡ d.lent.timings
