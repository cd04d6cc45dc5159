-- What a call answers and leaves that reads a payload into the lent tables.
use Rattle.std.specs.Prelude.{◌≡◌, List, ℤ, drop, Result}
use Rattle.bits.specs.Parsed.{Parser}
use Rattle.bits.specs.Say.{ReadsAs}
use Rattle.bits.specs.declared.cursor.BitCursor.{BitCursor}
use Rattle.bits.specs.declared.refusals.Refusal.{Refusal}
use Rattle.standard.specs.Numbers.{start_length}
use Rattle.oamd.specs.Whole.{Whole, Lending}
use Rattle.oamd.specs.Tables.{Kept}
use Rattle.oamd.specs.declared.tables.BlockTables.{BlockTables}
use Rattle.oamd.specs.declared.payload.Counts.{Counts}

abbrev pub lending : List ℤ → BlockTables → Lending
lending s t = record { start = s; blocks = t.blocks.now; timings = t.timings.now }

-- the counts, with the tables that were left
abbrev pub said_whole : List ℤ → BlockTables → Counts → Whole
said_whole s t n = record { objects = n.objects; count = n.blocks; start = s; blocks = t.blocks.now; timings = t.timings.now }

-- The call answers what the reading m does; where m gives a frame, its tables are left. What lies behind them stays.
pub record Telling (m : Parser Whole) (c : BitCursor) (s : List ℤ) (a : BlockTables) (r : Result Counts Refusal) (c' : BitCursor) (s' : List ℤ) (b : BlockTables) : Type 0 where
  pub reads : ReadsAs (said_whole s' b) m c r c'
  pub start_rest : drop start_length s' ≡ drop start_length s
  pub kept : Kept a b
