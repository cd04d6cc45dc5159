-- What a call answers and leaves that reads elements into the lent tables.
use Rattle.std.specs.Prelude.{Result}
use Rattle.bits.specs.Parsed.{Parser}
use Rattle.bits.specs.Say.{ReadsAs}
use Rattle.bits.specs.declared.cursor.BitCursor.{BitCursor}
use Rattle.bits.specs.declared.refusals.Refusal.{Refusal}
use Rattle.oamd.specs.Frame.{Frame}
use Rattle.oamd.specs.Say.{said_frame}
use Rattle.oamd.specs.Tables.{Kept}
use Rattle.oamd.specs.declared.tables.BlockTables.{BlockTables}

-- The call answers what the reading m does; where m gives a frame, its tables are left.
pub record Framing (m : Parser Frame) (c : BitCursor) (a : BlockTables) (r : Result (Unit {0}) Refusal) (c' : BitCursor) (b : BlockTables) : Type 0 where
  pub reads : ReadsAs (λ u. said_frame b) m c r c'
  pub kept : Kept a b
