-- The lent tables of a frame's blocks, and what a call leaves of them.
use Rattle.std.specs.Prelude.{◌≡◌, pos, drop, replicate}
use Rattle.standard.specs.Numbers.{blocks_length, timings_length}
use Rattle.standard.specs.Calls.{over}
use Rattle.oamd.specs.declared.tables.BlockTables.{BlockTables}

-- the same two tables
pub record Same (a b : BlockTables) : Type 0 where
  pub blocks : b.blocks.ghost_name ≡ a.blocks.ghost_name
  pub timings : b.timings.ghost_name ≡ a.timings.ghost_name

-- Whatever is read, what lies behind the needed lengths stays.
pub record Kept (a b : BlockTables) : Type 0 where
  pub same : Same a b
  pub blocks_rest : drop blocks_length b.blocks.now ≡ drop blocks_length a.blocks.now
  pub timings_rest : drop timings_length b.timings.now ≡ drop timings_length a.timings.now

pub record Cleared (a b : BlockTables) : Type 0 where
  pub same : Same a b
  pub its_blocks : b.blocks.now ≡ over (replicate blocks_length (pos 0)) a.blocks.now
  pub its_timings : b.timings.now ≡ over (replicate timings_length 0) a.timings.now
