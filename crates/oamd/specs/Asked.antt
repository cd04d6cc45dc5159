-- What the functions ask of the lent tables.
use Rattle.std.specs.Prelude.{◌≤◌, ◌≡◌, List, ℤ, length, None}
use Rattle.standard.specs.Numbers.{start_length}
use Rattle.oamd.specs.declared.tables.BlockTables.{BlockTables}

-- before a payload is read
pub record Ready (start : List ℤ) (t : BlockTables) : Type 0 where
  pub for_start : start_length ≤ length start
  pub nothing : t.found ≡ None
