-- What each answer of the code says.
use Rattle.std.specs.Prelude.{ℕ, List, map, length, Option, Some, None}
use Rattle.std.proofs.Math.Option as math
use Rattle.bits.specs.declared.BitPlace.{BitPlace}
use Rattle.standard.specs.Tree.{Kind}
use Rattle.standard.specs.Rows.{Row}
use Rattle.standard.specs.Tables.{rows_of}
use Rattle.rows.specs.Kinds.{kind_said}
use Rattle.oamd.specs.Frame.{Frame}
use Rattle.oamd.specs.declared.tables.BlockTables.{BlockTables}
use Rattle.oamd.specs.declared.tables.Objects.{Objects}

abbrev pub said_place : BitPlace → ℕ
said_place p = p.0

abbrev pub said_found : Option ℕ → math.Option ℕ
said_found None = math.none
said_found (Some n) = math.some n

abbrev pub said_frame : BlockTables → Frame
said_frame t = record { found = said_found t.found; blocks = t.blocks.now; timings = t.timings.now }

abbrev pub said_kinds : Objects → List Kind
said_kinds o = map kind_said o.kinds.now

-- a row for each kind
abbrev pub starts_of : Objects → List Row
starts_of o = rows_of (length o.kinds.now) o.start.now
