-- The head of an element: all that stands before its content.
use Rattle.std.specs.Prelude.{ℕ, ◌+◌, ◌*◌, ◌-◌, Bool, leb}
use Rattle.bits.specs.Parsed.{Parser, ◌>>=◌, ◌>>◌, pure, within, here, the_end, require, truncated}
use Rattle.bits.specs.Reads.{read, flag}
use Rattle.standard.specs.Contexts as context
use Rattle.standard.specs.Syntax.{element_size, alternate}

-- the place where an element ends, from its size
unfoldable pub element_end : Parser ℕ
element_end = do
  bytes ← element_size
  start ← here
  end ← the_end
  require (leb (start + bytes * 8) end) (truncated context.element start (bytes * 8) (end - start))
  pure (start + bytes * 8)

-- what every element begins with
unfoldable pub enter : Bool → Parser (Unit {0})
enter alternated = do
  alternate alternated
  flag context.discard-unknown-element-flag
  pure tt

-- where an element begins, its id, and where it ends
pub record Head : Type 0 where
  pub at : ℕ
  pub id : ℕ
  pub end : ℕ

unfoldable pub element_head : Bool → Parser Head
element_head alternated = do
  at ← here
  id ← read 4 context.element-id
  end ← element_end
  within end (enter alternated)
  pure (record { at = at; id = id; end = end })
