-- Reading a whole payload and writing the frame tables at once, as the code does.
use Rattle.std.specs.Prelude.{ℕ, List, ℤ, length}
use Rattle.std.proofs.Math.Option.{Option, none, some}
use Rattle.bits.specs.Parsed.{Parser, ◌>>=◌, ◌>>◌, pure, refuse, the_end, invalid}
use Rattle.bits.specs.Reads.{flag, padding}
use Rattle.standard.specs.Contexts as context
use Rattle.standard.specs.Tree.{Kind, Tree, kinds_of}
use Rattle.standard.specs.Assignment.{version, object_count, assignment}
use Rattle.standard.specs.Syntax.{element_count}
use Rattle.standard.specs.Rows.{State}
use Rattle.standard.specs.Meaning.{start_rows, frame_rows}
use Rattle.standard.specs.Tables.{rows_numbers, by_block, timing_numbers}
use Rattle.standard.specs.Calls.{over}
use Rattle.oamd.specs.Frame.{Frame, elements_in}

-- what a payload leaves: how many objects and blocks, and the frame tables
pub record Whole : Type 0 where
  pub objects : ℕ
  pub count : ℕ
  pub start : List ℤ
  pub blocks : List ℤ
  pub timings : List ℕ

-- the lent frame tables
pub record Lending : Type 0 where
  pub start : List ℤ
  pub blocks : List ℤ
  pub timings : List ℕ

unfoldable pub present_in : Option ℕ → Parser ℕ
present_in none = do
  end ← the_end
  refuse (invalid context.missing-object-element end)
present_in (some m) = pure m

-- n objects, and the start table
unfoldable pub finish_in : ℕ → List ℤ → Frame → Parser Whole
finish_in n start f = do
  padding context.payload-padding
  m ← present_in f.found
  pure (record { objects = n; count = m; start = start; blocks = f.blocks; timings = f.timings })

unfoldable pub body_in : State → Lending → List Kind → Parser Whole
body_in st l kinds = do
  alternated ← flag context.alternate-object-data-flag
  n ← element_count
  f ← elements_in (start_rows st kinds) n alternated kinds (record { found = none; blocks = l.blocks; timings = l.timings })
  finish_in (length kinds) (over (rows_numbers (start_rows st kinds)) l.start) f

-- what follows the object count
unfoldable pub program_in : State → Lending → ℕ → Parser Whole
program_in st l n = assignment n >>= body_in st l

unfoldable pub payload_in : State → Lending → Parser Whole
payload_in st l = do
  version
  kinds ← object_count >>= assignment
  body_in st l kinds

-- and what the paper says that a tree leaves
unfoldable pub whole_of : State → Lending → Tree → Whole
whole_of st l t =
    let m = length t.timings in
    record {
      objects = length t.objects;
      count = m;
      start = over (rows_numbers (start_rows st (kinds_of t))) l.start;
      blocks = over (rows_numbers (by_block m 0 (frame_rows st t))) l.blocks;
      timings = over (timing_numbers t.timings) l.timings;
    }
