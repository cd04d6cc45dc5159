-- Reading the elements and writing the frame tables at once, as the code does.
use Rattle.std.specs.Prelude.{ℕ, zero, suc, Bool, cond, List, [], eqb, ℤ, length}
use Rattle.std.proofs.Math.Option.{Option, none, some}
use Rattle.bits.specs.Parsed.{Parser, ◌>>=◌, ◌>>◌, map_p, pure, refuse, within, go_to, invalid}
use Rattle.bits.specs.Reads.{padding}
use Rattle.standard.specs.Contexts as context
use Rattle.standard.specs.Tree.{Kind, Tree}
use Rattle.standard.specs.Rows.{Row}
use Rattle.standard.specs.Meaning.{all_rows}
use Rattle.standard.specs.Tables.{rows_numbers, by_block, timing_numbers}
use Rattle.standard.specs.Calls.{over}
use Rattle.standard.specs.Syntax.{object_element, trim}
use Rattle.oamd.specs.Head.{Head, element_head}

-- the number of blocks, once an object element was read, and the frame tables
pub record Frame : Type 0 where
  pub found : Option ℕ
  pub blocks : List ℤ
  pub timings : List ℕ

-- what a tree writes into the frame tables, after these start rows
unfoldable pub written_by : List Row → Frame → Tree → Frame
written_by starts f t =
    let m = length t.timings in
    record {
      found = some m;
      blocks = over (rows_numbers (by_block m 0 (all_rows t.objects starts []))) f.blocks;
      timings = over (timing_numbers t.timings) f.timings;
    }

unfoldable pub once_in : List Row → List Kind → ℕ → Option ℕ → Frame → Parser Frame
once_in starts kinds at none f = map_p (written_by starts f) (object_element kinds)
once_in starts kinds at (some m) f = refuse (invalid context.duplicate-object-element at)

-- the rest of an element that was read is zero
unfoldable pub end_in : Frame → Parser Frame
end_in f = do
  padding context.element-padding
  pure f

unfoldable pub object_in : List Row → List Kind → ℕ → Frame → Parser Frame
object_in starts kinds at f = do
  f' ← once_in starts kinds at f.found f
  end_in f'

unfoldable pub trim_in : ℕ → Frame → Parser Frame
trim_in count f = do
  trim count
  end_in f

unfoldable pub content_in : List Row → List Kind → Head → Frame → Parser Frame
content_in starts kinds h f =
    cond (eqb h.id 1) (object_in starts kinds h.at f) (cond (eqb h.id 2) (trim_in (length kinds) f) (pure f))

unfoldable pub element_in : List Row → Bool → List Kind → Frame → Parser Frame
element_in starts alternated kinds f = do
  h ← element_head alternated
  f' ← within h.end (content_in starts kinds h f)
  go_to h.end
  pure f'

unfoldable pub elements_in : List Row → ℕ → Bool → List Kind → Frame → Parser Frame
elements_in starts zero alternated kinds f = pure f
elements_in starts (suc n) alternated kinds f = do
  f' ← element_in starts alternated kinds f
  elements_in starts n alternated kinds f'
