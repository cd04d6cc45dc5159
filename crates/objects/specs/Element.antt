-- The object element as the code reads it: what stands before the objects, then the objects; and what a call answers and leaves that reads it.
use Rattle.std.specs.Prelude.{ℕ, ◌+◌, ◌*◌, ◌≤◌, ◌≡◌, List, [], ℤ, length, Result, cond, get_or}
use Rattle.bits.specs.Parsed.{got, Parser, map_p, ◌>>=◌, ◌>>◌, pure, times}
use Rattle.bits.specs.Reads.{read, flag}
use Rattle.bits.specs.Say.{Reads, ReadsAs}
use Rattle.bits.specs.declared.cursor.BitCursor.{BitCursor}
use Rattle.bits.specs.declared.refusals.Refusal.{Refusal}
use Rattle.standard.specs.Contexts as context
use Rattle.standard.specs.Numbers.{row_width, object_limit, blocks_length, timings_length}
use Rattle.standard.specs.Tree.{Kind, Timing, Tree}
use Rattle.standard.specs.Syntax.{ramp_durations, sample_offset, timing, reserved, object_element}
use Rattle.standard.specs.Rows.{Row}
use Rattle.standard.specs.Meaning.{all_rows}
use Rattle.standard.specs.Tables.{rows_numbers, by_block, timing_numbers}
use Rattle.standard.specs.Calls.{over}
use Rattle.objects.specs.Fills.{Filled}

-- the ramp of code 3: one of the durations, or any
unfoldable pub chosen_ramp : Parser ℕ
chosen_ramp = do
  indexed ← flag context.indexed-ramp-duration-flag
  cond indexed (map_p (λ i. get_or ramp_durations i 0) (read 4 context.ramp-duration-index)) (read 11 context.ramp-duration)

-- what stands before the objects
unfoldable pub block_timings : Parser (List Timing)
block_timings = do
  offset ← sample_offset
  m ← read 3 context.update-block-count
  ts ← times (m + 1) (timing offset)
  reserved
  pure ts

-- the number of blocks, and the table with their timings
pub record Timed : Type 0 where
  pub count : ℕ
  pub table : List ℕ

abbrev pub timed_by : List ℕ → List Timing → Timed
timed_by t ts = record { count = length ts; table = over (timing_numbers ts) t }

-- what stands before the objects is read, and its table is left
pub record ReadTimings (c : BitCursor) (before : List ℕ) (r : Result ℕ Refusal) (c' : BitCursor) (after : List ℕ) : Type 0 where
  pub reads : ReadsAs (λ n. record { count = n; table = after }) (map_p (timed_by before) block_timings) c r c'
  pub filled : Filled timings_length before after

-- what is lent suffices for n objects
pub record Room (n : ℕ) (start blocks : List ℤ) (timings : List ℕ) : Type 0 where
  pub few : n ≤ object_limit
  pub its_start : n * row_width ≤ length start
  pub for_blocks : blocks_length ≤ length blocks
  pub for_timings : timings_length ≤ length timings

-- the tables after an element that was read to its end
abbrev pub timings_after : Tree → List ℕ → List ℕ
timings_after t timings = over (timing_numbers t.timings) timings

abbrev pub blocks_after : List Row → Tree → List ℤ → List ℤ
blocks_after starts t blocks = over (rows_numbers (by_block (length t.timings) 0 (all_rows t.objects starts []))) blocks

-- what a call answers and leaves that reads an element of objects of these kinds; each object begins after its row of `starts`
pub record ReadElement (kinds : List Kind) (starts : List Row) (c : BitCursor) (r : Result ℕ Refusal) (c' : BitCursor) (blocks blocks' : List ℤ) (timings timings' : List ℕ) : Type 0 where
  pub reads : Reads (map_p (λ t. length t.timings) (object_element kinds)) c r c'
  pub its_blocks : (t : Tree) (q : ℕ) → object_element kinds c.payload.now c.limit.0 c.position.0 ≡ got t q → blocks' ≡ blocks_after starts t blocks
  pub its_timings : (t : Tree) (q : ℕ) → object_element kinds c.payload.now c.limit.0 c.position.0 ≡ got t q → timings' ≡ timings_after t timings
  pub its_table : Filled blocks_length blocks blocks'
  pub timed : Filled timings_length timings timings'
