-- What decode begins with: the tests before a payload is read; and what it ends with: the last block is retained.
use Rattle.std.specs.Prelude.{ℕ, ◌*◌, ◌-◌, ◌<◌, ◌≤◌, ◌≡◌, List, ℤ, pos, length, drop, true, Result, Ok, Err}
use Rattle.bits.specs.Faults.{fault_number}
use Rattle.bits.specs.declared.refusals.Fault.{Fault}
use Rattle.standard.specs.Numbers.{row_width, object_limit, retained_length, payload_limit, size}
use Rattle.standard.specs.Rows.{Row}
use Rattle.standard.specs.Meaning.{unsettled_count}
use Rattle.standard.specs.Tables.{rows_of, state_numbers, in_form}
use Rattle.standard.specs.Calls.{Lent, over, has_room, unchanged, decode}
use Rattle.oamd.specs.declared.decoder.Frame.{Frame}
use Rattle.oamd.specs.declared.payload.Counts.{Counts}

pub record Readable (s : List ℕ) (l : Lent) : Type 0 where
  pub room : has_room l ≡ true
  pub form : in_form l.retained ≡ true
  pub near : length s ≤ payload_limit

pub record Unreadable (s : List ℕ) (l : Lent) (f : Fault) : Type 0 where
  pub stays : decode s l ≡ unchanged l (fault_number f)
  pub few : fault_number f ≤ size

abbrev pub Tested : List ℕ → Lent → Result (Unit {0}) Fault → Type 0
Tested s l (Ok u) = Readable s l
Tested s l (Err f) = Unreadable s l f

-- of n objects in m blocks, the last block's rows
abbrev pub last_of : ℕ → ℕ → List ℤ → List Row
last_of n m blocks = rows_of n (drop ((m - 1) * n * row_width) blocks)

pub record Retainable (c : Counts) (retained blocks : List ℤ) : Type 0 where
  pub few : c.objects ≤ object_limit
  pub some : 0 < c.blocks
  pub long : retained_length ≤ length retained
  pub there : c.blocks * c.objects * row_width ≤ length blocks

pub record Retained (c : Counts) (blocks : List ℤ) (f : Frame) (retained retained' : List ℤ) : Type 0 where
  pub counts : f ≡ record { objects = c.objects; blocks = c.blocks; unsettled = unsettled_count (last_of c.objects c.blocks blocks) }
  pub kept : retained' ≡ over (state_numbers (record { doubt = pos 0; rows = last_of c.objects c.blocks blocks })) retained
