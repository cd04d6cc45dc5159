-- The specification, section 9, "Marks and doubt": what settles a group of the picture, and what a mark says.
use Rattle.std.specs.Prelude.{ℕ, ◌+◌, ◌/◌, ◌%◌, Bool, true, false, cond, ◌||◌, eqb, ℤ, pos, negsuc}
use Rattle.std.proofs.Math.Option.{Option, none, some}
use Rattle.bits.specs.Parsed.{Placed}
use Rattle.standard.specs.Numbers.{mark_limit}
use Rattle.standard.specs.Tree.{Kind, is_dynamic, PointWord, absolute, moved, PositionWord, Render, default, kept, given}
use Rattle.standard.specs.Rows.{Group, its_position, its_zone, its_size, its_screen, its_lock, is}

-- The marks of a row with every group settled, and with none

abbrev pub settled : ℤ
settled = pos mark_limit

abbrev pub unsettled : ℤ
unsettled = pos 0

abbrev pub is_settled : ℤ → Bool
is_settled m = is mark_limit m

-- A mark has a bit for each group

abbrev pub bit_of : Group → ℕ
bit_of its_position = 1
bit_of its_zone = 2
bit_of its_size = 4
bit_of its_screen = 8
bit_of its_lock = 16

-- whether a group is settled under a mark; a number below 0 is none
unfoldable pub marked : Group → ℤ → Bool
marked g (pos n) = eqb (n / bit_of g % 2) 1
marked g (negsuc n) = false

-- the bits of these groups
unfoldable pub bits_of : (Group → Bool) → ℕ
bits_of s =
    cond (s its_position) (bit_of its_position) 0 + cond (s its_zone) (bit_of its_zone) 0 + cond (s its_size) (bit_of its_size) 0
    + cond (s its_screen) (bit_of its_screen) 0 + cond (s its_lock) (bit_of its_lock) 0

-- the mark m, or none in doubt
abbrev pub doubted : ℤ → ℤ → ℤ
doubted d m = cond (is 0 d) m unsettled

-- What settles a group

module _ {A : Type 0} where
  abbrev pub is_some : Option A → Bool
  is_some none = false
  is_some (some a) = true

abbrev pub is_absolute : PointWord → Bool
is_absolute (absolute p) = true
is_absolute (moved d) = false

abbrev pub absolutely_said : Option (Placed PositionWord) → Bool
absolutely_said none = false
absolutely_said (some w) = is_absolute w.word.point

-- nothing of the group before is left
unfoldable pub settles : Group → Render → Bool
settles g (default at) = true
settles g kept = false
settles its_position (given w) = absolutely_said w.position
settles its_zone (given w) = is_some w.zone
settles its_size (given w) = is_some w.size
settles its_screen (given w) = is_some w.screen
settles its_lock (given w) = true

-- a group is settled from the word on that settles it
unfoldable pub new_mark : Render → ℤ → ℤ
new_mark r m = pos (bits_of (λ g. settles g r || marked g m))

-- fixed kinds are settled in every block
unfoldable pub row_mark : Kind → Render → ℤ → ℤ
row_mark k r m = cond (is_dynamic k) (new_mark r m) settled

-- What computing opens

unfoldable pub computed : Unit {0}
unfolding marked bits_of settles new_mark row_mark
computed = tt
