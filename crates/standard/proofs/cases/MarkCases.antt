-- Cases of the specification, section 9, "Marks and doubt", and of what stands between payloads: retained rows, changed kinds, programme start, reset.
use Prim.Native.Nat.{ℕ}
use mathlib.Core.List.{List, [], ◌∷◌, ◌++◌}
use lib.Dec.{T}
use lib.IntN.{pos}
use Rattle.standard.specs.Cases.{Case, all_hold}
use Rattle.standard.specs.Journal.{Record, payload, gap_notice, reset_notice, start_notice}
use Rattle.standard.proofs.cases.Writer.{Bits, ◌⊳◌, said, said_with_lfe, blocks, off, on, kept, unity, level, place, infinite, to, steps, moved, free, plain, groups, first, rest_one, moved_one, neg, distant, on_row, off_row, default_of, inactive_of, shows, far, written}

-- the object was at (10, 20, 5), and then payloads were missed
abbrev doubtful : List Record
doubtful = payload moved_one ∷ gap_notice ∷ []

-- a Dynamic and, first, an Lfe, at rest
abbrev rest_with_lfe : List ℕ
rest_with_lfe = said_with_lfe 2 (blocks 1 ++ off ++ off)

abbrev rest_two : List ℕ
rest_two = said 2 (blocks 1 ++ off ++ off)

-- in doubt: at rest in block 0, and in block 1 this render information; then x, y, z and mark of block 1, and the unsettled count
unfoldable pub settles : Bits → ℕ → ℕ → ℕ → ℕ → ℕ → Case
settles b x y z m u =
    shows doubtful (said 1 (blocks 2 ++ off ++ on (kept ++ b))) 1 2 u
    (on_row (pos 0) 32 10 20 (pos 5) 0 ∷ []) (off_row 10 20 (pos 5) 0 ∷ on_row (neg 128) 0 x y (pos z) m ∷ [])

-- What is retained

unfoldable pub retained_cases : List Case
retained_cases =
    -- the same kinds go on from the retained row: a second payload that differs from the first
    shows (payload moved_one ∷ []) (said 1 (blocks 1 ++ first (level 20) (place 40 50 0 3))) 1 1 0
    (on_row (pos 0) 32 10 20 (pos 5) 31 ∷ []) (on_row (neg 6) 32 40 50 (neg 3) 31 ∷ [])
    -- of two blocks the second is retained
    ∷ shows (payload (said 1 (blocks 2 ++ first unity (place 1 2 1 3) ++ on (kept ++ groups 8 (to 40 50 0 3 ++ free)))) ∷ []) rest_one 1 1 0
    (on_row (pos 0) 32 40 50 (neg 3) 31 ∷ []) (off_row 40 50 (neg 3) 31 ∷ [])
    -- other kinds begin at the default, settled: more objects
    ∷ shows (payload moved_one ∷ []) rest_two 2 1 0 (default_of 3 31 ∷ default_of 3 31 ∷ []) (inactive_of 3 31 ∷ inactive_of 3 31 ∷ [])
    -- as many, of another kind
    ∷ shows (payload moved_one ∷ []) (said_with_lfe 1 (blocks 1 ++ off)) 1 1 0 (default_of 0 31 ∷ []) (inactive_of 0 31 ∷ [])
    -- after a programme start the kinds are new
    ∷ shows (payload moved_one ∷ start_notice ∷ []) rest_one 1 1 0 (default_of 3 31 ∷ []) (inactive_of 3 31 ∷ [])
    ∷ []

-- Doubt

unfoldable pub doubt_cases : List Case
doubt_cases =
    -- doubt unsettles the start row, here of equal kinds; at rest the block row stays so
    shows doubtful rest_one 1 1 1 (on_row (pos 0) 32 10 20 (pos 5) 0 ∷ []) (off_row 10 20 (pos 5) 0 ∷ [])
    -- an active first block settles
    ∷ shows doubtful (said 1 (blocks 1 ++ first unity (place 1 2 1 3))) 1 1 0 (on_row (pos 0) 32 10 20 (pos 5) 0 ∷ []) (on_row (pos 0) 32 1 2 (pos 3) 31 ∷ [])
    -- and so to the end of the frame
    ∷ shows doubtful (said 1 (blocks 3 ++ first unity (place 1 2 1 3) ++ on (kept ++ groups 8 (moved 1 1 1 ++ free)) ++ off)) 1 3 0
    (on_row (pos 0) 32 10 20 (pos 5) 0 ∷ []) (on_row (pos 0) 32 1 2 (pos 3) 31 ∷ on_row (pos 0) 32 2 3 (pos 4) 31 ∷ off_row 2 3 (pos 4) 31 ∷ [])
    -- changed kinds
    ∷ shows doubtful (said 2 (blocks 1 ++ first unity (place 1 2 1 3) ++ off)) 2 1 1
    (default_of 3 0 ∷ default_of 3 0 ∷ []) (on_row (pos 0) 32 1 2 (pos 3) 31 ∷ inactive_of 3 0 ∷ [])
    -- a gap before the first payload
    ∷ shows (gap_notice ∷ []) rest_one 1 1 1 (default_of 3 0 ∷ []) (inactive_of 3 0 ∷ [])
    -- a reset forgets the row, and leaves doubt: before the first payload, and after one
    ∷ shows (reset_notice ∷ []) rest_one 1 1 1 (default_of 3 0 ∷ []) (inactive_of 3 0 ∷ [])
    ∷ shows (payload moved_one ∷ reset_notice ∷ []) rest_one 1 1 1 (default_of 3 0 ∷ []) (inactive_of 3 0 ∷ [])
    -- fixed kinds are settled in a block: changed kinds, and equal ones
    ∷ shows (gap_notice ∷ []) rest_with_lfe 2 1 1 (default_of 0 0 ∷ default_of 3 0 ∷ []) (inactive_of 0 31 ∷ inactive_of 3 0 ∷ [])
    ∷ shows (payload rest_with_lfe ∷ gap_notice ∷ []) rest_with_lfe 2 1 1 (inactive_of 0 0 ∷ inactive_of 3 0 ∷ []) (inactive_of 0 31 ∷ inactive_of 3 0 ∷ [])
    ∷ []

-- What ends doubt

unfoldable pub clearing_cases : List Case
clearing_cases =
    -- a refused payload leaves doubt: after `40` the start row has it still
    shows (payload moved_one ∷ gap_notice ∷ payload (0x40 ∷ []) ∷ []) rest_one 1 1 1 (on_row (pos 0) 32 10 20 (pos 5) 0 ∷ []) (off_row 10 20 (pos 5) 0 ∷ [])
    -- an accepted one ends it: then changed kinds have mark 31,
    ∷ shows (payload moved_one ∷ gap_notice ∷ payload rest_one ∷ []) rest_two 2 1 0 (default_of 3 31 ∷ default_of 3 31 ∷ []) (inactive_of 3 31 ∷ inactive_of 3 31 ∷ [])
    -- equal kinds the mark that was kept: 0 after rest,
    ∷ shows (payload moved_one ∷ gap_notice ∷ payload rest_one ∷ []) rest_one 1 1 1 (off_row 10 20 (pos 5) 0 ∷ []) (off_row 10 20 (pos 5) 0 ∷ [])
    -- 31 after an active block 0
    ∷ shows (payload moved_one ∷ gap_notice ∷ payload moved_one ∷ []) rest_one 1 1 0 (on_row (pos 0) 32 10 20 (pos 5) 31 ∷ []) (off_row 10 20 (pos 5) 31 ∷ [])
    -- a programme start ends it too, a reset's and a gap's; a reset does not
    ∷ shows (payload moved_one ∷ gap_notice ∷ start_notice ∷ []) rest_one 1 1 0 (default_of 3 31 ∷ []) (inactive_of 3 31 ∷ [])
    ∷ shows (payload moved_one ∷ reset_notice ∷ start_notice ∷ []) rest_one 1 1 0 (default_of 3 31 ∷ []) (inactive_of 3 31 ∷ [])
    ∷ shows (payload moved_one ∷ gap_notice ∷ reset_notice ∷ []) rest_one 1 1 1 (default_of 3 0 ∷ []) (inactive_of 3 0 ∷ [])
    -- after a reset, too, an accepted payload ends it
    ∷ shows (reset_notice ∷ payload moved_one ∷ []) rest_one 1 1 0 (on_row (pos 0) 32 10 20 (pos 5) 31 ∷ []) (off_row 10 20 (pos 5) 31 ∷ [])
    ∷ []

-- What settles a group

-- the words of these groups: a place, a zone with elevation, a size, a screen
abbrev of_position : Bits
of_position = to 1 2 1 3

abbrev of_zone : Bits
of_zone = 3 ⊳ 0 ++ 1 ⊳ 1

abbrev of_size : Bits
of_size = 2 ⊳ 0

abbrev of_screen : Bits
of_screen = 1 ⊳ 0

-- without a position: flags, words, mark
unfoldable pub unplaced : ℕ → Bits → ℕ → Case
unplaced f b m = settles (groups f (b ++ free)) 10 20 5 m 1

-- with one in full
unfoldable pub placed : ℕ → Bits → ℕ → ℕ → Case
placed f b m u = settles (groups f (of_position ++ b ++ free)) 1 2 3 m u

unfoldable pub settling_cases : List Case
settling_cases =
    -- render status 0 settles all groups, and so does status 1 with a place in full
    settles (2 ⊳ 0) 31 31 0 31 0
    ∷ settles (2 ⊳ 1 ++ of_position ++ plain) 1 2 3 31 0
    -- render status 3 settles those whose flags are set, in all 16 ways, and the lock in each
    ∷ unplaced 0 [] 16 ∷ unplaced 1 of_screen 24 ∷ unplaced 2 of_size 20 ∷ unplaced 3 (of_size ++ of_screen) 28
    ∷ unplaced 4 of_zone 18 ∷ unplaced 5 (of_zone ++ of_screen) 26 ∷ unplaced 6 (of_zone ++ of_size) 22 ∷ unplaced 7 (of_zone ++ of_size ++ of_screen) 30
    ∷ placed 8 [] 17 1 ∷ placed 9 of_screen 25 1 ∷ placed 10 of_size 21 1 ∷ placed 11 (of_size ++ of_screen) 29 1
    ∷ placed 12 of_zone 19 1 ∷ placed 13 (of_zone ++ of_screen) 27 1 ∷ placed 14 (of_zone ++ of_size) 23 1 ∷ placed 15 (of_zone ++ of_size ++ of_screen) 31 0
    -- steps settle no place, and all else that is read with them is settled
    ∷ settles (2 ⊳ 1 ++ moved 1 1 1 ++ plain) 11 21 6 30 1
    ∷ settles (groups 15 (moved 1 1 1 ++ plain)) 11 21 6 30 1
    ∷ settles (groups 8 (moved 1 1 1 ++ free)) 11 21 6 16 1
    -- though the distance is then true: the group is one
    ∷ shows doubtful (said 1 (blocks 2 ++ off ++ on (kept ++ groups 8 (steps 1 1 1 ++ infinite ++ free)))) 1 2 1
    (on_row (pos 0) 32 10 20 (pos 5) 0 ∷ []) (off_row 10 20 (pos 5) 0 ∷ distant 17 (on_row (neg 128) 0 11 21 (pos 6) 16) ∷ [])
    -- render status 2 settles none
    ∷ settles kept 10 20 5 0 1
    ∷ []

-- Block by block, and from payload to payload

-- in doubt: at rest, then position and zone, rest, size and screen
abbrev in_parts : Bits
in_parts = off ++ on (kept ++ groups 12 (of_position ++ of_zone ++ free)) ++ off ++ on (kept ++ groups 3 (of_size ++ of_screen ++ free))

-- in doubt: at rest, then a position alone
abbrev place_only : Bits
place_only = off ++ on (kept ++ groups 8 (of_position ++ free))

unfoldable pub rising_cases : List Case
rising_cases =
    -- what is settled stays so: at rest, and while other groups are read
    shows doubtful (said 1 (blocks 4 ++ in_parts)) 1 4 0 (on_row (pos 0) 32 10 20 (pos 5) 0 ∷ [])
    (off_row 10 20 (pos 5) 0 ∷ on_row (neg 128) 0 1 2 (pos 3) 19 ∷ off_row 1 2 (pos 3) 19 ∷ on_row (neg 128) 0 1 2 (pos 3) 31 ∷ [])
    -- steps from a place that is settled
    ∷ shows doubtful (said 1 (blocks 3 ++ place_only ++ on (kept ++ groups 8 (moved 1 1 1 ++ free)))) 1 3 1 (on_row (pos 0) 32 10 20 (pos 5) 0 ∷ [])
    (off_row 10 20 (pos 5) 0 ∷ on_row (neg 128) 0 1 2 (pos 3) 17 ∷ on_row (neg 128) 0 2 3 (pos 4) 17 ∷ [])
    -- the next payload's start row has the mark that was kept, and the next size settles only a size
    ∷ shows (payload moved_one ∷ gap_notice ∷ payload (said 1 (blocks 2 ++ place_only)) ∷ [])
    (said 1 (blocks 2 ++ off ++ on (kept ++ groups 2 (of_size ++ free)))) 1 2 1 (on_row (neg 128) 0 1 2 (pos 3) 17 ∷ [])
    (off_row 1 2 (pos 3) 17 ∷ on_row (neg 128) 0 1 2 (pos 3) 21 ∷ [])
    -- another gap takes it all away, and other kinds begin settled
    ∷ shows (payload moved_one ∷ gap_notice ∷ payload (said 1 (blocks 2 ++ place_only)) ∷ gap_notice ∷ []) rest_one 1 1 1
    (on_row (neg 128) 0 1 2 (pos 3) 0 ∷ []) (off_row 1 2 (pos 3) 0 ∷ [])
    ∷ shows (payload moved_one ∷ gap_notice ∷ payload (said 1 (blocks 2 ++ place_only)) ∷ []) rest_two 2 1 0
    (default_of 3 31 ∷ default_of 3 31 ∷ []) (inactive_of 3 31 ∷ inactive_of 3 31 ∷ [])
    ∷ []

unfoldable pub mark_cases : List Case
unfolding retained_cases doubt_cases clearing_cases settling_cases rising_cases
mark_cases = retained_cases ++ doubt_cases ++ clearing_cases ++ settling_cases ++ rising_cases

pub mark-cases : T (all_hold far mark_cases)
unfolding written settles unplaced placed mark_cases
mark-cases = tt
