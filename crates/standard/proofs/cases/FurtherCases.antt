-- Cases of the specification, section 7, "Reading order", of an object in a block: position, the picture that is kept, basic and render information.
use Prim.Native.Nat.{ℕ}
use mathlib.Core.List.{List, [], ◌∷◌, ◌++◌}
use lib.Dec.{T}
use lib.IntN.{pos}
use lib.ListN.{replicate}
use Rattle.standard.specs.Rows.{Row}
use Rattle.standard.specs.Journal.{payload}
use Rattle.standard.specs.Contexts as context
use Rattle.standard.specs.Cases.{Case, all_hold}
use Rattle.standard.proofs.cases.Writer.{Bits, ◌⊳◌, said, blocks, off, on, kept, unity, silent, level, copied, usual, priority, place, to, moved, free, locked, plain, rich, groups, first, rest_one, neg, row, on_row, off_row, rich_row, default_of, shows, fails, lacks, far, written}

-- n new objects in b blocks: what is said of them, and their rows
unfoldable pub become : ℕ → ℕ → Bits → List Row → Case
become n b content rows = shows [] (said n (blocks b ++ content)) n b 0 (replicate n (default_of 3 31)) rows

-- an object that moves to (10, 20, 5) with a rich picture
abbrev richly : Bits
richly = on (unity ++ usual ++ place 10 20 1 5 ++ rich)

abbrev rich_one : List ℕ
rich_one = said 1 (blocks 1 ++ richly)

-- an active block 0 at the default position, of this gain
abbrev sound : Bits → Bits
sound gain = first gain (place 31 31 1 0)

-- Position

unfoldable pub position_cases : List Case
position_cases =
    -- Z above by sign 1, below by sign 0
    become 1 1 (first unity (place 10 20 1 5)) (on_row (pos 0) 32 10 20 (pos 5) 31 ∷ [])
    ∷ become 1 1 (first unity (place 10 20 0 5)) (on_row (pos 0) 32 10 20 (neg 5) 31 ∷ [])
    -- 63 is taken for 62, in x and in y
    ∷ become 1 1 (first unity (place 63 20 1 15)) (on_row (pos 0) 32 62 20 (pos 15) 31 ∷ [])
    ∷ become 1 1 (first unity (place 10 63 0 15)) (on_row (pos 0) 32 10 62 (neg 15) 31 ∷ [])
    -- steps beyond an end stay there: x at 0, y at 62, z at 15
    ∷ become 1 2 (first unity (place 2 60 1 13) ++ on (kept ++ groups 8 (moved 4 3 3 ++ free)))
    (on_row (pos 0) 32 2 60 (pos 13) 31 ∷ on_row (pos 0) 32 0 62 (pos 15) 31 ∷ [])
    -- x at 62, y at 0, z at -15
    ∷ become 1 2 (first unity (place 60 2 0 13) ++ on (kept ++ groups 8 (moved 3 4 4 ++ free)))
    (on_row (pos 0) 32 60 2 (neg 13) 31 ∷ on_row (pos 0) 32 62 0 (neg 15) 31 ∷ [])
    -- between the ends steps of -4 and 3 are added
    ∷ become 1 3 (first unity (place 30 20 1 2) ++ on (kept ++ groups 8 (moved 4 3 4 ++ free)) ++ on (kept ++ groups 8 (moved 3 4 3 ++ free)))
    (on_row (pos 0) 32 30 20 (pos 2) 31 ∷ on_row (pos 0) 32 26 23 (neg 2) 31 ∷ on_row (pos 0) 32 29 19 (pos 1) 31 ∷ [])
    ∷ []

-- Rest

unfoldable pub rest_cases : List Case
rest_cases =
    -- rest sets gain and priority to -128 and 0 and leaves the picture: a rich one,
    become 1 1 richly (rich_row 1 (pos 0) 32 10 20 (pos 5) 31 ∷ [])
    -- at rest in the next payload,
    ∷ shows (payload rich_one ∷ []) rest_one 1 1 0 (rich_row 1 (pos 0) 32 10 20 (pos 5) 31 ∷ []) (rich_row 0 (neg 128) 0 10 20 (pos 5) 31 ∷ [])
    -- and shown again in the third, by render status 2
    ∷ shows (payload rich_one ∷ payload rest_one ∷ []) (said 1 (blocks 2 ++ off ++ on (2 ⊳ 1 ++ unity ++ usual ++ kept))) 1 2 0
    (rich_row 0 (neg 128) 0 10 20 (pos 5) 31 ∷ []) (rich_row 0 (neg 128) 0 10 20 (pos 5) 31 ∷ rich_row 1 (pos 0) 32 10 20 (pos 5) 31 ∷ [])
    ∷ []

-- Basic information

unfoldable pub basic_cases : List Case
basic_cases =
    -- gain code 3 without a neighbour is 0 dB, whatever was retained
    shows (payload (said 1 (blocks 1 ++ sound (level 63))) ∷ []) (said 1 (blocks 1 ++ sound copied)) 1 1 0
    (on_row (neg 49) 32 31 31 (pos 0) 31 ∷ []) (on_row (pos 0) 32 31 31 (pos 0) 31 ∷ [])
    -- with a sounding neighbour it is the neighbour's gain, of word 20: -6 dB
    ∷ become 2 1 (sound (level 20) ++ sound copied) (on_row (neg 6) 32 31 31 (pos 0) 31 ∷ on_row (neg 6) 32 31 31 (pos 0) 31 ∷ [])
    -- with one that is silent, by gain code 1 or by rest, it is 0 dB
    ∷ become 2 1 (sound silent ++ sound copied) (on_row (neg 128) 32 31 31 (pos 0) 31 ∷ on_row (pos 0) 32 31 31 (pos 0) 31 ∷ [])
    ∷ become 2 1 (off ++ sound copied) (off_row 31 31 (pos 0) 31 ∷ on_row (pos 0) 32 31 31 (pos 0) 31 ∷ [])
    -- and each block copies from its own block
    ∷ become 2 2 (sound (level 20) ++ on (2 ⊳ 1 ++ level 0 ++ usual ++ kept) ++ sound copied ++ on (2 ⊳ 1 ++ copied ++ usual ++ kept))
    (on_row (neg 6) 32 31 31 (pos 0) 31 ∷ on_row (neg 6) 32 31 31 (pos 0) 31 ∷ on_row (pos 15) 32 31 31 (pos 0) 31 ∷ on_row (pos 15) 32 31 31 (pos 0) 31 ∷ [])
    -- basic status by block: 1, with a priority in 5 bits; 3 with its first flag, for the gain, and with its second, for the priority;
    -- 2, which keeps both; 0, which sets -128 and 0; 3 with both flags; 3 with neither
    ∷ become 1 7
    (on (level 20 ++ priority 7 ++ place 31 31 1 0 ++ plain)
    ++ on (2 ⊳ 3 ++ 2 ⊳ 2 ++ unity ++ kept)
    ++ on (2 ⊳ 3 ++ 2 ⊳ 1 ++ priority 31 ++ kept)
    ++ on (2 ⊳ 2 ++ kept)
    ++ on (2 ⊳ 0 ++ kept)
    ++ on (2 ⊳ 3 ++ 2 ⊳ 3 ++ level 14 ++ usual ++ kept)
    ++ on (2 ⊳ 3 ++ 2 ⊳ 0 ++ kept))
    (on_row (neg 6) 7 31 31 (pos 0) 31
    ∷ on_row (pos 0) 7 31 31 (pos 0) 31
    ∷ on_row (pos 0) 31 31 31 (pos 0) 31
    ∷ on_row (pos 0) 31 31 31 (pos 0) 31
    ∷ on_row (neg 128) 0 31 31 (pos 0) 31
    ∷ on_row (pos 1) 32 31 31 (pos 0) 31
    ∷ on_row (pos 1) 32 31 31 (pos 0) 31 ∷ [])
    ∷ []

-- Render information

unfoldable pub render_cases : List Case
render_cases =
    -- render status 3: its flags one by one (position, zone, size, screen), none, size again, and two; a lock each time.
    -- A zone with its elevation; one size for all, three sizes, none; a screen with 3 and 2 bits that say nothing, and no screen
    become 1 8
    (first unity (place 10 20 1 5)
    ++ on (kept ++ groups 8 (to 40 50 0 3 ++ locked))
    ++ on (kept ++ groups 4 (3 ⊳ 5 ++ 1 ⊳ 0 ++ free))
    ++ on (kept ++ groups 2 (2 ⊳ 1 ++ 5 ⊳ 9 ++ locked))
    ++ on (kept ++ groups 1 (1 ⊳ 1 ++ 3 ⊳ 7 ++ 2 ⊳ 3 ++ free))
    ++ on (kept ++ groups 0 locked)
    ++ on (kept ++ groups 2 (2 ⊳ 2 ++ 5 ⊳ 1 ++ 5 ⊳ 2 ++ 5 ⊳ 31 ++ locked))
    ++ on (kept ++ groups 3 (2 ⊳ 0 ++ 1 ⊳ 0 ++ free)))
    (on_row (pos 0) 32 10 20 (pos 5) 31
    ∷ row 1 (pos 0) 32 40 50 (neg 3) 0 0 0 0 1 0 1 31
    ∷ row 1 (pos 0) 32 40 50 (neg 3) 0 0 0 0 0 5 0 31
    ∷ row 1 (pos 0) 32 40 50 (neg 3) 9 9 9 0 1 5 0 31
    ∷ row 1 (pos 0) 32 40 50 (neg 3) 9 9 9 1 0 5 0 31
    ∷ row 1 (pos 0) 32 40 50 (neg 3) 9 9 9 1 1 5 0 31
    ∷ row 1 (pos 0) 32 40 50 (neg 3) 1 2 31 1 1 5 0 31
    ∷ row 1 (pos 0) 32 40 50 (neg 3) 0 0 0 0 0 5 0 31 ∷ [])
    -- status 1 past block 0 says all four groups; status 0 takes the default picture, and gain and priority are kept
    ∷ shows (payload rich_one ∷ []) (said 1 (blocks 3 ++ off ++ on (kept ++ 2 ⊳ 1 ++ to 1 2 1 3 ++ rich) ++ on (kept ++ 2 ⊳ 0))) 1 3 0
    (rich_row 1 (pos 0) 32 10 20 (pos 5) 31 ∷ [])
    (rich_row 0 (neg 128) 0 10 20 (pos 5) 31 ∷ rich_row 1 (neg 128) 0 1 2 (pos 3) 31 ∷ on_row (neg 128) 0 31 31 (pos 0) 31 ∷ [])
    -- there are no zones 6 and 7: at bit 60
    ∷ fails (said 1 (blocks 1 ++ on (unity ++ usual ++ place 10 20 1 5 ++ 3 ⊳ 6 ++ 5 ⊳ 0))) 2 context.zone-constraints-index 60
    ∷ fails (said 1 (blocks 1 ++ on (unity ++ usual ++ place 10 20 1 5 ++ 3 ⊳ 7 ++ 5 ⊳ 0))) 2 context.zone-constraints-index 60
    -- and no size code 3: at bit 64
    ∷ fails (said 1 (blocks 1 ++ on (unity ++ usual ++ place 10 20 1 5 ++ 3 ⊳ 0 ++ 1 ⊳ 1 ++ 2 ⊳ 3 ++ 2 ⊳ 0))) 2 context.object-size-index 64
    -- a depth, cut by the element's end: at bit 71
    ∷ lacks (said 1 (blocks 1 ++ 1 ⊳ 0 ++ unity ++ usual ++ place 10 20 1 5 ++ 3 ⊳ 0 ++ 1 ⊳ 1 ++ 2 ⊳ 2 ++ 5 ⊳ 0)) context.object-depth 71 5
    ∷ []

unfoldable pub further_cases : List Case
unfolding position_cases rest_cases basic_cases render_cases
further_cases = position_cases ++ rest_cases ++ basic_cases ++ render_cases

pub further : T (all_hold far further_cases)
unfolding written become further_cases
further = tt
