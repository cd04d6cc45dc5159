-- Cases of the specification, sections 7 and 8, of the distance: each way to say it, what a position does to it, what keeps it and what ends it.
use mathlib.Core.List.{List, [], ◌∷◌, ◌++◌, map}
use mathlib.Core.Path.{◌≡◌, refl}
use lib.Dec.{T}
use lib.IntN.{ℤ, pos}
use Rattle.bits.specs.Parsed.{Parsed, got}
use Rattle.standard.specs.Updates.{distance}
use Rattle.standard.specs.Journal.{payload}
use Rattle.standard.specs.Cases.{Case, all_hold}
use Rattle.standard.proofs.cases.Writer.{Bits, bytes, ◌⊳◌, said, blocks, off, on, kept, unity, usual, spot, near, factor, infinite, steps, free, rich, groups, first, neg, on_row, rich_row, distant, shows, far, written}
use Rattle.standard.proofs.cases.FurtherCases.{become}

-- Every way to say it

abbrev reads : Bits → Parsed ℤ
reads b = distance (bytes b) 8 0

pub codings :
    map reads (near
    ∷ factor 0 ∷ factor 1 ∷ factor 2 ∷ factor 3 ∷ factor 4 ∷ factor 5 ∷ factor 6 ∷ factor 7
    ∷ factor 8 ∷ factor 9 ∷ factor 10 ∷ factor 11 ∷ factor 12 ∷ factor 13 ∷ factor 14 ∷ factor 15
    ∷ infinite ∷ [])
    ≡ got (pos 0) 1
    ∷ got (pos 1) 6 ∷ got (pos 2) 6 ∷ got (pos 3) 6 ∷ got (pos 4) 6 ∷ got (pos 5) 6 ∷ got (pos 6) 6 ∷ got (pos 7) 6 ∷ got (pos 8) 6
    ∷ got (pos 9) 6 ∷ got (pos 10) 6 ∷ got (pos 11) 6 ∷ got (pos 12) 6 ∷ got (pos 13) 6 ∷ got (pos 14) 6 ∷ got (pos 15) 6 ∷ got (pos 16) 6
    ∷ got (pos 17) 2 ∷ []
unfolding written
codings = refl

-- What becomes of it

-- an active block 0 at (10, 20, 5), at this distance, with a rich picture
abbrev richly_at : Bits → Bits
richly_at d = on (unity ++ usual ++ spot 10 20 1 5 ++ d ++ rich)

-- a later block that says the position alone, in full or by steps, at this distance
abbrev fully : Bits → Bits
fully d = on (kept ++ groups 8 (1 ⊳ 0 ++ spot 40 50 0 3 ++ d ++ free))

abbrev onwards : Bits → Bits
onwards d = on (kept ++ groups 8 (steps 1 7 0 ++ d ++ free))

unfoldable pub distance_cases : List Case
distance_cases =
    -- a position sets it in block 0: by its index and one, at infinity
    become 1 1 (richly_at (factor 0)) (distant 1 (rich_row 1 (pos 0) 32 10 20 (pos 5) 31) ∷ [])
    ∷ become 1 1 (richly_at (factor 15)) (distant 16 (rich_row 1 (pos 0) 32 10 20 (pos 5) 31) ∷ [])
    ∷ become 1 1 (richly_at infinite) (distant 17 (rich_row 1 (pos 0) 32 10 20 (pos 5) 31) ∷ [])
    -- in later blocks one in full and one by steps do so alike, and also where none is specified
    ∷ become 1 5 (first unity (spot 10 20 1 5 ++ infinite) ++ onwards (factor 15) ++ onwards near ++ fully infinite ++ fully near)
    (distant 17 (on_row (pos 0) 32 10 20 (pos 5) 31)
    ∷ distant 16 (on_row (pos 0) 32 11 19 (pos 5) 31)
    ∷ on_row (pos 0) 32 12 18 (pos 5) 31
    ∷ distant 17 (on_row (pos 0) 32 40 50 (neg 3) 31)
    ∷ on_row (pos 0) 32 40 50 (neg 3) 31 ∷ [])
    -- render status 2, the other groups and rest keep it, from payload to payload too; render status 0 ends it
    ∷ shows (payload (said 1 (blocks 1 ++ richly_at infinite)) ∷ [])
    (said 1 (blocks 4 ++ off ++ on (2 ⊳ 1 ++ unity ++ usual ++ kept) ++ on (kept ++ groups 7 rich) ++ on (kept ++ 2 ⊳ 0))) 1 4 0
    (distant 17 (rich_row 1 (pos 0) 32 10 20 (pos 5) 31) ∷ [])
    (distant 17 (rich_row 0 (neg 128) 0 10 20 (pos 5) 31)
    ∷ distant 17 (rich_row 1 (pos 0) 32 10 20 (pos 5) 31)
    ∷ distant 17 (rich_row 1 (pos 0) 32 10 20 (pos 5) 31)
    ∷ on_row (pos 0) 32 31 31 (pos 0) 31 ∷ [])
    ∷ []

pub distances : T (all_hold far distance_cases)
unfolding written become distance_cases
distances = tt
