-- Cases of the specification, section 7, "Reading order": version and counts, program assignment, timings, table data.
use Prim.Native.Nat.{ℕ, ◌-◌}
use mathlib.Core.List.{List, [], ◌∷◌, ◌++◌, map, flatten}
use lib.Dec.{T}
use lib.IntN.{pos}
use lib.ListN.{length, replicate}
use Rattle.standard.specs.Contexts as context
use Rattle.standard.specs.Cases.{Case, plain_row, all_hold}
use Rattle.standard.proofs.cases.Writer.{Bits, ◌⊳◌, bytes, element, elements, said, said_with_lfe, block, timed, blocks, off, on, unity, level, usual, place, plain, first, neg, on_row, off_row, default_of, inactive_of, gives, shows, fails, lacks, farther, written}

-- version 0, n objects, a content
unfoldable pub assigned : ℕ → Bits → Bits
assigned n content = 2 ⊳ 0 ++ 5 ⊳ (n - 1) ++ 1 ⊳ 0 ++ content

-- every object at rest in every block
unfoldable pub at_rest : ℕ → Bits
at_rest n = flatten (replicate n off)

-- the content gives these kinds (Lfe, Bed, Isf, Dynamic: 0 to 3), all at rest in one block
unfoldable pub assigns : Bits → List ℕ → Case
assigns content ks =
    let n = length ks in
    shows [] (bytes (assigned n content ++ elements (element 1 (blocks 1 ++ at_rest n) ∷ []))) n 1 0
    (map (λ (k : ℕ). default_of k 31) ks) (map (λ (k : ℕ). inactive_of k 31) ks)

-- the timings of one object at rest, from an offset, and the numbers they give
unfoldable pub runs : Bits → List Bits → List ℕ → Case
runs offset ts numbers =
    let b = length ts in
    gives [] (said 1 (timed offset ts ++ at_rest b)) 1 b 0 (default_of 3 31 ∷ []) (replicate b (off_row 31 31 (pos 0) 31)) numbers

-- a block at 0 with an indexed ramp
unfoldable pub indexed : ℕ → Bits
indexed i = block 0 (2 ⊳ 3 ++ 1 ⊳ 1 ++ 4 ⊳ i)

-- one bed: distribution flag, no multiple flag
unfoldable pub one_bed : Bits → Bits
one_bed b = 4 ⊳ 8 ++ 1 ⊳ 0 ++ 1 ⊳ 0 ++ b

-- a bed by the standard and by the nonstandard assignment, and one of an Lfe only

unfoldable pub standard : ℕ → Bits
standard v = 1 ⊳ 0 ++ 1 ⊳ 1 ++ 10 ⊳ v

unfoldable pub nonstandard : ℕ → Bits
nonstandard v = 1 ⊳ 0 ++ 1 ⊳ 0 ++ 17 ⊳ v

unfoldable pub lfe_only : Bits
lfe_only = 1 ⊳ 1

-- Version, count, dynamic-only

unfoldable pub count_cases : List Case
count_cases =
    -- versions 3 and 8, each in two parts, are not supported
    fails (bytes (2 ⊳ 3 ++ 3 ⊳ 0)) 4 context.version 0
    ∷ fails (bytes (2 ⊳ 3 ++ 3 ⊳ 5)) 4 context.version 0
    -- a count in two parts, 31 and 0: 32 objects
    ∷ shows [] (bytes (2 ⊳ 0 ++ 5 ⊳ 31 ++ 7 ⊳ 0 ++ 1 ⊳ 1 ++ 1 ⊳ 0 ++ elements (element 1 (blocks 1 ++ at_rest 32) ∷ []))) 32 1 0
    (replicate 32 (default_of 3 31)) (replicate 32 (inactive_of 3 31))
    -- the second part cut: at its own first bit
    ∷ lacks (bytes (2 ⊳ 0 ++ 5 ⊳ 31)) context.extended-object-count 7 6
    -- dynamic-only, and an Lfe before two Dynamic. An Lfe has basic information and no render information
    ∷ shows [] (said_with_lfe 3 (blocks 1 ++ on (level 20 ++ usual) ++ first unity (place 1 2 1 3) ++ off)) 3 1 0
    (default_of 0 31 ∷ default_of 3 31 ∷ default_of 3 31 ∷ [])
    (plain_row (pos 0) (pos 1) (neg 6) (pos 32) (pos 31) (pos 31) (pos 0) (pos 31) ∷ on_row (pos 0) 32 1 2 (pos 3) 31 ∷ off_row 31 31 (pos 0) 31 ∷ [])
    ∷ lacks (bytes (2 ⊳ 0 ++ 5 ⊳ 0 ++ 1 ⊳ 1)) context.LFE-present-flag 8 1
    ∷ []

-- Program assignment

unfoldable pub assignment_cases : List Case
assignment_cases =
    -- a standard bed by its bits, the lowest first, widths 1,2,2,2,2,2,2,1,1,2, an Lfe at 0 and 7: bits 0, 1, 7
    assigns (one_bed (standard 0b0010000011)) (0 ∷ 1 ∷ 1 ∷ 0 ∷ [])
    -- bits 8 and 9
    ∷ assigns (one_bed (standard 0b1100000000)) (1 ∷ 1 ∷ 1 ∷ [])
    -- all of them
    ∷ assigns (one_bed (standard 0b1111111111)) (0 ∷ replicate 12 1 ++ 0 ∷ 1 ∷ 1 ∷ 1 ∷ [])
    -- a nonstandard one has 17, one object each, an Lfe at 0 and 13: bits 0, 12, 13, 16
    ∷ assigns (one_bed (nonstandard 0b10011000000000001)) (0 ∷ 1 ∷ 0 ∷ 1 ∷ [])
    ∷ assigns (one_bed (nonstandard 0b11111111111111111)) (0 ∷ replicate 12 1 ++ 0 ∷ 1 ∷ 1 ∷ 1 ∷ [])
    -- a bed of an Lfe only
    ∷ assigns (one_bed lfe_only) (0 ∷ [])
    -- several beds, coded less 2: two, and three; the distribution flag says nothing
    ∷ assigns (4 ⊳ 8 ++ 1 ⊳ 0 ++ 1 ⊳ 1 ++ 3 ⊳ 0 ++ lfe_only ++ standard 2) (0 ∷ 1 ∷ 1 ∷ [])
    ∷ assigns (4 ⊳ 8 ++ 1 ⊳ 1 ++ 1 ⊳ 1 ++ 3 ⊳ 1 ++ nonstandard 2 ++ lfe_only ++ standard 256) (1 ∷ 0 ∷ 1 ∷ [])
    -- the six numbers of Isf objects, and the two indices that have none
    ∷ assigns (4 ⊳ 4 ++ 3 ⊳ 0) (replicate 4 2)
    ∷ assigns (4 ⊳ 4 ++ 3 ⊳ 1) (replicate 8 2)
    ∷ assigns (4 ⊳ 4 ++ 3 ⊳ 2) (replicate 10 2)
    ∷ assigns (4 ⊳ 4 ++ 3 ⊳ 3) (replicate 14 2)
    ∷ assigns (4 ⊳ 4 ++ 3 ⊳ 4) (replicate 15 2)
    ∷ assigns (4 ⊳ 4 ++ 3 ⊳ 5) (replicate 30 2)
    ∷ fails (bytes (assigned 4 (4 ⊳ 4 ++ 3 ⊳ 6))) 2 context.intermediate-spatial-format-index 12
    ∷ fails (bytes (assigned 4 (4 ⊳ 4 ++ 3 ⊳ 7))) 2 context.intermediate-spatial-format-index 12
    -- two Dynamic objects, coded less 1
    ∷ assigns (4 ⊳ 2 ++ 5 ⊳ 1) (3 ∷ 3 ∷ [])
    -- 159, the most that can be said, is no object count; the flag is at bit 14
    ∷ fails (bytes (2 ⊳ 0 ++ 5 ⊳ 31 ++ 7 ⊳ 96 ++ 1 ⊳ 0 ++ 4 ⊳ 2 ++ 5 ⊳ 31 ++ 7 ⊳ 127)) 2 context.program-assignment-object-count 14
    -- two reserved bytes, coded less 1, say nothing
    ∷ assigns (4 ⊳ 3 ++ 5 ⊳ 0 ++ 4 ⊳ 1 ++ 16 ⊳ 0xffff) (3 ∷ [])
    -- all four contents in one: beds, Isf, Dynamic, reserved
    ∷ assigns (4 ⊳ 15 ++ 1 ⊳ 0 ++ 1 ⊳ 0 ++ lfe_only ++ 3 ⊳ 0 ++ 5 ⊳ 1 ++ 4 ⊳ 0 ++ 8 ⊳ 0xff) (0 ∷ 2 ∷ 2 ∷ 2 ∷ 2 ∷ 3 ∷ 3 ∷ [])
    -- kinds that are not as many as the objects, at the dynamic-only flag: too many, too few and none
    ∷ fails (bytes (assigned 1 (4 ⊳ 2 ++ 5 ⊳ 1))) 2 context.program-assignment-object-count 7
    ∷ fails (bytes (assigned 3 (4 ⊳ 2 ++ 5 ⊳ 1))) 2 context.program-assignment-object-count 7
    ∷ fails (bytes (assigned 1 (4 ⊳ 0))) 2 context.program-assignment-object-count 7
    -- reserved data that is cut comes before this, at its first bit
    ∷ lacks (bytes (assigned 1 (4 ⊳ 3 ++ 5 ⊳ 1 ++ 4 ⊳ 15))) context.program-assignment-reserved-data 21 125
    ∷ []

-- Timings

unfoldable pub timing_cases : List Case
timing_cases =
    -- without an offset a start is 32 times its factor
    runs (2 ⊳ 0) (block 0 (2 ⊳ 0) ∷ block 1 (2 ⊳ 0) ∷ block 63 (2 ⊳ 0) ∷ []) (0 ∷ 0 ∷ 32 ∷ 0 ∷ 2016 ∷ 0 ∷ [])
    -- the four offsets of code 1, added to every start
    ∷ runs (2 ⊳ 1 ++ 2 ⊳ 0) (block 0 (2 ⊳ 0) ∷ block 1 (2 ⊳ 0) ∷ []) (8 ∷ 0 ∷ 40 ∷ 0 ∷ [])
    ∷ runs (2 ⊳ 1 ++ 2 ⊳ 1) (block 0 (2 ⊳ 0) ∷ []) (16 ∷ 0 ∷ [])
    ∷ runs (2 ⊳ 1 ++ 2 ⊳ 2) (block 0 (2 ⊳ 0) ∷ []) (18 ∷ 0 ∷ [])
    ∷ runs (2 ⊳ 1 ++ 2 ⊳ 3) (block 0 (2 ⊳ 0) ∷ []) (24 ∷ 0 ∷ [])
    -- an offset in 5 bits, by code 2; there is no code 3
    ∷ runs (2 ⊳ 2 ++ 5 ⊳ 31) (block 0 (2 ⊳ 0) ∷ block 63 (2 ⊳ 0) ∷ []) (31 ∷ 0 ∷ 2047 ∷ 0 ∷ [])
    ∷ fails (said 1 (timed (2 ⊳ 3) (block 0 (2 ⊳ 0) ∷ []) ++ off)) 2 context.sample-offset-code 24
    -- ramps by code alone, three of them, and in 11 bits
    ∷ runs (2 ⊳ 0)
    (block 0 (2 ⊳ 0) ∷ block 1 (2 ⊳ 1) ∷ block 2 (2 ⊳ 2) ∷ block 3 (2 ⊳ 3 ++ 1 ⊳ 0 ++ 11 ⊳ 2047) ∷ block 4 (2 ⊳ 3 ++ 1 ⊳ 0 ++ 11 ⊳ 1) ∷ block 5 (2 ⊳ 0) ∷ [])
    (0 ∷ 0 ∷ 32 ∷ 512 ∷ 64 ∷ 1536 ∷ 96 ∷ 2047 ∷ 128 ∷ 1 ∷ 160 ∷ 0 ∷ [])
    -- the whole table of indexed ramps
    ∷ runs (2 ⊳ 0) (indexed 0 ∷ indexed 1 ∷ indexed 2 ∷ indexed 3 ∷ indexed 4 ∷ indexed 5 ∷ indexed 6 ∷ indexed 7 ∷ [])
    (0 ∷ 32 ∷ 0 ∷ 64 ∷ 0 ∷ 128 ∷ 0 ∷ 256 ∷ 0 ∷ 320 ∷ 0 ∷ 480 ∷ 0 ∷ 1000 ∷ 0 ∷ 1001 ∷ [])
    ∷ runs (2 ⊳ 0) (indexed 8 ∷ indexed 9 ∷ indexed 10 ∷ indexed 11 ∷ indexed 12 ∷ indexed 13 ∷ indexed 14 ∷ indexed 15 ∷ [])
    (0 ∷ 1024 ∷ 0 ∷ 1600 ∷ 0 ∷ 1601 ∷ 0 ∷ 1602 ∷ 0 ∷ 1920 ∷ 0 ∷ 2000 ∷ 0 ∷ 2002 ∷ 0 ∷ 2048 ∷ [])
    -- reserved bits, where there are any, are 0
    ∷ shows [] (said 1 (2 ⊳ 0 ++ 3 ⊳ 0 ++ 6 ⊳ 0 ++ 2 ⊳ 0 ++ 1 ⊳ 0 ++ 5 ⊳ 0 ++ off)) 1 1 0 (default_of 3 31 ∷ []) (off_row 31 31 (pos 0) 31 ∷ [])
    ∷ fails (said 1 (2 ⊳ 0 ++ 3 ⊳ 0 ++ 6 ⊳ 0 ++ 2 ⊳ 0 ++ 1 ⊳ 0 ++ 5 ⊳ 1 ++ off)) 2 context.object-element-reserved-data 38
    ∷ []

-- Table data

unfoldable pub table_data_cases : List Case
table_data_cases =
    -- table data of two bytes behind an inactive block and of one behind an active: what follows is read
    shows []
    (said 3 (blocks 1
    ++ 1 ⊳ 1 ++ 1 ⊳ 1 ++ 4 ⊳ 1 ++ 16 ⊳ 0xffff
    ++ 1 ⊳ 0 ++ unity ++ usual ++ place 1 2 1 3 ++ plain ++ 1 ⊳ 1 ++ 4 ⊳ 0 ++ 8 ⊳ 0xff
    ++ first unity (place 4 5 1 6)))
    3 1 0
    (default_of 3 31 ∷ default_of 3 31 ∷ default_of 3 31 ∷ []) (off_row 31 31 (pos 0) 31 ∷ on_row (pos 0) 32 1 2 (pos 3) 31 ∷ on_row (pos 0) 32 4 5 (pos 6) 31 ∷ [])
    -- cut by the element's end: where the run begins
    ∷ lacks (said 1 (blocks 1 ++ 1 ⊳ 1 ++ 1 ⊳ 1 ++ 4 ⊳ 15)) context.additional-table-data 44 125
    ∷ []

unfoldable pub reading_cases : List Case
unfolding count_cases assignment_cases timing_cases table_data_cases
reading_cases = count_cases ++ assignment_cases ++ timing_cases ++ table_data_cases

pub reading-cases : T (all_hold farther reading_cases)
unfolding written assigned at_rest assigns runs indexed one_bed standard nonstandard lfe_only reading_cases
reading-cases = tt
