-- The specification, section 13, "Bench cases": what a case says, and the cases P1 to P11 as one table.
use Rattle.std.specs.Prelude.{ℕ, ◌+◌, ◌*◌, ◌-◌, Bool, true, false, ◌&&◌, List, [], ◌∷◌, ◌++◌, eqb, ℤ, pos, negsuc, length, take, drop, replicate}
use Rattle.bits.specs.Parsed.{Parsed, got, refused}
use Rattle.standard.specs.Numbers.{row_width, object_limit, retained_length, start_length, blocks_length, timings_length, silence}
use Rattle.standard.specs.Tree.{dynamic, kind_number}
use Rattle.standard.specs.Assignment.{object_count}
use Rattle.standard.specs.Updates.{decibels}
use Rattle.standard.specs.Rows.{Picture, Row, eqℤ}
use Rattle.standard.specs.Tables.{rows_numbers}
use Rattle.standard.specs.Calls.{Lent, Answer, Done, over, decode, timing_call}
use Rattle.standard.specs.Journal.{Record}
use Rattle.standard.specs.Events.{run, after}

-- Equality as a test

unfoldable pub same : List ℕ → List ℕ → Bool
same [] [] = true
same [] (y ∷ ys) = false
same (x ∷ xs) [] = false
same (x ∷ xs) (y ∷ ys) = eqb x y && same xs ys

unfoldable pub sameℤ : List ℤ → List ℤ → Bool
sameℤ [] [] = true
sameℤ [] (y ∷ ys) = false
sameℤ (x ∷ xs) [] = false
sameℤ (x ∷ xs) (y ∷ ys) = eqℤ x y && sameℤ xs ys

-- Rows

abbrev pub plain_picture : ℤ → ℤ → ℤ → Picture
plain_picture x y z =
    record {
      position = record { point = record { x = x; y = y; z = z }; distance = pos 0 };
      zone = record { zone = pos 0; elevation = pos 1 };
      size = record { width = pos 0; depth = pos 0; height = pos 0 };
      screen = pos 0;
      lock = pos 0;
    }

-- kind, active, gain, priority; x, y, z; mark. The rest is the default: elevation 1, all else 0
abbrev pub plain_row : ℤ → ℤ → ℤ → ℤ → ℤ → ℤ → ℤ → ℤ → Row
plain_row k a g n x y z m = record { kind = k; active = a; gain = g; priority = n; picture = plain_picture x y z; mark = m }

-- a Dynamic at rest
abbrev pub inactive_row : ℤ → ℤ → ℤ → ℤ → Row
inactive_row x y z m = plain_row (kind_number dynamic) (pos 0) silence (pos 0) x y z m

-- What is lent: the zeros of a fresh decoder, sevens in the other tables, and in each two numbers more than it needs

unfoldable pub lent_tables : Lent
lent_tables =
    record {
      retained = replicate retained_length (pos 0) ++ pos 8 ∷ pos 9 ∷ [];
      start = replicate start_length (pos 7) ++ pos 8 ∷ pos 9 ∷ [];
      blocks = replicate blocks_length (pos 7) ++ pos 8 ∷ pos 9 ∷ [];
      timings = replicate timings_length 7 ++ 8 ∷ 9 ∷ [];
    }

-- Cases

pub data Case : Type 0 where
  -- after these records: a payload, and its number, context, place and missing bits
  refuses : List Record → List ℕ → ℕ → ℕ → ℕ → ℕ → Case
  -- after these records: a payload; objects, blocks, unsettled; the start rows, the block rows and the timings
  accepts : List Record → List ℕ → ℕ → ℕ → ℕ → List Row → List Row → List ℕ → Case
  -- a gain word and its dB
  gains : ℕ → ℤ → Case
  -- timings, how many blocks, and the timing call's number
  times : List ℕ → ℕ → ℕ → Case
  -- a payload whose object count passes the count rule
  counts : List ℕ → ℕ → Case

-- what a refusal leaves: the retained table, and zeros over the others as far as they are needed
unfoldable pub refused_tables : Lent → Lent
refused_tables l =
    record {
      retained = l.retained;
      start = over (replicate start_length (pos 0)) l.start;
      blocks = over (replicate blocks_length (pos 0)) l.blocks;
      timings = over (replicate timings_length 0) l.timings;
    }

-- what the acceptance of n objects in b blocks leaves: these rows and timings over the heads of the tables, and over the retained one
-- the count, no doubt, the rows of the last block and zeros
unfoldable pub accepted_tables : Lent → ℕ → ℕ → List Row → List Row → List ℕ → Lent
accepted_tables l n b start rows timings =
    let last = rows_numbers (drop ((b - 1) * n) rows) in
    record {
      retained = over (pos n ∷ pos 0 ∷ last ++ replicate (row_width * (object_limit - n)) (pos 0)) l.retained;
      start = over (rows_numbers start) l.start;
      blocks = over (rows_numbers rows) l.blocks;
      timings = over timings l.timings;
    }

unfoldable pub answer_numbers : Answer → List ℕ
answer_numbers a = a.verdict.number ∷ a.verdict.context ∷ a.verdict.place ∷ a.objects ∷ a.blocks ∷ a.unsettled ∷ a.verdict.missing ∷ []

-- the whole answer, and the first k numbers of all four lists
unfoldable pub comes_to : ℕ → Done → List ℕ → Lent → Bool
comes_to k d answer l =
    same (answer_numbers d.answer) answer
    && sameℤ (take k d.lent.retained) (take k l.retained)
    && sameℤ (take k d.lent.start) (take k l.start)
    && sameℤ (take k d.lent.blocks) (take k l.blocks)
    && same (take k d.lent.timings) (take k l.timings)

-- beyond the end of every list that is lent
unfoldable pub to_the_end : ℕ
to_the_end = blocks_length + 3

unfoldable pub is_count : Parsed ℕ → ℕ → Bool
is_count (got m p) n = eqb m n
is_count (refused r) n = false

-- k: how far each list is looked at
unfoldable pub holds : ℕ → Case → Bool
holds k (refuses rs s n c p m) =
    let l = run after lent_tables rs in
    comes_to k (decode s l) (n ∷ c ∷ p ∷ 0 ∷ 0 ∷ 0 ∷ m ∷ []) (refused_tables l)
holds k (accepts rs s n b u start rows timings) =
    let l = run after lent_tables rs in
    comes_to k (decode s l) (0 ∷ 0 ∷ 0 ∷ n ∷ b ∷ u ∷ 0 ∷ []) (accepted_tables l n b start rows timings)
holds k (gains w z) = eqℤ (decibels w) z
holds k (times l blocks n) = eqb (timing_call l blocks) n
holds k (counts s n) = is_count (object_count s (length s * 8) 2) n

unfoldable pub all_hold : ℕ → List Case → Bool
all_hold k [] = true
all_hold k (c ∷ cs) = holds k c && all_hold k cs

-- The table

-- A, less its last byte
abbrev pub head_of_a : List ℕ
head_of_a = 0x01 ∷ 0x04 ∷ 0x48 ∷ 0x00 ∷ 0x06 ∷ []

-- P1 to P11, and the two sentences after them
unfoldable pub bench_cases : List Case
bench_cases =
    refuses [] [] 1 1 0 2
    ∷ refuses [] (0x40 ∷ []) 4 1 0 0
    ∷ refuses [] (0x01 ∷ 0x00 ∷ []) 2 18 16 0
    ∷ accepts [] (head_of_a ++ 0x00 ∷ []) 1 1 0 (plain_row (pos 3) (pos 1) (pos 0) (pos 32) (pos 31) (pos 31) (pos 0) (pos 31) ∷ []) (inactive_row (pos 31) (pos 31) (pos 0) (pos 31) ∷ []) (0 ∷ 0 ∷ [])
    ∷ refuses [] head_of_a 1 11 23 7
    ∷ refuses [] (head_of_a ++ 0x01 ∷ []) 2 17 47 0
    ∷ refuses [] (head_of_a ++ 0x02 ∷ []) 2 16 46 0
    ∷ gains 14 (pos 1)
    ∷ gains 15 (negsuc 0)
    ∷ gains 63 (negsuc 48)
    ∷ times (1536 ∷ 0 ∷ []) 1 0
    ∷ times (1 ∷ 1536 ∷ []) 1 10
    ∷ times (0 ∷ 1000 ∷ 512 ∷ 0 ∷ []) 2 9
    ∷ counts (0x3f ∷ 0x80 ∷ []) 128
    ∷ refuses [] (0x3f ∷ 0x84 ∷ []) 3 3 2 0
    ∷ refuses [] (0x01 ∷ 0x04 ∷ 0x48 ∷ 0x00 ∷ 0x04 ∷ 0x00 ∷ []) 1 63 47 6
    ∷ refuses [] (0x01 ∷ 0x04 ∷ 0x48 ∷ 0x00 ∷ 0x02 ∷ 0x00 ∷ []) 2 46 38 0
    ∷ []

-- What computing opens

unfoldable pub computed : Unit {0}
unfolding same sameℤ lent_tables refused_tables accepted_tables answer_numbers comes_to to_the_end is_count holds all_hold bench_cases
computed = tt
