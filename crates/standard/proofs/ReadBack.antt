-- What an accepted payload leaves in the frame tables, read back.
use Prim.Native.Nat.{ℕ, zero, suc, ◌+◌, ◌*◌, ◌<◌}
use mathlib.Core.Path.{◌≡◌, ◌∙◌, ap}
use mathlib.Core.List.{List, [], ◌∷◌, ◌++◌, append_assoc, map}
use native.Mathlib.Nat.{zero-mul, suc-mul, add-mul}
use native.Mathlib.Omega.{arith}
use lib.IntN.{ℤ}
use lib.ListN.{length, get_or, drop, length-map}
use lib.Seq.{drop-append-add}
use Rattle.bits.proofs.Always.{All, all-to}
use Rattle.standard.specs.Numbers.{row_width}
use Rattle.standard.specs.Tree.{Object, Tree, kinds_of}
use Rattle.standard.specs.Rows.{Row, State, no_row}
use Rattle.standard.specs.Meaning.{start_rows, object_rows, all_rows, gain_of, frame_rows}
use Rattle.standard.specs.Tables.{rows_numbers, rows_of, in_block, by_block, timings_of}
use Rattle.standard.specs.Calls.{Lent, over, accept}
use Rattle.standard.proofs.Starts.{start-length}
use Rattle.standard.proofs.RowsOfFrame.{object-rows-length, frame-rows-length}
use Rattle.standard.proofs.ByBlock.{blocks-length, blocks-all}
use Rattle.standard.proofs.Laid.{rows_back, rows-length, rows_append, timings-back}
use Rattle.standard.proofs.Counts.{Sized}

-- as many rows as there are objects, and as many again for each block
pub starts-count : (st : State) (t : Tree) → length (start_rows st (kinds_of t)) ≡ length t.objects
starts-count st t = start-length st (kinds_of t) ∙ length-map t.objects (λ (o : Object). o.kind)

abbrev pub block_rows : State → Tree → List Row
block_rows st t = by_block (length t.timings) 0 (frame_rows st t)

pub blocks-count : (st : State) (t : Tree) → length (block_rows st t) ≡ length t.timings * length t.objects
blocks-count st t = blocks-length (length t.timings) 0 (frame_rows st t) ∙ ap (λ n. length t.timings * n) (frame-rows-length st t)

rows_written : (rs : List Row) (l : List ℤ) (n : ℕ) → length rs ≡ n → rows_of n (over (rows_numbers rs) l) ≡ rs
rows_written rs l n e = rw (← e) (rows_back rs _)

pub starts-written : (l : Lent) (st : State) (t : Tree) → rows_of (length t.objects) (accept l st t).lent.start ≡ start_rows st (kinds_of t)
unfolding accept
starts-written l st t = rows_written (start_rows st (kinds_of t)) l.start (length t.objects) (starts-count st t)

pub blocks-written : (l : Lent) (st : State) (t : Tree) → rows_of (length t.timings * length t.objects) (accept l st t).lent.blocks ≡ block_rows st t
unfolding accept
blocks-written l st t = rows_written (block_rows st t) l.blocks (length t.timings * length t.objects) (blocks-count st t)

-- block by block
pub block_written : (l : Lent) (st : State) (t : Tree) (b : ℕ) → b < length t.timings
    → rows_of (length t.objects) (drop (b * length t.objects * row_width) (accept l st t).lent.blocks) ≡ in_block b (frame_rows st t)
unfolding accept by_block
block_written l st t b h = go (length t.timings) 0 b b h (omega arith) _
  where
    rows : ℕ → List Row
    rows c = in_block c (frame_rows st t)

    n : ℕ
    n = length t.objects

    count : (c : ℕ) → length (rows c) ≡ n
    count c = length-map (frame_rows st t) (λ (r : List Row). get_or r c no_row) ∙ frame-rows-length st t

    -- of the blocks from c on
    go : (m c b d : ℕ) → b < m → d ≡ c + b → (z : List ℤ) → rows_of n (drop (b * n * row_width) (rows_numbers (by_block m c (frame_rows st t)) ++ z)) ≡ rows d
    go zero c b d k e z = absurd (omega arith)
    go (suc m) c zero d k e z =
        let later = by_block m (suc c) (frame_rows st t) in
        let here : d ≡ c = omega arith in
        rw (here, zero-mul n, zero-mul row_width, ← count c, rows_append (rows c) later, append_assoc (rows_numbers (rows c)) (rows_numbers later) z) (rows_back (rows c) _)
    go (suc m) c (suc b) d k e z =
        let later = by_block m (suc c) (frame_rows st t) in
        let long : length (rows_numbers (rows c)) ≡ n * row_width = rows-length (rows c) ∙ ap (λ k. k * row_width) (count c) in
        let past : suc b * n * row_width ≡ length (rows_numbers (rows c)) + b * n * row_width = rw (long, suc-mul b n, add-mul (b * n) n row_width) (omega arith) in
        rw (past, rows_append (rows c) later, append_assoc (rows_numbers (rows c)) (rows_numbers later) z, drop-append-add (rows_numbers (rows c)) (rows_numbers later ++ z) (b * n * row_width))
        (go m (suc c) b d (omega arith) (omega arith) z)

-- the rows of the first block stand first
pub first-written : (l : Lent) (st : State) (t : Tree) → 0 < length t.timings → rows_of (length t.objects) (accept l st t).lent.blocks ≡ in_block 0 (frame_rows st t)
first-written l st t h = rw (zero-mul (length t.objects), zero-mul row_width) at (block_written l st t 0 h)

pub timings-written : (l : Lent) (st : State) (t : Tree) → timings_of (length t.timings) (accept l st t).lent.timings ≡ t.timings
unfolding accept
timings-written l st t = timings-back t.timings _

-- every object has a row in each block

rows-full : (n : ℕ) (os : List Object) (rs : List Row) (gs : List ℤ) → All (λ (o : Object). length o.updates ≡ n) os → All (λ (r : List Row). length r ≡ n) (all_rows os rs gs)
unfolding all_rows
rows-full n [] rs gs h = tt
rows-full n (o ∷ os) rs gs h =
    let r = get_or rs 0 no_row in
    (object-rows-length o.kind o.updates gs r ∙ h.0, rows-full n os (drop 1 rs) (map gain_of (object_rows o.kind r o.updates gs)) h.1)

pub frame-full : (st : State) (t : Tree) → Sized t → All (λ (r : List Row). length r ≡ length t.timings) (frame_rows st t)
unfolding frame_rows
frame-full st t n = rows-full (length t.timings) t.objects (start_rows st (kinds_of t)) [] n.full

-- what all rows of a frame have, its block rows have
pub block-rows-have : (P : Row → Type 0) (st : State) (t : Tree) → Sized t → All (All P) (frame_rows st t) → All P (block_rows st t)
block-rows-have P st t n h =
    let m = length t.timings in
    blocks-all P m 0 (frame_rows st t) h (all-to (frame_rows st t) (λ (r : List Row) (e : length r ≡ m). omega arith) (frame-full st t n))
