-- What an accepted payload leaves: the retained rows are the rows of its last block, and lie as they do in the table.
use Prim.Native.Nat.{ℕ, zero, suc, ◌+◌, ◌*◌, ◌-◌, ◌<◌}
use mathlib.Core.Path.{◌≡◌, refl, sym, ◌∙◌, ap}
use mathlib.Core.List.{List, [], ◌∷◌, ◌++◌, append_assoc, append-nil, map}
use native.Mathlib.Nat.{zero-add, add-zero}
use native.Mathlib.Omega.{arith}
use lib.IntN.{ℤ, pos}
use lib.ListN.{length, get_or, take, drop, length-map}
use lib.Seq.{take_at, drop_at}
use Rattle.bits.proofs.Always.{All}
use Rattle.standard.specs.Numbers.{row_width, retained_head, accepted}
use Rattle.standard.specs.Tree.{Tree}
use Rattle.standard.specs.Rows.{Row, State, no_row}
use Rattle.standard.specs.Meaning.{frame_rows, last_row, last_rows, retain}
use Rattle.standard.specs.Tables.{rows_numbers, rows_of, in_block, by_block, state_of, state_numbers}
use Rattle.standard.specs.Calls.{Lent, Done, over, accept, decline, decode}
use Rattle.standard.proofs.ByBlock.{blocks-length}
use Rattle.standard.proofs.RowsOfFrame.{frame-rows-length, last-rows-length}
use Rattle.standard.proofs.ReadBack.{frame-full}
use Rattle.standard.proofs.Laid.{rows_back, rows-length, rows_append}
use Rattle.standard.proofs.Counts.{Sized}
use Rattle.standard.proofs.Endings.{ends}

-- The last block's rows

last-at : (r : Row) (rs : List Row) → get_or (r ∷ rs) (length rs) no_row ≡ last_row (r ∷ rs)
unfolding last_row
last-at r [] = refl
last-at r (q ∷ rs) = last-at q rs

-- every object has m + 1 blocks
pub last_block : (m : ℕ) (rss : List (List Row)) → All (λ (rs : List Row). length rs ≡ suc m) rss → in_block m rss ≡ map last_row rss
last_block m [] h = refl
last_block m ([] ∷ rss) h = absurd (let e = h.0 in omega arith)
last_block m ((r ∷ rs) ∷ rss) h =
    let k = h.0 in
    let e : length rs ≡ m = omega arith in
    λ i. (ap (λ n. get_or (r ∷ rs) n no_row) (sym e) ∙ last-at r rs) i ∷ last_block m rss h.1 i

-- Where they lie

blocks_last : (n b : ℕ) (rss : List (List Row)) → by_block (suc n) b rss ≡ by_block n b rss ++ in_block (b + n) rss
unfolding by_block
blocks_last zero b rss = rw add-zero (append-nil (in_block b rss))
blocks_last (suc n) b rss =
    let e : suc b + n ≡ b + suc n = omega arith in
    ap (λ z. in_block b rss ++ z) (blocks_last n (suc b) rss ∙ ap (λ c. by_block n (suc b) rss ++ in_block c rss) e)
    ∙ sym (append_assoc (in_block b rss) (by_block n (suc b) rss) (in_block (b + suc n) rss))

-- what follows the blocks before the last
last-laid : (m : ℕ) (rss : List (List Row)) (z : List ℤ) → All (λ (rs : List Row). length rs ≡ suc m) rss
    → drop (m * length rss * row_width) (rows_numbers (by_block (suc m) 0 rss) ++ z) ≡ rows_numbers (map last_row rss) ++ z
last-laid m rss z h =
    let before = rows_numbers (by_block m 0 rss) in
    let last = rows_numbers (in_block m rss) in
    let size : length before ≡ m * length rss * row_width = rows-length (by_block m 0 rss) ∙ ap (λ k. k * row_width) (blocks-length m 0 rss) in
    let laid : rows_numbers (by_block (suc m) 0 rss) ++ z ≡ before ++ (last ++ z) =
    ap (λ l. l ++ z) (ap rows_numbers (blocks_last m 0 rss ∙ ap (λ c. by_block m 0 rss ++ in_block c rss) (zero-add m)) ∙ rows_append (by_block m 0 rss) (in_block m rss))
    ∙ append_assoc before last z in
    ap (drop (m * length rss * row_width)) laid
    ∙ drop_at before (last ++ z) (m * length rss * row_width) size
    ∙ ap (λ rs. rows_numbers rs ++ z) (last_block m rss h)

pub last-numbers : (m : ℕ) (rss : List (List Row)) (z : List ℤ) → All (λ (rs : List Row). length rs ≡ suc m) rss
    → take (length rss * row_width) (drop (m * length rss * row_width) (rows_numbers (by_block (suc m) 0 rss) ++ z)) ≡ rows_numbers (map last_row rss)
last-numbers m rss z h =
    let width : length (rows_numbers (map last_row rss)) ≡ length rss * row_width = rows-length (map last_row rss) ∙ ap (λ k. k * row_width) (length-map rss last_row) in
    ap (take (length rss * row_width)) (last-laid m rss z h) ∙ take_at (rows_numbers (map last_row rss)) z (length rss * row_width) width

-- On acceptance

-- what decode retained: as many rows as there were objects, no doubt, and the rows of the last block as the table of blocks holds them
pub record Retains (d : Done) : Type 0 where
  pub count : get_or d.lent.retained 0 (pos 0) ≡ pos d.answer.objects
  pub doubt : get_or d.lent.retained 1 (pos 0) ≡ pos 0
  pub rows : rows_of d.answer.objects (drop retained_head d.lent.retained)
      ≡ rows_of d.answer.objects (drop ((d.answer.blocks - 1) * d.answer.objects * row_width) d.lent.blocks)

retained-rows : (l : Lent) (st : State) (t : Tree) → rows_of (length t.objects) (drop retained_head (accept l st t).lent.retained) ≡ last_rows st t
unfolding accept retain state_numbers retained_head
retained-rows l st t = rw (← last-rows-length st t, append_assoc (rows_numbers (last_rows st t)) _ _) (rows_back (last_rows st t) _)

last_written : (l : Lent) (st : State) (t : Tree) → Sized t
    → rows_of (length t.objects) (drop ((length t.timings - 1) * length t.objects * row_width) (accept l st t).lent.blocks) ≡ last_rows st t
unfolding accept last_rows
last_written l st t n = go (length t.timings) n.first (frame-full st t n)
  where
    go : (m : ℕ) → 0 < m → All (λ (r : List Row). length r ≡ m) (frame_rows st t)
        → rows_of (length t.objects) (drop ((m - 1) * length t.objects * row_width) (over (rows_numbers (by_block m 0 (frame_rows st t))) l.blocks)) ≡ map last_row (frame_rows st t)
    go zero k h = absurd (omega arith)
    go (suc m) k h =
        let e : suc m - 1 ≡ m = omega arith in
        rw (e, ← frame-rows-length st t, last-laid m (frame_rows st t) _ h, ← length-map (frame_rows st t) last_row) (rows_back (map last_row (frame_rows st t)) _)

accept-retains : (l : Lent) (st : State) (t : Tree) → Sized t → Retains (accept l st t)
unfolding accept retain state_numbers
accept-retains l st t n =
    record { count = ap pos (last-rows-length st t); doubt = refl; rows = retained-rows l st t ∙ sym (last_written l st t n) }

-- Acceptance retains the last block. The timings are not asked about: a timing refusal undoes nothing.
pub retains : (s : List ℕ) (l : Lent) → (decode s l).answer.verdict.number ≡ accepted → Retains (decode s l)
unfolding decline
retains s l =
    ends (λ d. d.answer.verdict.number ≡ accepted → Retains d) s l (λ n x y e. absurd (omega arith)) (λ p r b e. let k = b.above in absurd (omega arith))
    (λ p t f e. accept-retains l (state_of l.retained) t f.sized)
