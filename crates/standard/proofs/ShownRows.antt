-- Used rows can be shown: decode writes no start or block row that the row calls refuse with 6.
use Prim.Native.Nat.{ℕ, ◌+◌, ◌*◌, ◌<◌}
use mathlib.Core.Path.{◌≡◌, refl}
use mathlib.Core.List.{List, [], ◌∷◌, ◌++◌}
use native.Mathlib.Nat.{mul-zero}
use native.Mathlib.Omega.{arith}
use lib.IntN.{ℤ}
use lib.ListN.{length, drop, length-append}
use borrow.Author.Tests.{le-leb}
use Rattle.bits.specs.Parsed.{Refusal}
use Rattle.bits.proofs.Always.{All, all-to}
use Rattle.standard.specs.Numbers.{row_width, accepted}
use Rattle.standard.specs.Tree.{Kind, Tree, kinds_of}
use Rattle.standard.specs.Rows.{Row, State, no_row}
use Rattle.standard.specs.Meaning.{start_rows}
use Rattle.standard.specs.Tables.{rows_numbers, state_of}
use Rattle.standard.specs.Calls.{Lent, Done, over, accept, decline, decode, row_number}
use Rattle.standard.proofs.Small.{Pairs}
use Rattle.standard.proofs.ByBlock.{all-at}
use Rattle.standard.proofs.Laid.{rows-length, part-back}
use Rattle.standard.proofs.Forms.{RowOk, ShownOk, row-shown}
use Rattle.standard.proofs.FormKept.{StartOk, starts-form, frame-form}
use Rattle.standard.proofs.ReadBack.{block_rows, starts-count, blocks-count, block-rows-have}
use Rattle.standard.proofs.Endings.{Fit, ends}
use Rattle.standard.proofs.Tabled.{rows_in_lem}

-- rows that may be shown, written over the head of a table
pub written-shown : (rs : List Row) (l : List ℤ) (i : ℕ) → All ShownOk rs → i < length rs → row_number (over (rows_numbers rs) l) i ≡ accepted
unfolding row_number row_width
written-shown rs l i h k =
    let z = drop (length (rows_numbers rs)) l in
    let e = rows-length rs in
    let m = length-append (rows_numbers rs) z in
    rw (le-leb ((i + 1) * row_width) (length (rows_numbers rs ++ z)) (omega arith), part-back rs z i k, all-at ShownOk rs no_row i k h)

pub record Shows (d : Done) : Type 0 where
  pub starts : (i : ℕ) → i < d.answer.objects → row_number d.lent.start i ≡ accepted
  pub blocks : (i : ℕ) → i < d.answer.blocks * d.answer.objects → row_number d.lent.blocks i ≡ accepted

pub starts-shown : (ks : List Kind) (rs : List Row) → Pairs StartOk ks rs → All ShownOk rs
starts-shown [] [] h = tt
starts-shown [] (r ∷ rs) h = absurd h
starts-shown (k ∷ ks) [] h = tt
starts-shown (k ∷ ks) (r ∷ rs) h = (h.0.shown, starts-shown ks rs h.1)

accept-shows : (l : Lent) (st : State) (t : Tree) → Fit t → All RowOk st.rows → Shows (accept l st t)
unfolding accept
accept-shows l st t f h =
    record {
      starts = λ i k. written-shown (start_rows st (kinds_of t)) l.start i (starts-shown (kinds_of t) (start_rows st (kinds_of t)) (starts-form st (kinds_of t) h)) (let e = starts-count st t in omega arith);
      blocks = λ i k. written-shown (block_rows st t) l.blocks i
          (all-to (block_rows st t) row-shown (block-rows-have RowOk st t f.sized (frame-form st t f.words h))) (let e = blocks-count st t in omega arith);
    }

nothing-used : (d : Done) → d.answer.objects ≡ 0 → Shows d
nothing-used d n = record { starts = λ i k. absurd (omega arith); blocks = λ i k. absurd (none i k) }
  where
    none : (i : ℕ) → i < d.answer.blocks * d.answer.objects → ⊥
    none i k = let e : d.answer.blocks * d.answer.objects ≡ 0 = rw n (mul-zero d.answer.blocks) in omega arith

decline-shows : (l : Lent) (r : Refusal) → Shows (decline l r)
unfolding decline
decline-shows l r = nothing-used _ refl

pub decode-shows : (s : List ℕ) (l : Lent) → Shows (decode s l)
decode-shows s l =
    ends Shows s l (λ n x y. nothing-used _ refl) (λ h r b. decline-shows l r)
    (λ h t f. accept-shows l (state_of l.retained) t f (rows_in_lem l.retained h.form))
