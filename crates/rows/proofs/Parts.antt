-- Laws of the rows of a table, each as its numbers.
use Rattle.std.proofs.Common.{ℕ, zero, suc, ◌*◌, ◌+◌, ◌<◌, ◌≤◌, ◌≡◌, refl, ◌∙◌, Bool, true, false, List, [], map, length, get_or, take, drop, add-one, ℤ, arith}
use Rattle.std.proofs.Math.ListN.{drop_of_length-le}
use lib.Seq.{drop-cons}
use mathlib.Core.Bool.{◌&&◌}
use Rattle.std.proofs.lemmas.List.{take-take, drop-take}
use Rattle.std.proofs.Math.Nat.{suc-mul, add_comm}
use Rattle.std.specs.List.{list_all}
use Rattle.std.specs.Simd.{first_chunks}
use Rattle.standard.specs.Numbers.{row_width}
use Rattle.standard.specs.Tables.{row_of, rows_of, shown_form, row_form, all_shown, all_form}

module _ {A : Type 0} where
  -- what lies behind the chunks does not matter
  pub chunks-front : (n k : ℕ) (l : List A) → first_chunks n k (take (k * n) l) ≡ first_chunks n k l
  chunks-front n zero l = refl
  chunks-front n (suc k) l =
      let e : suc k * n ≡ n + k * n = suc-mul k n ∙ add_comm (k * n) n in
      rw (e, take-take n (n + k * n) l (omega arith), drop-take n (k * n) l, chunks-front n k (drop n l))

  pub chunk-first : (n k : ℕ) (l : List A) (d : List A) → 0 < k → get_or (first_chunks n k l) 0 d ≡ take n l
  chunk-first n zero l d h = absurd (omega arith)
  chunk-first n (suc k) l d h = refl

pub parts-rows : (n : ℕ) (l : List ℤ) → map row_of (first_chunks row_width n l) ≡ rows_of n l
unfolding rows_of
parts-rows zero l = refl
parts-rows (suc n) l = rw (parts-rows n (drop row_width l))

pub parts-shown : (n : ℕ) (l : List ℤ) → list_all (λ part. shown_form (row_of part)) (first_chunks row_width n l) ≡ all_shown (rows_of n l)
unfolding rows_of all_shown
parts-shown zero l = refl
parts-shown (suc n) l = rw (parts-shown n (drop row_width l))

pub parts-form : (n : ℕ) (l : List ℤ) → list_all (λ part. row_form (row_of part)) (first_chunks row_width n l) ≡ all_form (rows_of n l)
unfolding rows_of all_form
parts-form zero l = refl
parts-form (suc n) l = rw (parts-form n (drop row_width l))

-- A test of each part in turn: what the parts that are left say

module _ (test : List ℤ → Bool) (parts : List (List ℤ)) where
  next-left : (i : ℕ) → i < length parts → list_all test (drop i parts) ≡ test (get_or parts i []) && list_all test (drop (i + 1) parts)
  next-left i h = rw (drop-cons parts i [] h, add-one i) refl

  pub passed : {all : Bool} (i : ℕ) → i < length parts → test (get_or parts i []) ≡ true → list_all test (drop i parts) ≡ all → list_all test (drop (i + 1) parts) ≡ all
  passed i h e k = rw (next-left i h, e) at k

  pub failed : {all : Bool} (i : ℕ) → i < length parts → test (get_or parts i []) ≡ false → list_all test (drop i parts) ≡ all → false ≡ all
  failed i h e k = rw (next-left i h, e) at k

  pub all-passed : {all : Bool} (i : ℕ) → length parts ≤ i → list_all test (drop i parts) ≡ all → true ≡ all
  all-passed i h k = rw (drop_of_length-le parts h) at k
