-- A part of a list and its way to the front, and a text that is put where it has room.
use Prim.Native.Nat.{ℕ, ◌+◌, ◌-◌, ◌≤◌, ◌<◌, min}
use mathlib.Core.Path.{◌≡◌, refl, sym, ◌∙◌, ap}
use mathlib.Core.Bool.{Bool, true, false}
use mathlib.Core.Logic.{⊎_elim}
use mathlib.Core.List.{List, []}
use native.Mathlib.Nat.{zero-add, min-eq_left, min-eq_right, min-le_right}
use native.Mathlib.Omega.{arith}
use borrow.Author.Tests.{leb-true, leb-false, le-leb, lt-leb}
use Rattle.std.proofs.lemmas.Bool.{cases_lt}
use lib.Dec.{leb}
use lib.ListN.{length, take, drop, length-drop}
use lib.Seq.{take_all, length-take-le}
use Rattle.std.specs.List.{copy_within}
use Rattle.rows.specs.Places.{written}
use Rattle.rows.proofs.Written.{written_over}
use Rattle.journals.specs.Buffers.{part, Kept, Appended}

pub part_length : (l : List ℕ) (from to : ℕ) → to ≤ length l → length (part l from to) ≡ to - from
unfolding part
part_length l from to h = length-take-le (to - from) (drop from l) (omega (arith, length-drop from l))

-- an end past the list is the list's
pub cut_short : (l : List ℕ) (from to : ℕ) → take (min to (length l) - from) (drop from l) ≡ part l from to
unfolding part
cut_short l from to = go (leb to (length l)) refl
  where
    go : (b : Bool) → leb to (length l) ≡ b → take (min to (length l) - from) (drop from l) ≡ take (to - from) (drop from l)
    go true e = rw (min-eq_left (leb-true to (length l) e))
    go false e =
        let h = leb-false to (length l) e in
        let long = length-drop from l in
        rw (min-eq_right {n = length l} {m = to} (omega arith))
        (take_all (length l - from) (drop from l) (omega arith) ∙ sym (take_all (to - from) (drop from l) (omega arith)))

module _ (l : List ℕ) (from to : ℕ) where
  pub no_part : min to (length l) ≤ from → [] ≡ part l from to
  no_part h =
      let e : min to (length l) - from ≡ 0 = omega arith in
      rw e at (cut_short l from to)

  -- a beginning past the end is the end
  pub cut_part : let end = min to (length l) in take (end - min from end) (drop (min from end) l) ≡ part l from to
  cut_part =
      ⊎_elim
      (λ (h : from < min to (length l)).
      let k : from ≤ min to (length l) = omega arith in
      rw (min-eq_left k) (cut_short l from to))
      (λ (h : min to (length l) ≤ from).
      let none : min to (length l) - min to (length l) ≡ 0 = omega arith in
      rw (min-eq_right {n = min to (length l)} {m = from} h, none) (no_part h))
      (cases_lt from (min to (length l)))

  pub kept : {n : ℕ} {m : List ℕ} →
      let end = min to (length l) in
      n ≡ end - min from end → m ≡ copy_within l (min from end) end 0 → Kept l from to n m
  kept {n} {m} e f =
      let end = min to (length l) in
      let at = min from end in
      let long : length (part l from to) ≡ end - at =
      rw (← cut_part) (length-take-le (end - at) (drop at l) (omega (arith, length-drop at l, min-le_right to (length l)))) in
      let short : length (part l from to) ≤ length l = omega (arith, min-le_right to (length l)) in
      record { count = e ∙ sym long; left = f ∙ rw (cut_part, ← long, zero-add, written_over l (part l from to) short) }

  pub nothing-kept : min to (length l) ≤ from → Kept l from to 0 l
  unfolding written
  nothing-kept h = record { count = ap length (no_part h); left = rw (← no_part h) }

-- Lines that wait

module _ (l : List ℕ) (at : ℕ) (text : List ℕ) where
  pub not-appended : length l < at + length text → Appended l at text at l
  not-appended h = let e = lt-leb (at + length text) (length l) h in record { place = rw e; left = rw e }

  pub appended : {n : ℕ} {m : List ℕ} → at + length text ≤ length l → n ≡ at + length text → m ≡ written l at text → Appended l at text n m
  appended h e f = let k = le-leb (at + length text) (length l) h in record { place = e ∙ rw k; left = f ∙ rw k }
