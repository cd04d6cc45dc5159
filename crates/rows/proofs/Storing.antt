-- A loop that stores one number a turn.
use Prim.Native.Nat.{ℕ, ◌+◌, ◌≤◌, ◌<◌}
use mathlib.Core.Path.{◌≡◌, refl}
use mathlib.Core.List.{List, [], ◌∷◌, ◌++◌}
use native.Mathlib.Numerals.{add-one}
use native.Mathlib.Omega.{arith}
use lib.ListN.{length, get_or, take, drop, set, length-set, length-drop}
use lib.Seq.{take-suc, length-take-le, get_or-drop}
use Rattle.rows.specs.Places.{written}
use Rattle.rows.proofs.Written.{written_after}

-- What it keeps: of n numbers i are stored, vs, from the place `at` of l₀ on.
pub record Storing {A : Type 0} (l₀ : List A) (at : ℕ) (vs : List A) (n i : ℕ) (l : List A) : Type 0 where
  pub within : i ≤ n
  pub long : length l ≡ length l₀
  pub same : l ≡ written l₀ at vs

module _ {A : Type 0} where
  pub begin : (l : List A) (at n : ℕ) → Storing l at [] n 0 l
  unfolding written
  begin l at n = record { within = omega arith; long = refl; same = refl }

  turn : {l₀ l : List A} {at n i : ℕ} {vs ws : List A} (w : A) → length vs ≡ i → ws ≡ vs ++ w ∷ [] → i < n
      → Storing l₀ at vs n i l → Storing l₀ at ws n (i + 1) (set l (at + i) w)
  unfolding written
  turn {l₀} {l} {at} {n} {i} {vs} w e f h s =
      record { within = omega arith; long = simp length-set s.long; same = rw (s.same, f, ← e) (written_after l₀ at vs (w ∷ [])) }

  -- the next number of a list
  pub copy-turn : {l₀ l : List A} {at n i : ℕ} (s : List A) (first : ℕ) (d : A) → first + n ≤ length s → i < n
      → Storing l₀ at (take i (drop first s)) n i l
      → Storing l₀ at (take (i + 1) (drop first s)) n (i + 1) (set l (at + i) (get_or s (first + i) d))
  copy-turn {i = i} s first d room h k =
      let more : i < length (drop first s) = simp length-drop (omega arith) in
      rw (← get_or-drop first s i d)
      (turn (get_or (drop first s) i d) (length-take-le i (drop first s) (omega arith)) (rw add-one (take-suc (drop first s) i d more)) h k)

  pub copied : {l₀ l : List A} {at n i : ℕ} (s : List A) → n ≤ i → Storing l₀ at (take i s) n i l → l ≡ written l₀ at (take n s)
  copied {n = n} {i} s h k =
      let e : i ≡ n = omega (arith, k.within) in
      rw (← e) k.same
