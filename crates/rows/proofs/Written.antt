-- Laws of numbers that are stored one after the other from a place of a list on, and of numbers written over its head.
use Prim.Native.Nat.{ℕ, suc, ◌+◌, ◌-◌, ◌≤◌, ◌<◌}
use mathlib.Core.Path.{◌≡◌, refl, sym, ◌∙◌, ap}
use mathlib.Core.Logic.{◌⊎◌, inl, inr, ⊎_elim}
use mathlib.Core.List.{List, [], ◌∷◌, ◌++◌, append_assoc}
use native.Mathlib.Nat.{add-zero, zero-add}
use native.Mathlib.Omega.{arith}
use borrow.Rule.Slice.PartMut.{put_mid}
use lib.ListN.{length, get_or, take, drop, set, replicate, length-append, length-take, length-drop, length-replicate}
use lib.Seq.{sets, length-sets, sets-eq, drop-drop, length-take-le, drop_at, take-append_seam, take-set-le, drop-set-lt, drop-set-add, get_or-take, get_or-drop}
use Rattle.standard.specs.Calls.{over}
use Rattle.rows.specs.Places.{written}

module _ {A : Type 0} where
  pub length-written : (l : List A) (at : ℕ) (vs : List A) → length (written l at vs) ≡ length l
  unfolding written
  length-written l at vs = length-sets l at vs

  sets-after : (vs : List A) (l : List A) (i : ℕ) (ws : List A) → sets (sets l i vs) (i + length vs) ws ≡ sets l i (vs ++ ws)
  sets-after [] l i ws = rw add-zero
  sets-after (v ∷ vs) l i ws =
      let e : i + suc (length vs) ≡ suc i + length vs = omega arith in
      rw e (sets-after vs (set l i v) (suc i) ws)

  -- what is stored right behind what was stored goes on with it
  pub written_after : (l : List A) (at : ℕ) (vs ws : List A) → written (written l at vs) (at + length vs) ws ≡ written l at (vs ++ ws)
  unfolding written
  written_after l at vs ws = sets-after vs l at ws

  -- Parts: the one that was written, and those beside it

  pub part_same : (l : List A) (at : ℕ) (vs : List A) → at + length vs ≤ length l → take (length vs) (drop at (written l at vs)) ≡ vs
  unfolding written
  part_same l at vs h =
      rw (sets-eq vs l at h, append_assoc, drop_at (take at l) (vs ++ drop (at + length vs) l) at (length-take-le at l (omega arith)))
      (take-append_seam vs (drop (at + length vs) l))

  part-set : (n j : ℕ) (l : List A) (i : ℕ) (v : A) → (j + n ≤ i) ⊎ (i < j) → take n (drop j (set l i v)) ≡ take n (drop j l)
  part-set n j l i v (inl h) =
      let e : i ≡ j + (i - j) = omega arith in
      rw (e, drop-set-add j l (i - j) v) (take-set-le n (drop j l) (i - j) v (omega arith))
  part-set n j l i v (inr h) = ap (take n) (drop-set-lt j l i v h)

  part-sets : (vs l : List A) (i n j : ℕ) → (j + n ≤ i) ⊎ (i + length vs ≤ j) → take n (drop j (sets l i vs)) ≡ take n (drop j l)
  part-sets [] l i n j h = refl
  part-sets (v ∷ vs) l i n j h =
      part-sets vs (set l i v) (suc i) n j (⊎_elim (λ (p : j + n ≤ i). inl (omega arith)) (λ (p : i + length (v ∷ vs) ≤ j). inr (omega arith)) h)
      ∙ part-set n j l i v (⊎_elim inl (λ (p : i + length (v ∷ vs) ≤ j). inr (omega arith)) h)

  pub part-other : (l : List A) (at : ℕ) (vs : List A) (n j : ℕ) → (j + n ≤ at) ⊎ (at + length vs ≤ j)
      → take n (drop j (written l at vs)) ≡ take n (drop j l)
  unfolding written
  part-other l at vs n j h = part-sets vs l at n j h

  drop-sets : (vs l : List A) (i n : ℕ) → i + length vs ≤ n → drop n (sets l i vs) ≡ drop n l
  drop-sets [] l i n h = refl
  drop-sets (v ∷ vs) l i n h = drop-sets vs (set l i v) (suc i) n (omega arith) ∙ drop-set-lt n l i v (omega arith)

  pub drop-written : (n : ℕ) (l : List A) (at : ℕ) (vs : List A) → at + length vs ≤ n → drop n (written l at vs) ≡ drop n l
  unfolding written
  drop-written n l at vs h = drop-sets vs l at n h

  -- a number of a part
  pub get_d_part : (n at k : ℕ) (l : List A) (d : A) → k < n → get_or (take n (drop at l)) k d ≡ get_or l (at + k) d
  get_d_part n at k l d h = get_or-take n (drop at l) k d h ∙ get_or-drop at l k d

  pub get_d-other : (l : List A) (at : ℕ) (vs : List A) (j : ℕ) (d : A) → (j < at) ⊎ (at + length vs ≤ j) → get_or (written l at vs) j d ≡ get_or l j d
  get_d-other l at vs j d h =
      let k : (j + 1 ≤ at) ⊎ (at + length vs ≤ j) = ⊎_elim (λ (p : j < at). inl (omega arith)) inr h in
      rw add-zero at
      (sym (get_d_part 1 j 0 (written l at vs) d (omega arith)) ∙ ap (λ (m : List A). get_or m 0 d) (part-other l at vs 1 j k) ∙ get_d_part 1 j 0 l d (omega arith))

  -- What the library leaves: a part that was copied to or filled, and a head that was filled

  in_place : (at k : ℕ) (l ys : List A) → at + k ≤ length l → length ys ≡ k → put_mid at k l ys ≡ written l at ys
  unfolding written
  in_place at k l ys h e = rw (sets-eq ys l at (omega arith), e, append_assoc) (ap (λ (m : List A). take at l ++ (ys ++ m)) (drop-drop k at l))

  pub copied : (at k : ℕ) (l ys : List A) {vs : List A} → at + k ≤ length l → length ys ≡ length (take k (drop at l)) → ys ≡ vs → put_mid at k l ys ≡ written l at vs
  copied at k l ys h e same = rw (in_place at k l ys h (e ∙ simp (length-take, length-drop) (omega arith)), same)

  pub filled : (at k : ℕ) (l ys : List A) (v : A) → at + k ≤ length l → ys ≡ replicate (length (take k (drop at l))) v → put_mid at k l ys ≡ written l at (replicate k v)
  filled at k l ys v h same =
      let e : length (take k (drop at l)) ≡ k = simp (length-take, length-drop) (omega arith) in
      let f : ys ≡ replicate k v = rw e at same in
      in_place at k l ys h (ap length f ∙ length-replicate k v) ∙ rw f

  pub head-filled : (n : ℕ) (l ys : List A) (v : A) → n ≤ length l → ys ≡ replicate (length (take n l)) v → ys ++ drop n l ≡ over (replicate n v) l
  head-filled n l ys v h e = rw (e, length-take-le n l h, length-replicate)

  -- Over the head

  pub written_over : (l vs : List A) → length vs ≤ length l → written l 0 vs ≡ over vs l
  unfolding written
  written_over l vs h =
      let k : 0 + length vs ≤ length l = omega arith in
      sets-eq vs l 0 k ∙ rw zero-add

  -- what lay at the head does not matter
  pub over-same : (vs l m : List A) (n : ℕ) → length vs ≡ n → drop n l ≡ drop n m → over vs l ≡ over vs m
  over-same vs l m n e f = rw (e, f)

  pub over-next : (l vs ws : List A) → length vs + length ws ≤ length l → written (over vs l) (length vs) ws ≡ over (vs ++ ws) l
  over-next l vs ws h =
      rw (← written_over l vs (omega arith), ← written_over l (vs ++ ws) (rw length-append h))
      (rw zero-add at (written_after l 0 vs ws))
