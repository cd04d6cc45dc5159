-- Under both rules: a block's ramp in its own frame, from its start to the next.
use Prim.Native.Nat.{ℕ, suc, ◌+◌, ◌-◌, ◌≤◌, ◌<◌}
use mathlib.Core.Path.{◌≡◌, refl, sym, ◌∙◌, ap}
use mathlib.Core.List.{List, [], ◌∷◌, ◌++◌}
use mathlib.Core.Option.{some}
use native.Mathlib.Omega.{arith}
use borrow.Author.Tests.{lt-ltb, le-ltb, ne_eqb}
use lib.ListN.{length, drop, length-append}
use Rattle.standard.specs.Numbers.{block_limit, accepted}
use Rattle.standard.specs.Tree.{Timing, Tree}
use Rattle.standard.specs.Rows.{Row}
use Rattle.standard.specs.Timing.{end_of}
use Rattle.standard.specs.Ramps.{still}
use Rattle.standard.specs.Carried.{Rule, Carried, remains, taken_up, timing_by, carried_row, choice_by}
use Rattle.standard.proofs.RampChoice.{Before}
use Rattle.standard.proofs.RampPlaces.{Own, block, block_runs, block_stands, chosen_at_lem}
use Rattle.programmes.specs.Programmes.{Playing, said, Frame, frame_of, numbered, verdict, during, next_frame, rows_at, resolve, choice_in, sample_at, standing, on_way}
use Rattle.programmes.proofs.Branches.{by_end}
use Rattle.programmes.proofs.Heard.{heard-fit}
use Rattle.programmes.proofs.EachSample.{taken_own, during-passing}

-- The block behind those before it

block-split : (before : List Timing) (u : Timing) (rest : List Timing) → block (before ++ u ∷ rest) (length before) ≡ u
block-split [] u rest = refl
block-split (t ∷ before) u rest = block-split before u rest

rest-split : (before : List Timing) (u : Timing) (rest : List Timing) → drop (suc (length before)) (before ++ u ∷ rest) ≡ rest
rest-split [] u rest = refl
rest-split (t ∷ before) u rest = rest-split before u rest

module _ (r : Rule) (e d : ℕ) (before : List Timing) (u : Timing) (rest : List Timing) (own : Own r d)
    (passes : timing_by r (d - e) (before ++ u ∷ rest) ≡ accepted) (i : ℕ) where
  within : length before < length (before ++ u ∷ rest)
  within = simp length-append (omega arith)

  runs-in : u.start ≤ i → i < end_of u
      → choice_by r e d i (before ++ u ∷ rest) ≡ record { from = length before; to = suc (length before); elapsed = i - u.start; duration = u.ramp }
  runs-in h k =
      let b = block-split before u rest in
      chosen_at_lem r e d (before ++ u ∷ rest) own passes i (block_runs (length before)) (within, rw b h, rw b k)
      ∙ ap (λ (t : Timing). record { from = length before; to = suc (length before); elapsed = i - t.start; duration = t.ramp }) b

  stands-in : end_of u ≤ i → Before i rest → choice_by r e d i (before ++ u ∷ rest) ≡ still (suc (length before))
  stands-in h k =
      chosen_at_lem r e d (before ++ u ∷ rest) own passes i (block_stands (length before))
      (within, rw (block-split before u rest) h, rw (rest-split before u rest) k)

-- Its rows

-- at most 8 blocks: no row but the carried one has its number
rows-numbered : (f : Frame) (c : Carried) (n : ℕ) → n ≤ block_limit → rows_at f c n ≡ numbered f n
unfolding rows_at carried_row block_limit
rows-numbered f c n h = rw (ne_eqb n 9 (λ e. omega arith))

module _ (f : Frame) (c : Carried) (n : ℕ) (fits : suc n ≤ block_limit) where
  resolve-runs : (e d : ℕ)
      → resolve f c (record { from = n; to = suc n; elapsed = e; duration = d }) ≡ record { from = numbered f n; to = numbered f (suc n); elapsed = e; duration = d }
  unfolding resolve
  resolve-runs e d = rw (rows-numbered f c n (omega arith), rows-numbered f c (suc n) fits)

  resolve-stands : resolve f c (still (suc n)) ≡ standing (numbered f (suc n))
  unfolding resolve still
  resolve-stands = rw (rows-numbered f c (suc n) fits)

way-runs : (from target : List Row) (n d : ℕ) → n < d → on_way from target n d ≡ record { from = from; to = target; elapsed = n; duration = d }
unfolding on_way
way-runs from target n d h = rw (lt-ltb n d h)

way-over : (from target : List Row) (n d : ℕ) → d ≤ n → on_way from target n d ≡ standing target
unfolding on_way
way-over from target n d h = rw (le-ltb n d h)

-- The samples from its start to the next

module _ (r : Rule) (c : Carried) (f : Frame) (before : List Timing) (u : Timing) (rest : List Timing) (split : f.timings ≡ before ++ u ∷ rest)
    (fits : suc (length before) ≤ block_limit) (passes : verdict r c f ≡ accepted) (i : ℕ) where
  sample_in : u.start ≤ i → Before i rest
      → resolve f (during r c f) (choice_in r c f i) ≡ on_way (numbered f (length before)) (numbered f (suc (length before))) (i - u.start) u.ramp
  unfolding choice_in verdict
  sample_in h k =
      let x = taken_up r c f.start in
      let own = taken_own r c f in
      let from = numbered f (length before) in
      let to = numbered f (suc (length before)) in
      let passes' : timing_by r (remains x) (before ++ u ∷ rest) ≡ accepted = rw split at passes in
      let by = ap (choice_by r x.elapsed x.duration i) split in
      rw (during-passing r c f passes) (by_end i (end_of u)
      (λ m. ap (resolve f x) (by ∙ runs-in r x.elapsed x.duration before u rest own passes' i h m)
      ∙ resolve-runs f x (length before) fits (i - u.start) u.ramp ∙ sym (way-runs from to (i - u.start) u.ramp (omega arith)))
      (λ m. ap (resolve f x) (by ∙ stands-in r x.elapsed x.duration before u rest own passes' i m k)
      ∙ resolve-stands f x (length before) fits ∙ sym (way-over from to (i - u.start) u.ramp (omega arith))))

module _ (p : Playing) (r : Rule) (s : List ℕ) (t : Tree) (heard : said (some s) ≡ some t) (before : List Timing) (u : Timing) (rest : List Timing)
    (split : t.timings ≡ before ++ u ∷ rest) (passes : verdict r p.carried (next_frame p (some s)) ≡ accepted) (i : ℕ) where
  fits : suc (length before) ≤ block_limit
  fits =
      let z = (heard-fit (some s) t heard).sized.blocks in
      let e : length t.timings ≡ length before + suc (length rest) = rw split (simp length-append) in
      omega arith

  -- from the rows before the block to its own, at its distance from the block's start
  pub in-its-frame : let f = frame_of p.retained (some t) in u.start ≤ i → Before i rest
      → sample_at p r (some s) i ≡ on_way (numbered f (length before)) (numbered f (suc (length before))) (i - u.start) u.ramp
  unfolding sample_at frame_of
  in-its-frame h k = rw heard (sample_in r p.carried (frame_of p.retained (some t)) before u rest split fits (rw heard at passes) i h k)
