-- The specification, section 10, "Timings and ramps", for timings that pass the test: the choice before the first start, inside a ramp, and past a ramp's end.
use Prim.Native.Nat.{ℕ, suc, ◌+◌, ◌-◌, ◌≤◌, ◌<◌}
use mathlib.Core.Path.{◌≡◌, refl, ◌∙◌}
use mathlib.Core.Logic.{◌↔◌}
use mathlib.Core.Bool.{Bool, true, false, cond, ◌||◌, or-true}
use mathlib.Core.List.{List, [], ◌∷◌, ◌++◌}
use native.Mathlib.Nat.{add-zero, zero-add, suc-add, add-suc}
use native.Mathlib.Omega.{arith}
use borrow.Author.Tests.{ltb-false, lt-ltb, le-ltb, le-leb, lt-leb, ne_eqb}
use lib.Dec.{ltb}
use lib.ListN.{length}
use Rattle.standard.specs.Numbers.{frame_length, accepted, ordering, overlap, cross_frame}
use Rattle.standard.specs.Tree.{Timing}
use Rattle.standard.specs.Timing.{end_of, rising, apart, timing_test}
use Rattle.standard.specs.Ramps.{still, walk, choice}

-- Passing timings

-- from sample n on: each block starts at or past the preceding end, and ends within the frame
abbrev pub Apart : ℕ → List Timing → Type 0
Apart n [] = Unit {0}
Apart n (t ∷ ts) = (n ≤ t.start) × (end_of t ≤ frame_length) × Apart (end_of t) ts

apart-means : (n : ℕ) (ts : List Timing) → apart n ts ≡ accepted → Apart n ts
unfolding apart
apart-means n [] e = tt
apart-means n (t ∷ ts) e =
    go (ltb t.start n) (ltb frame_length t.start) (ltb frame_length (end_of t)) (ltb-false _ _) (ltb-false _ _) (apart-means (end_of t) ts) e
  where
    go : (early late long : Bool) → (early ≡ false → n ≤ t.start) → (long ≡ false → end_of t ≤ frame_length)
        → (apart (end_of t) ts ≡ accepted → Apart (end_of t) ts)
        → cond early overlap (cond (late || long) cross_frame (apart (end_of t) ts)) ≡ accepted → Apart n (t ∷ ts)
    go true late long a b c e = absurd (omega arith)
    go false true long a b c e = absurd (omega arith)
    go false false true a b c e = absurd (omega arith)
    go false false false a b c e = (a refl, b refl, c e)

apart-passes : (n : ℕ) (ts : List Timing) → Apart n ts → apart n ts ≡ accepted
unfolding apart
apart-passes n [] h = refl
apart-passes n (t ∷ ts) h =
    rw (le-ltb t.start n h.0, le-ltb frame_length t.start (omega arith), le-ltb frame_length (end_of t) h.1) (apart-passes (end_of t) ts h.2)

apart-rises : (m n : ℕ) (ts : List Timing) → m ≤ n → Apart n ts → rising m ts ≡ true
unfolding rising
apart-rises m n [] l h = refl
apart-rises m n (t ∷ ts) l h = rw (le-leb m t.start (omega arith)) (apart-rises t.start (end_of t) ts (omega arith) h.2)

-- the timing test passes exactly these
pub passing : (ts : List Timing) → timing_test ts ≡ accepted ↔ Apart 0 ts
unfolding timing_test
passing ts = (go (rising 0 ts), λ h. rw (apart-rises 0 0 ts (omega arith) h) (apart-passes 0 ts h))
  where
    go : (b : Bool) → cond b (apart 0 ts) ordering ≡ accepted → Apart 0 ts
    go true e = apart-means 0 ts e
    go false e = absurd (omega arith)

at_block : (n : ℕ) (before : List Timing) (t : Timing) (after : List Timing) → Apart n (before ++ t ∷ after) → Apart n (t ∷ after)
at_block n [] t after h = h
at_block n (u ∷ before) t after h = let k = at_block (end_of u) before t after h.2 in (omega arith, k.1, k.2)

-- so a passing block ends within the frame
pub in_frame_lem : (before : List Timing) (t : Timing) (after : List Timing) → timing_test (before ++ t ∷ after) ≡ accepted → end_of t ≤ frame_length
in_frame_lem before t after e = (at_block 0 before t after ((passing _).0 e)).1

-- and no later block starts before its end
pub no-overlap : (before : List Timing) (t : Timing) (between : List Timing) (u : Timing) (after : List Timing)
    → timing_test (before ++ t ∷ (between ++ u ∷ after)) ≡ accepted → end_of t ≤ u.start
no-overlap before t between u after e = (at_block (end_of t) between u after (at_block 0 before t (between ++ u ∷ after) ((passing _).0 e)).2).0

-- One turn of the walk

-- no block of ts has begun
abbrev pub Before : ℕ → List Timing → Type 0
Before sample [] = Unit {0}
Before sample (t ∷ ts) = sample < t.start

module _ (sample n : ℕ) where
  pub waits : (ts : List Timing) → Before sample ts → walk sample n ts ≡ still n
  unfolding walk
  waits [] h = refl
  waits (t ∷ ts) h = rw (lt-ltb sample t.start h)

  pub stops : (t : Timing) (ts : List Timing) → t.start ≤ sample → sample < end_of t
      → walk sample n (t ∷ ts) ≡ record { from = n; to = suc n; elapsed = sample - t.start; duration = t.ramp }
  unfolding walk
  stops t ts h k = rw (le-ltb sample t.start h, ne_eqb t.ramp 0 (λ z. omega arith), lt-leb t.ramp (sample - t.start) (omega arith))

  pub goes_on : (t : Timing) (ts : List Timing) → end_of t ≤ sample → walk sample n (t ∷ ts) ≡ walk sample (suc n) ts
  unfolding walk
  goes_on t ts h = rw (le-ltb sample t.start (omega arith), le-leb t.ramp (sample - t.start) (omega arith), or-true)

-- The choice

-- the blocks before one that has begun are over
reaches : (sample m n : ℕ) (before : List Timing) (t : Timing) (after : List Timing) → Apart m (before ++ t ∷ after) → t.start ≤ sample
    → walk sample n (before ++ t ∷ after) ≡ walk sample (n + length before) (t ∷ after)
reaches sample m n [] t after h k = rw add-zero
reaches sample m n (u ∷ before) t after h k =
    let l = at_block (end_of u) before t after h.2 in
    goes_on sample n u _ (omega arith) ∙ reaches sample (end_of u) (suc n) before t after h.2 k ∙ rw (suc-add, add-suc)

module _ (sample : ℕ) where
  -- before the first start the start row stands
  pub before-all : (ts : List Timing) → Before sample ts → choice sample ts ≡ still 0
  unfolding choice
  before-all ts h = waits sample 0 ts h

  module _ (before : List Timing) (t : Timing) (after : List Timing) (passes : timing_test (before ++ t ∷ after) ≡ accepted) where
    reached : t.start ≤ sample → choice sample (before ++ t ∷ after) ≡ walk sample (length before) (t ∷ after)
    unfolding choice
    reached h = reaches sample 0 0 before t after ((passing _).0 passes) h ∙ rw zero-add

    -- from a start to its ramp's end: on the way from the row before to this block
    pub inside : t.start ≤ sample → sample < end_of t
        → choice sample (before ++ t ∷ after) ≡ record { from = length before; to = suc (length before); elapsed = sample - t.start; duration = t.ramp }
    inside h k = reached h ∙ stops sample _ t after h k

    -- from a ramp's end to the next start, or to the frame's end: this block stands
    pub past : end_of t ≤ sample → Before sample after → choice sample (before ++ t ∷ after) ≡ still (suc (length before))
    past h k = reached (omega arith) ∙ goes_on sample _ t after h ∙ waits sample _ after k
