-- Request Q-7, for both rules: where the timings pass, each sample has one place, and its pair and fraction are that place's.
use Prim.Native.Nat.{ℕ, zero, suc, ◌+◌, ◌-◌, ◌≤◌, ◌<◌}
use mathlib.Core.Path.{◌≡◌, refl, sym, ◌∙◌, ap}
use mathlib.Core.Logic.{◌↔◌, ◌⊎◌, inl, inr, ⊎_elim}
use mathlib.Core.Bool.{Bool, true, false, cond, ◌||◌}
use mathlib.Core.List.{List, [], ◌∷◌}
use native.Mathlib.Nat.{add-zero, zero-add, suc-add, add-suc}
use native.Mathlib.Omega.{arith}
use borrow.Author.Tests.{ltb-true, ltb-false, lt-ltb, le-ltb, le-leb}
use lib.Dec.{ltb}
use lib.ListN.{length, get_or, drop}
use Rattle.bits.proofs.Always.{All}
use Rattle.standard.specs.Numbers.{frame_length, accepted, ordering, overlap, cross_frame}
use Rattle.standard.specs.Tree.{Timing}
use Rattle.standard.specs.Timing.{end_of, rising, apart, timing_test}
use Rattle.standard.specs.Ramps.{Choice, still, walk, choice, fraction}
use Rattle.standard.specs.Carried.{Rule, rule1, rule2, following, timing_by, carried_row, choice_by, last_timing}
use Rattle.standard.proofs.Fractions.{U16, InU16, BelowWhileRamping, fraction-below, within-ramp, choice-below}
use Rattle.standard.proofs.RampChoice.{Apart, passing, Before, waits, stops, goes_on}

-- Places

-- the carried ramp runs; the start row stands; block b's ramp runs; block b stands
pub data Place : Type 0 where
  carried_runs : Place
  start_stands : Place
  block_runs : ℕ → Place
  block_stands : ℕ → Place

abbrev pub block : List Timing → ℕ → Timing
block ts b = get_or ts b (record { start = 0; ramp = 0 })

-- of a carried ramp e samples have elapsed at sample 0, of d
module _ (e d : ℕ) (ts : List Timing) (i : ℕ) where
  -- sample i is at this place
  abbrev pub At : Place → Type 0
  At carried_runs = e + i < d
  At start_stands = (d ≤ e + i) × Before i ts
  At (block_runs b) = (b < length ts) × ((block ts b).start ≤ i) × (i < end_of (block ts b))
  At (block_stands b) = (b < length ts) × (end_of (block ts b) ≤ i) × Before i (drop (suc b) ts)

  -- what is chosen there
  abbrev pub chosen_at : Place → Choice
  chosen_at carried_runs = record { from = carried_row; to = 0; elapsed = e + i; duration = d }
  chosen_at start_stands = still 0
  chosen_at (block_runs b) = record { from = b; to = suc b; elapsed = i - (block ts b).start; duration = (block ts b).ramp }
  chosen_at (block_stands b) = still (suc b)

  -- exactly one place, and the choice k is what is chosen there
  pub record OnePlace (k : Choice) : Type 0 where
    pub place : Place
    pub holds : At place
    pub only : (q : Place) → At q → q ≡ place
    pub chosen : k ≡ chosen_at place

-- Passing timings

-- each block starts at or past the end before it
abbrev pub Ordered : ℕ → List Timing → Type 0
Ordered n [] = Unit {0}
Ordered n (t ∷ ts) = (n ≤ t.start) × Ordered (end_of t) ts

-- rule 2: and within the frame or at its end
abbrev pub Follows : ℕ → List Timing → Type 0
Follows n [] = Unit {0}
Follows n (t ∷ ts) = (n ≤ t.start) × (t.start ≤ frame_length) × Follows (end_of t) ts

follows-means : (n : ℕ) (ts : List Timing) → following n ts ≡ accepted → Follows n ts
unfolding following
follows-means n [] e = tt
follows-means n (t ∷ ts) e =
    go (ltb t.start n) (ltb frame_length t.start) (ltb-false _ _) (ltb-false _ _) (follows-means (end_of t) ts) e
  where
    go : (early late : Bool) → (early ≡ false → n ≤ t.start) → (late ≡ false → t.start ≤ frame_length)
        → (following (end_of t) ts ≡ accepted → Follows (end_of t) ts)
        → cond early overlap (cond late cross_frame (following (end_of t) ts)) ≡ accepted → Follows n (t ∷ ts)
    go true late a b c e = absurd (omega arith)
    go false true a b c e = absurd (omega arith)
    go false false a b c e = (a refl, b refl, c e)

pub passes-2 : (n : ℕ) (ts : List Timing) → timing_by rule2 n ts ≡ accepted → Follows n ts
unfolding timing_by
passes-2 n ts = go (rising 0 ts)
  where
    go : (b : Bool) → cond b (following n ts) ordering ≡ accepted → Follows n ts
    go true e = follows-means n ts e
    go false e = absurd (omega arith)

follows-passes : (n : ℕ) (ts : List Timing) → Follows n ts → following n ts ≡ accepted
unfolding following
follows-passes n [] h = refl
follows-passes n (t ∷ ts) h = rw (le-ltb t.start n h.0, le-ltb frame_length t.start h.1) (follows-passes (end_of t) ts h.2)

follows-rises : (m n : ℕ) (ts : List Timing) → m ≤ n → Follows n ts → rising m ts ≡ true
unfolding rising
follows-rises m n [] l h = refl
follows-rises m n (t ∷ ts) l h = let k = h.0 in rw (le-leb m t.start (omega arith)) (follows-rises t.start (end_of t) ts (omega arith) h.2)

-- rule 2 passes exactly these
pub passing-2 : (n : ℕ) (ts : List Timing) → timing_by rule2 n ts ≡ accepted ↔ Follows n ts
unfolding timing_by
passing-2 n ts = (passes-2 n ts, λ h. rw (follows-rises 0 n ts (omega arith) h) (follows-passes n ts h))

-- so its last block starts within the frame, or at its end
pub last_within : (n : ℕ) (t : Timing) (ts : List Timing) → Follows n (t ∷ ts) → (last_timing t ts).start ≤ frame_length
unfolding last_timing
last_within n t [] h = h.1
last_within n t (u ∷ ts) h = last_within (end_of t) u ts h.2

apart-ordered : (n : ℕ) (ts : List Timing) → Apart n ts → Ordered n ts
apart-ordered n [] h = tt
apart-ordered n (t ∷ ts) h = (h.0, apart-ordered (end_of t) ts h.2)

follows-ordered : (n : ℕ) (ts : List Timing) → Follows n ts → Ordered n ts
follows-ordered n [] h = tt
follows-ordered n (t ∷ ts) h = (h.0, follows-ordered (end_of t) ts h.2)

-- rule 1 has nothing carried
abbrev pub Own : Rule → ℕ → Type 0
Own rule1 d = d ≡ 0
Own rule2 d = Unit {0}

pub passes-ordered : (r : Rule) (e d : ℕ) (ts : List Timing) → Own r d → timing_by r (d - e) ts ≡ accepted → Ordered (d - e) ts
unfolding timing_by
passes-ordered rule1 e d ts o h = let z : d - e ≡ 0 = omega arith in rw z (apart-ordered 0 ts ((passing ts).0 h))
passes-ordered rule2 e d ts o h = follows-ordered (d - e) ts (passes-2 (d - e) ts h)

-- The test's numbers

abbrev pub Tested : ℕ → Type 0
Tested n = (n ≡ accepted) ⊎ ((ordering ≤ n) × (n ≤ cross_frame))

apart-number : (n : ℕ) (ts : List Timing) → Tested (apart n ts)
unfolding apart
apart-number n [] = inl refl
apart-number n (t ∷ ts) = go (ltb t.start n) (ltb frame_length t.start || ltb frame_length (end_of t)) (apart-number (end_of t) ts)
  where
    go : (early late : Bool) → Tested (apart (end_of t) ts) → Tested (cond early overlap (cond late cross_frame (apart (end_of t) ts)))
    go true late h = inr (omega arith, omega arith)
    go false true h = inr (omega arith, omega arith)
    go false false h = h

following-number : (n : ℕ) (ts : List Timing) → Tested (following n ts)
unfolding following
following-number n [] = inl refl
following-number n (t ∷ ts) = go (ltb t.start n) (ltb frame_length t.start) (following-number (end_of t) ts)
  where
    go : (early late : Bool) → Tested (following (end_of t) ts) → Tested (cond early overlap (cond late cross_frame (following (end_of t) ts)))
    go true late h = inr (omega arith, omega arith)
    go false true h = inr (omega arith, omega arith)
    go false false h = h

-- accepted, 8, 9 or 10
pub number_by : (r : Rule) (n : ℕ) (ts : List Timing) → Tested (timing_by r n ts)
unfolding timing_by timing_test
number_by r n ts = go r
  where
    by : (b : Bool) (m : ℕ) → Tested m → Tested (cond b m ordering)
    by true m h = h
    by false m h = inr (omega arith, omega arith)

    go : (q : Rule) → Tested (timing_by q n ts)
    go rule1 = by (rising 0 ts) (apart 0 ts) (apart-number 0 ts)
    go rule2 = by (rising 0 ts) (following n ts) (following-number n ts)

-- The walk

begun : (m : ℕ) (ts : List Timing) (b : ℕ) → Ordered m ts → b < length ts → m ≤ (block ts b).start
begun m [] b o l = absurd (omega arith)
begun m (t ∷ ts) zero o l = o.0
begun m (t ∷ ts) (suc b) o l = let k = begun (end_of t) ts b o.1 (omega arith) in let h = o.0 in omega arith

module _ (i : ℕ) where
  runs-at : (m n : ℕ) (ts : List Timing) (b : ℕ) → Ordered m ts → b < length ts → (block ts b).start ≤ i → i < end_of (block ts b)
      → walk i n ts ≡ record { from = n + b; to = suc (n + b); elapsed = i - (block ts b).start; duration = (block ts b).ramp }
  runs-at m n [] b o l h k = absurd (omega arith)
  runs-at m n (t ∷ ts) zero o l h k = stops i n t ts h k ∙ rw add-zero
  runs-at m n (t ∷ ts) (suc b) o l h k =
      let s = begun (end_of t) ts b o.1 (omega arith) in
      goes_on i n t ts (omega arith) ∙ runs-at (end_of t) (suc n) ts b o.1 (omega arith) h k ∙ rw (suc-add, add-suc)

  stands_at : (m n : ℕ) (ts : List Timing) (b : ℕ) → Ordered m ts → b < length ts → end_of (block ts b) ≤ i → Before i (drop (suc b) ts)
      → walk i n ts ≡ still (suc (n + b))
  stands_at m n [] b o l h k = absurd (omega arith)
  stands_at m n (t ∷ ts) zero o l h k = goes_on i n t ts h ∙ waits i (suc n) ts k ∙ rw add-zero
  stands_at m n (t ∷ ts) (suc b) o l h k =
      let s = begun (end_of t) ts b o.1 (omega arith) in
      goes_on i n t ts (omega arith) ∙ stands_at (end_of t) (suc n) ts b o.1 (omega arith) h k ∙ rw (suc-add, add-suc)

-- Which place

-- among the blocks
abbrev Found : ℕ → List Timing → Type 0
Found i ts = Before i ts ⊎ ((b : ℕ) × At 0 0 ts i (block_runs b)) ⊎ ((b : ℕ) × At 0 0 ts i (block_stands b))

found : (i m : ℕ) (ts : List Timing) → Ordered m ts → Found i ts
found i m [] o = inl tt
found i m (t ∷ ts) o = go (ltb i t.start) (ltb i (end_of t)) (ltb-true _ _) (ltb-false _ _) (ltb-true _ _) (ltb-false _ _) (found i (end_of t) ts o.1)
  where
    later : Found i ts → end_of t ≤ i → Found i (t ∷ ts)
    later (inl h) k = inr (inr (0, (omega arith, k, h)))
    later (inr (inl h)) k = let l = h.1.0 in inr (inl (suc h.0, (omega arith, h.1.1, h.1.2)))
    later (inr (inr h)) k = let l = h.1.0 in inr (inr (suc h.0, (omega arith, h.1.1, h.1.2)))

    go : (early running : Bool) → (early ≡ true → i < t.start) → (early ≡ false → t.start ≤ i)
        → (running ≡ true → i < end_of t) → (running ≡ false → end_of t ≤ i) → Found i ts → Found i (t ∷ ts)
    go true running a b c d f = inl (a refl)
    go false true a b c d f = inr (inl (0, (omega arith, b refl, c refl)))
    go false false a b c d f = later f (d refl)

-- the rows tell the places apart
rows_apart : (e d : ℕ) (ts : List Timing) (i : ℕ) (p q : Place) → (chosen_at e d ts i p).from ≡ (chosen_at e d ts i q).from → (chosen_at e d ts i p).to ≡ (chosen_at e d ts i q).to → p ≡ q
unfolding still carried_row
rows_apart e d ts i carried_runs carried_runs f t = refl
rows_apart e d ts i carried_runs start_stands f t = absurd (omega arith)
rows_apart e d ts i carried_runs (block_runs c) f t = absurd (omega arith)
rows_apart e d ts i carried_runs (block_stands c) f t = absurd (omega arith)
rows_apart e d ts i start_stands carried_runs f t = absurd (omega arith)
rows_apart e d ts i start_stands start_stands f t = refl
rows_apart e d ts i start_stands (block_runs c) f t = absurd (omega arith)
rows_apart e d ts i start_stands (block_stands c) f t = absurd (omega arith)
rows_apart e d ts i (block_runs b) carried_runs f t = absurd (omega arith)
rows_apart e d ts i (block_runs b) start_stands f t = absurd (omega arith)
rows_apart e d ts i (block_runs b) (block_runs c) f t = ap block_runs f
rows_apart e d ts i (block_runs b) (block_stands c) f t = absurd (omega arith)
rows_apart e d ts i (block_stands b) carried_runs f t = absurd (omega arith)
rows_apart e d ts i (block_stands b) start_stands f t = absurd (omega arith)
rows_apart e d ts i (block_stands b) (block_runs c) f t = absurd (omega arith)
rows_apart e d ts i (block_stands b) (block_stands c) f t = let k : b ≡ c = omega arith in ap block_stands k

-- Both rules

-- a carried ramp that is over changes nothing
pub over-chosen : (r : Rule) (e d i : ℕ) (ts : List Timing) → d ≤ e + i → choice_by r e d i ts ≡ choice i ts
unfolding choice_by
over-chosen rule1 e d i ts h = refl
over-chosen rule2 e d i ts h = rw (le-ltb (e + i) d h)

-- whatever the timings are, the one fraction is below 1 while elapsed is below the duration, and only then
pub below_by : (r : Rule) (e d i : ℕ) (ts : List Timing) → U16 d → All InU16 ts → let c = choice_by r e d i ts in BelowWhileRamping (fraction c) c
unfolding choice_by
below_by rule1 e d i ts u h = choice-below i ts h
below_by rule2 e d i ts u h = go (ltb (e + i) d) (ltb-true _ _)
  where
    go : (b : Bool) → (b ≡ true → e + i < d) → let c : Choice = cond b (record { from = carried_row; to = 0; elapsed = e + i; duration = d }) (choice i ts) in BelowWhileRamping (fraction c) c
    go true k = let l = k refl in fraction-below _ (omega arith) (omega arith) u
    go false k = choice-below i ts h

-- and no duration is 0
pub some-duration : (r : Rule) (e d i : ℕ) (ts : List Timing) → 0 < (choice_by r e d i ts).duration
unfolding choice_by
some-duration r e d i ts = go r
  where
    walked : 0 < (choice i ts).duration
    walked = ⊎_elim (λ h. omega arith) (λ h. omega arith) (within-ramp i ts)

    by : (b : Bool) → (b ≡ true → e + i < d) → 0 < (cond b (record { from = carried_row; to = 0; elapsed = e + i; duration = d }) (choice i ts)).duration
    by true k = let l = k refl in omega arith
    by false k = walked

    go : (q : Rule) → 0 < (choice_by q e d i ts).duration
    go rule1 = walked
    go rule2 = by (ltb (e + i) d) (ltb-true _ _)

module _ (r : Rule) (e d : ℕ) (ts : List Timing) (own : Own r d) (passes : timing_by r (d - e) ts ≡ accepted) (i : ℕ) where
  still-running : e + i < d → choice_by r e d i ts ≡ chosen_at e d ts i carried_runs
  unfolding choice_by
  still-running h = go r own
    where
      go : (q : Rule) → Own q d → choice_by q e d i ts ≡ chosen_at e d ts i carried_runs
      go rule1 o = absurd (omega arith)
      go rule2 o = rw (lt-ltb (e + i) d h)

  -- whichever place a sample is at, that place's is chosen
  pub chosen_at_lem : (p : Place) → At e d ts i p → choice_by r e d i ts ≡ chosen_at e d ts i p
  unfolding choice
  chosen_at_lem carried_runs h = still-running h
  chosen_at_lem start_stands h = over-chosen r e d i ts h.0 ∙ waits i 0 ts h.1
  chosen_at_lem (block_runs b) h =
      let o = passes-ordered r e d ts own passes in
      let s = begun (d - e) ts b o h.0 in
      over-chosen r e d i ts (omega arith) ∙ runs-at i (d - e) 0 ts b o h.0 h.1 h.2 ∙ rw zero-add
  chosen_at_lem (block_stands b) h =
      let o = passes-ordered r e d ts own passes in
      let s = begun (d - e) ts b o h.0 in
      over-chosen r e d i ts (omega arith) ∙ stands_at i (d - e) 0 ts b o h.0 h.1 h.2 ∙ rw zero-add

  some-place : (p : Place) × At e d ts i p
  some-place = go (ltb (e + i) d) (ltb-true _ _) (ltb-false _ _) (found i (d - e) ts (passes-ordered r e d ts own passes))
    where
      go : (b : Bool) → (b ≡ true → e + i < d) → (b ≡ false → d ≤ e + i) → Found i ts → (p : Place) × At e d ts i p
      go true h k f = (carried_runs, h refl)
      go false h k (inl f) = (start_stands, (k refl, f))
      go false h k (inr (inl f)) = (block_runs f.0, f.1)
      go false h k (inr (inr f)) = (block_stands f.0, f.1)

  pub one_place : OnePlace e d ts i (choice_by r e d i ts)
  one_place =
      let p = some-place in
      record {
        place = p.0;
        holds = p.1;
        only = λ q h.
            let k = sym (chosen_at_lem q h) ∙ chosen_at_lem p.0 p.1 in
            rows_apart e d ts i q p.0 (ap (λ (c : Choice). c.from) k) (ap (λ (c : Choice). c.to) k);
        chosen = chosen_at_lem p.0 p.1;
      }
