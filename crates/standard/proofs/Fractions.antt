-- The specification, section 10, "Timings and ramps", the fraction of a choice: for any u16 timings it is under 1 while elapsed is under the ramp, and only then.
use Prim.Native.Nat.{ℕ, zero, suc, ◌*◌, ◌+◌, ◌-◌, ◌^◌, ◌≤◌, ◌<◌}
use mathlib.Core.Path.{◌≡◌, refl}
use mathlib.Core.Logic.{◌⊎◌, inl, inr}
use mathlib.Core.Bool.{Bool, true, false, cond, ◌||◌, ◌&&◌}
use mathlib.Core.List.{List, [], ◌∷◌}
use native.Mathlib.Omega.{arith}
use borrow.Author.Tests.{leb-false}
use lib.Dec.{ltb, leb, eqb}
use lib.ListN.{length, get_or, drop}
use lib.Ieee.{Float, lt}
use Rattle.bits.proofs.Always.{All}
use Rattle.standard.specs.Tree.{Timing}
use Rattle.standard.specs.Floats.{one}
use Rattle.standard.specs.Ramps.{Choice, still, walk, choice, fraction}
use Rattle.standard.specs.Numbers.{accepted, frame_length, block_limit}
use Rattle.standard.specs.Numbers as number
use Rattle.standard.specs.Tables.{timings_of}
use Rattle.standard.specs.Calls.{no_ramp, ramp_call}
use Rattle.standard.proofs.Ratio.{ratio-below, ratio-one}

-- u16 numbers, as the timings table holds them
abbrev pub U16 : ℕ → Type 0
U16 n = n < 2 ^ 16

abbrev pub InU16 : Timing → Type 0
InU16 t = U16 t.start × U16 t.ramp

-- f is under 1 while elapsed is under the duration, and only then
abbrev pub BelowWhileRamping : Float → Choice → Type 0
BelowWhileRamping f c = lt f one ≡ ltb c.elapsed c.duration

-- the one division rounds no smaller ratio to 1: of any two u16 numbers, the second from 1
pub fraction-below : (c : Choice) → U16 c.elapsed → 0 < c.duration → U16 c.duration → BelowWhileRamping (fraction c) c
unfolding fraction
fraction-below c E P D = ratio-below c.elapsed c.duration (omega arith) P (omega arith)

-- 1/1 is 1
pub still-whole : (n : ℕ) → fraction (still n) ≡ one
unfolding fraction still
still-whole n = ratio-one 1 (omega arith) (omega arith)

-- What a walk that has come to row n, with the blocks ts to come, can answer
data Answers : ℕ → List Timing → Choice → Type 0 where
  stays : {n : ℕ} {ts : List Timing} → Answers n ts (still n)
  ramps : {n elapsed : ℕ} {t : Timing} {ts : List Timing} → elapsed < t.ramp → Answers n (t ∷ ts) (record { from = n; to = suc n; elapsed = elapsed; duration = t.ramp })
  passes : {n : ℕ} {t : Timing} {ts : List Timing} {c : Choice} → Answers (suc n) ts c → Answers n (t ∷ ts) c

or-false : (x y : Bool) → (x || y) ≡ false → y ≡ false
or-false true y e = cc
or-false false y e = e

answers : (sample n : ℕ) (ts : List Timing) → Answers n ts (walk sample n ts)
unfolding walk
answers sample n [] = stays
answers sample n (t ∷ ts) =
    go (ltb sample t.start) (eqb t.ramp 0 || leb t.ramp (sample - t.start)) (or-false (eqb t.ramp 0) (leb t.ramp (sample - t.start))) (answers sample (suc n) ts)
  where
    go : (early over : Bool) → (over ≡ false → leb t.ramp (sample - t.start) ≡ false) → {c : Choice} → Answers (suc n) ts c
        → Answers n (t ∷ ts) (cond early (still n) (cond over c (record { from = n; to = suc n; elapsed = sample - t.start; duration = t.ramp })))
    go true over e a = stays
    go false true e a = passes a
    go false false e a = ramps (leb-false t.ramp (sample - t.start) (e refl))

rows_of : {n : ℕ} {ts : List Timing} {c : Choice} → Answers n ts c → (c.from ≤ c.to) × (c.to ≤ n + length ts)
unfolding still
rows_of stays = omega arith
rows_of (ramps e) = omega arith
rows_of (passes a) = let h = rows_of a in omega arith

share-of : {n : ℕ} {ts : List Timing} {c : Choice} → Answers n ts c → (c.elapsed < c.duration) ⊎ ((c.elapsed ≡ 1) × (c.duration ≡ 1))
unfolding still
share-of stays = inr (refl, refl)
share-of (ramps e) = inl e
share-of (passes a) = share-of a

below_of : {n : ℕ} {ts : List Timing} {c : Choice} → Answers n ts c → All InU16 ts → BelowWhileRamping (fraction c) c
unfolding still
below_of stays h = fraction-below _ (omega arith) (omega arith) (omega arith)
below_of (ramps e) h = fraction-below _ (omega arith) (omega arith) (omega arith)
below_of (passes a) h = below_of a h.1

module _ (sample : ℕ) (ts : List Timing) where
  -- from a row to a later one or the same, and none past that of the last block
  pub rows-in-table : let c = choice sample ts in (c.from ≤ c.to) × (c.to ≤ length ts)
  unfolding choice
  rows-in-table = let h = rows_of (answers sample 0 ts) in omega arith

  -- elapsed < ramp, or 1/1
  pub within-ramp : let c = choice sample ts in (c.elapsed < c.duration) ⊎ ((c.elapsed ≡ 1) × (c.duration ≡ 1))
  unfolding choice
  within-ramp = share-of (answers sample 0 ts)

  -- for any timings
  pub choice-below : All InU16 ts → let c = choice sample ts in BelowWhileRamping (fraction c) c
  unfolding choice
  choice-below h = below_of (answers sample 0 ts) h

after_two : (l : List ℕ) → All U16 l → U16 (get_or l 0 0) × U16 (get_or l 1 0) × All U16 (drop 2 l)
after_two [] h = (omega arith, omega arith, tt)
after_two (a ∷ []) h = (h.0, omega arith, tt)
after_two (a ∷ b ∷ l) h = (h.0, h.1.0, h.1.1)

table-in-u16 : (blocks : ℕ) (l : List ℕ) → All U16 l → All InU16 (timings_of blocks l)
unfolding timings_of
table-in-u16 zero l h = tt
table-in-u16 (suc blocks) l h = let k = after_two l h in ((k.0, k.1), table-in-u16 blocks (drop 2 l) k.2)

-- so of every table of u16 numbers, where the ramp call is accepted
pub call_below : (l : List ℕ) (blocks sample : ℕ) → All U16 l → let r = ramp_call l blocks sample in
    r.number ≡ accepted → BelowWhileRamping r.fraction r.choice
unfolding ramp_call
call_below l blocks sample h = go (ltb sample frame_length && leb blocks block_limit) (leb (2 * blocks) (length l))
  where
    go : (asked room : Bool) → let c = choice sample (timings_of blocks l) in
        let r = cond asked (cond room (record { number = accepted; choice = c; fraction = fraction c }) (no_ramp number.room)) (no_ramp number.query) in
        r.number ≡ accepted → BelowWhileRamping r.fraction r.choice
    go true true e = choice-below sample (timings_of blocks l) (table-in-u16 blocks l h)
    go true false e = absurd (omega arith)
    go false room e = absurd (omega arith)
