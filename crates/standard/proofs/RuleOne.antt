-- Request Q-7: the calls by rule 1 make the timing test and the ramp choice of the specification, whatever is carried.
use Prim.Native.Nat.{ℕ}
use mathlib.Core.Path.{◌≡◌, refl}
use mathlib.Core.Bool.{Bool, true, false, cond, ◌&&◌}
use mathlib.Core.List.{List}
use lib.Dec.{leb, eqb}
use lib.IntN.{ℤ}
use lib.ListN.{length}
use Rattle.standard.specs.Numbers.{object_limit, block_limit, start_length, blocks_length, accepted}
use Rattle.standard.specs.Numbers as number
use Rattle.standard.specs.Tree.{Timing}
use Rattle.standard.specs.Tables.{timings_of, rows_numbers}
use Rattle.standard.specs.Timing.{timing_test}
use Rattle.standard.specs.Ramps.{choice}
use Rattle.standard.specs.Calls.{timing_call, ramp_call}
use Rattle.standard.specs.Carried.{rule1, rule_of, nothing, taken_up, timing_by, choice_by, carried_by}
use Rattle.standard.specs.CarriedCalls.{Going, dropped, tested, counts_within, timings_room, frame_room, carried_room, going_form, carried_form, TimingAnswer, timed, timing_under, timing_by_rule, ramp_under, ramp_by_rule, CarryAnswer, carry_under, carry}

-- The rule

pub test-1 : (n : ℕ) (ts : List Timing) → timing_by rule1 n ts ≡ timing_test ts
unfolding timing_by
test-1 n ts = refl

pub choice-1 : (e d i : ℕ) (ts : List Timing) → choice_by rule1 e d i ts ≡ choice i ts
unfolding choice_by
choice-1 e d i ts = refl

-- Ramp

pub ramp-1 : (l : List ℕ) (blocks sample : ℕ) (g : Going) → ramp_by_rule 1 l blocks sample g ≡ ramp_call l blocks sample
unfolding ramp_by_rule ramp_under ramp_call tested rule_of going_form choice_by
ramp-1 l blocks sample g = refl

-- Timing

-- nothing is left carried
pub timed-nothing : (n : ℕ) → timed n nothing ≡ record { number = n; going = dropped }
unfolding timed nothing
timed-nothing n = go (eqb n accepted)
  where
    go : (b : Bool) → ◌≡◌ {A = TimingAnswer} (record { number = n; going = cond b dropped dropped }) (record { number = n; going = dropped })
    go true = refl
    go false = refl

module _ (l : List ℕ) (blocks objects : ℕ) (start carried : List ℤ) (g : Going) where
  -- with at most 128 objects and a whole start table the number is that of the call without a rule
  pub timing-1 : leb objects object_limit ≡ true → leb start_length (length start) ≡ true → (timing_by_rule 1 l blocks objects start carried g).number ≡ timing_call l blocks
  unfolding timing_by_rule timing_call tested rule_of carried_room carried_form timing_under taken_up timing_by
  timing-1 h k = rw (h, k) (go (leb blocks block_limit) (timings_room l blocks))
    where
      go : (within room : Bool) → let t = timing_test (timings_of blocks l) in
          (cond (within && true) (cond ((room && true) && true) (timed t nothing) (record { number = number.room; going = g })) (record { number = number.query; going = g })).number
          ≡ cond within (cond room t number.room) number.query
      go true true = rw timed-nothing
      go true false = refl
      go false room = refl

  module _ (within : counts_within blocks objects ≡ true) (room : frame_room l blocks start ≡ true) where
    -- where it is tested, nothing is left carried
    pub timing-1-drops : timing_by_rule 1 l blocks objects start carried g ≡ record { number = timing_test (timings_of blocks l); going = dropped }
    unfolding timing_by_rule tested rule_of carried_room carried_form timing_under taken_up timing_by
    timing-1-drops = rw (within, room) (timed-nothing (timing_test (timings_of blocks l)))

    -- behind a frame nothing is carried, and the carried rows stay
    pub carry-1 : (block_rows : List ℤ) → leb blocks_length (length block_rows) ≡ true
        → carry 1 l blocks objects start block_rows carried g ≡ record { number = timing_test (timings_of blocks l); going = dropped; carried = carried }
    unfolding carry tested rule_of carried_room carried_form carry_under carried_by timing_by nothing rows_numbers
    carry-1 block_rows h = rw (within, room, h) (go (eqb (timing_test (timings_of blocks l)) accepted))
      where
        left : CarryAnswer
        left = record { number = timing_test (timings_of blocks l); going = dropped; carried = carried }

        go : (b : Bool) → cond b left left ≡ left
        go true = refl
        go false = refl
