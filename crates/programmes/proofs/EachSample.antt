-- Request Q-7, theorem 1, for both rules: in a frame whose timings pass, each sample has one place, and its pair and fraction are that place's.
use Prim.Native.Nat.{ℕ}
use mathlib.Core.Path.{◌≡◌, refl}
use Rattle.standard.specs.Numbers.{accepted}
use Rattle.standard.specs.Carried.{Rule, rule1, rule2, Carried, nothing, taken_up}
use Rattle.standard.proofs.RampPlaces.{OnePlace, Own, one_place}
use Rattle.programmes.specs.Programmes.{Frame, verdict, during, choice_in}

-- rule 1 takes up nothing
pub taken_own : (r : Rule) (c : Carried) (f : Frame) → Own r (taken_up r c f.start).duration
unfolding taken_up nothing
taken_own rule1 c f = refl
taken_own rule2 c f = tt

module _ (r : Rule) (c : Carried) (f : Frame) (passes : verdict r c f ≡ accepted) where
  -- what comes into the frame is carried in it
  pub during-passing : during r c f ≡ taken_up r c f.start
  unfolding during
  during-passing = rw passes

  pub each-sample : (i : ℕ) → let d = taken_up r c f.start in OnePlace d.elapsed d.duration f.timings i (choice_in r c f i)
  unfolding choice_in verdict
  each-sample i =
      let d = taken_up r c f.start in
      rw during-passing (one_place r d.elapsed d.duration f.timings (taken_own r c f) passes i)
