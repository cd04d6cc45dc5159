-- Each of the five drops what is carried, and where nothing is carried the start rows stand until a block starts.
use Prim.Native.Nat.{ℕ}
use mathlib.Core.Path.{◌≡◌, refl}
use mathlib.Core.Bool.{false}
use mathlib.Core.List.{List}
use mathlib.Core.Option.{Option}
use native.Mathlib.Omega.{arith}
use borrow.Author.Tests.{ne_eqb}
use lib.Dec.{eqb}
use Rattle.standard.specs.Numbers.{accepted}
use Rattle.standard.specs.Rows.{Row}
use Rattle.standard.specs.Carried.{Rule, rule1, rule2, Carried, nothing, kinds_agree, taken_up}
use Rattle.standard.proofs.RampChoice.{Before, before-all}
use Rattle.standard.proofs.RampPlaces.{over-chosen}
use Rattle.programmes.specs.Programmes.{frame, gaps, resets, starts, Playing, verdict, during, behind, next_frame, step, choice_in, sample_at, standing}
use Rattle.programmes.proofs.Branches.{same-either}
use Rattle.programmes.proofs.CarriedRamp.{resolve-start}

pub kinds-taken : (r : Rule) (c : Carried) (start : List Row) → kinds_agree c.rows start ≡ false → taken_up r c start ≡ nothing
unfolding taken_up
kinds-taken rule1 c start h = refl
kinds-taken rule2 c start h = rw h

module _ (p : Playing) where
  pub gap-drops : (step p gaps).carried ≡ nothing
  unfolding step
  gap-drops = refl

  pub reset-drops : (step p resets).carried ≡ nothing
  unfolding step
  reset-drops = refl

  pub start-drops : (step p starts).carried ≡ nothing
  unfolding step
  start-drops = refl

  module _ (r : Rule) (s : Option (List ℕ)) where
    -- in the frame itself, and behind it
    pub refusal-drops : (verdict r p.carried (next_frame p s) ≡ accepted → ⊥)
        → (during r p.carried (next_frame p s) ≡ nothing) × ((step p (frame r s)).carried ≡ nothing)
    unfolding during step behind
    refusal-drops h = rw (ne_eqb (verdict r p.carried (next_frame p s)) accepted h) (refl, refl)

    -- whatever its timings are
    pub kinds-drop : kinds_agree p.carried.rows (next_frame p s).start ≡ false → during r p.carried (next_frame p s) ≡ nothing
    unfolding during
    kinds-drop h = rw (kinds-taken r p.carried (next_frame p s).start h) (same-either (eqb (verdict r p.carried (next_frame p s)) accepted) nothing)

    -- at its target
    pub stands-dropped : (i : ℕ) → during r p.carried (next_frame p s) ≡ nothing → Before i (next_frame p s).timings
        → sample_at p r s i ≡ standing (next_frame p s).start
    unfolding sample_at choice_in nothing
    stands-dropped i d h =
        let f = next_frame p s in
        rw (d, over-chosen r 0 0 i f.timings (omega arith), before-all i f.timings h) (resolve-start f _)
