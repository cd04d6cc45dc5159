-- Rule 2 with nothing carried.
use Prim.Native.Nat.{ℕ, ◌+◌}
use mathlib.Core.Path.{◌≡◌}
use mathlib.Core.List.{List}
use native.Mathlib.Omega.{arith}
use borrow.Author.Tests.{le-ltb}
use Rattle.standard.specs.Calls.{ramp_call}
use Rattle.standard.specs.Carried.{rule_of, choice_by}
use Rattle.standard.specs.CarriedCalls.{dropped, tested, going_form, ramp_under, ramp_by_rule}

module _ (l : List ℕ) (blocks sample : ℕ) where
  -- where nothing is carried, rule 2 chooses as there is no rule
  pub ramp-nothing : ramp_by_rule 2 l blocks sample dropped ≡ ramp_call l blocks sample
  unfolding ramp_by_rule ramp_under ramp_call tested rule_of going_form choice_by
  ramp-nothing = rw (le-ltb (0 + sample) 0 (omega arith))
