-- What the call promises, and the place of a row.
use Rattle.std.specs.Prelude.{◌≡◌, eqb, Result}
use Rattle.std.specs.Result.{is_ok}
use Rattle.bits.specs.declared.refusals.Fault.{Fault}
use Rattle.standard.specs.Numbers.{accepted}
use Rattle.standard.specs.Shown as paper
use Rattle.standard.specs.Calls.{ShownAnswer}
use Rattle.shown.specs.declared.view.Place.{Place}
use Rattle.shown.specs.declared.view.Shown.{Shown}
use Rattle.shown.specs.Say.{view_said}

-- where a row is shown
pub record Stands (s : paper.Shown) (p : Place) : Type 0 where
  pub x : p.x ≡ s.x
  pub y : p.y ≡ s.y
  pub z : p.z ≡ s.z

-- the paper's answer; a row exactly where its number is 0
pub record Viewed (a : ShownAnswer) (r : Result Shown Fault) : Type 0 where
  pub says : view_said r ≡ a
  pub shows : is_ok r ≡ eqb a.number accepted
