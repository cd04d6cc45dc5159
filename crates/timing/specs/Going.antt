-- The three lent numbers of what is carried, and what is asked behind a frame.
use Rattle.std.specs.Prelude.{ℕ, ◌≤◌, ◌≡◌, cond, List, eqb, leb, ℤ, length, get_or, Option, Result, IfOk}
use Rattle.bits.specs.Faults.{number_of}
use Rattle.bits.specs.declared.refusals.Fault.{Fault}
use Rattle.standard.specs.Numbers.{start_length, accepted, room, form}
use Rattle.standard.specs.Carried.{rule2}
use Rattle.standard.specs.CarriedCalls.{Going, dropped, going_form, carried_form}
use Rattle.timing.specs.declared.carried.Going as code
use Rattle.timing.specs.Say.{going_said}

abbrev pub going_in : List ℕ → Going
going_in l = record { objects = get_or l 0 0; elapsed = get_or l 1 0; duration = get_or l 2 0 }

-- where nothing is carried, the other two numbers say nothing
unfoldable pub whole : Going → Going
whole g = cond (eqb g.duration 0) dropped g

-- the numbers are read, or out of form
pub record Read (g : Going) (r : Result (Option code.Going) Fault) : Type 0 where
  pub number : number_of r ≡ cond (going_form g rule2) accepted form
  pub says : IfOk r (λ o. going_said o ≡ whole g)

-- and the rows
pub record ReadWith (g : Going) (l : List ℤ) (r : Result (Option code.Going) Fault) : Type 0 where
  pub number : number_of r ≡ cond (leb start_length (length l)) (cond (carried_form g l rule2) accepted form) room
  pub says : IfOk r (λ o. going_said o ≡ whole g)
  pub roomy : IfOk r (λ o. start_length ≤ length l)
