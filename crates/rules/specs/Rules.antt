-- The paper's rules by the code's, and what is read by a rule.
use Rattle.std.specs.Prelude.{ℕ, ◌≡◌, ◌≤◌, cond, List, ℤ, length, Option, Result, Ok, IfOk, IfSome}
use Rattle.bits.specs.Faults.{number_of}
use Rattle.std.proofs.Math.Option as paper
use Rattle.bits.specs.declared.refusals.Fault.{Fault}
use Rattle.standard.specs.Numbers.{start_length, accepted, room, form, unknown_rule}
use Rattle.standard.specs.Rows.{Row}
use Rattle.standard.specs.Carried as standard
use Rattle.standard.specs.Carried.{rule1, rule2, rule_of, timing_by, carried_by}
use Rattle.standard.specs.CarriedCalls.{Going, dropped, carried_of, going_of, going_form, carried_form, carried_room}
use Rattle.timing.specs.declared.carried.Going as code
use Rattle.timing.specs.declared.frame.Frame.{Frame}
use Rattle.timing.specs.Say.{going_said}
use Rattle.timing.specs.Going.{whole}
use Rattle.rules.specs.declared.rule.Rule.{Rule}
use Rattle.rules.specs.declared.rule.Rule.TheVariants.{InFrame, OverEdge}

abbrev pub rule_said : Rule → standard.Rule
rule_said InFrame = rule1
rule_said OverEdge = rule2

-- the rule of a number, or why there is none
abbrev pub RuleRead : ℕ → Result Rule Fault → Type 0
RuleRead n (Ok r) = rule_of n ≡ paper.some (rule_said r)
RuleRead n r = (rule_of n ≡ paper.none) × (number_of r ≡ unknown_rule)

-- what a rule carries into a frame
abbrev pub carried_under : standard.Rule → Going → Going
carried_under rule1 g = dropped
carried_under rule2 g = whole g

pub record GoingRead (rule : standard.Rule) (g : Going) (r : Result (Option code.Going) Fault) : Type 0 where
  pub number : number_of r ≡ cond (going_form g rule) accepted form
  pub says : IfOk r (λ o. going_said o ≡ carried_under rule g)

pub record CarriedRead (rule : standard.Rule) (g : Going) (l : List ℤ) (r : Result (Option code.Going) Fault) : Type 0 where
  pub number : number_of r ≡ cond (carried_room l rule) (cond (carried_form g l rule) accepted form) room
  pub says : IfOk r (λ o. going_said o ≡ carried_under rule g)
  pub roomy : IfOk r (λ o. IfSome o (λ x. start_length ≤ length l))

-- Behind a frame

-- its timings have passed
pub record PassedBy (rule : standard.Rule) (f : Frame) : Type 0 where
  pub passed : (n : ℕ) × (timing_by rule n f.timings ≡ accepted)

abbrev pub GoesOn : standard.Rule → Frame → Option code.Going → Option code.Going → Type 0
GoesOn rule f g r = (l : List ℤ) (rows : List Row) → length rows ≡ f.objects → going_said r ≡ going_of (carried_by rule (carried_of (going_said g) l) rows f.timings)
