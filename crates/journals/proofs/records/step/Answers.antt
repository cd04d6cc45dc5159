-- By the mark.
use Rattle.std.proofs.Common.{arith}
use borrow.Author.Tests.{ltb-false}
use Rattle.journals.proofs.Stepping.{no-mark, payload-found, gap-found, reset-found, start-found, unknown-mark}
use Rattle.journals.proofs.records.step.Goals as goal
use Rattle.journals.proofs.records.step.Goals.{in-80+in_default-1, in-71+in_default-1, in-82+in_default-1, in_default-1}

pub returns-in_default : goal.returns-in_default
returns-in_default c = no-mark _ c.in_default.len_below

pub returns-in-80 : goal.returns-in-80
returns-in-80 c = payload-found _ c.in-80.len_at_least (omega arith, omega arith) c.payload_step.ensures

pub returns-in-80-2 : goal.returns-in-80-2
returns-in-80-2 c = start-found _ c.in-80-2.len_at_least (omega arith, omega arith) c.bare.ensures

pub returns-in-71 : goal.returns-in-71
returns-in-71 c = gap-found _ c.in-71.len_at_least (omega arith, omega arith) c.bare-in-71.ensures

pub returns-in-82 : goal.returns-in-82
returns-in-82 c = reset-found _ c.in-82.len_at_least (omega arith, omega arith) c.bare-in-82.ensures

pub returns-in-len2-up : goal.returns-in-len2-up
returns-in-len2-up c =
    elim c.in-len2-up-1.branch [
      | in-80+in_default-1 w ↦ unknown-mark _ (omega (arith, ltb-false)) (λ m. omega arith) (λ m. omega arith) (λ m. omega arith) (λ m. omega arith)
      | in-71+in_default-1 w ↦ unknown-mark _ (omega (arith, ltb-false)) (λ m. omega arith) (λ m. omega arith) (λ m. omega arith) (λ m. omega arith)
      | in-82+in_default-1 w ↦ unknown-mark _ (omega (arith, ltb-false)) (λ m. omega arith) (λ m. omega arith) (λ m. omega arith) (λ m. omega arith)
      | in_default-1 w ↦ unknown-mark _ (omega (arith, ltb-false)) (λ m. omega arith) (λ m. omega arith) (λ m. omega arith) (λ m. omega arith)
    ]
