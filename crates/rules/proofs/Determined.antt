-- Determinacy, of each public call's own `ensures`: two answers that meet it for one entry are equal.
use Prim.Native.Nat.{ℕ}
use Rattle.bits.specs.Faults.{number_of}
use mathlib.Core.Path.{◌≡◌, sym, ◌∙◌}
use mathlib.Core.List.{List}
use lib.IntN.{ℤ}
use Rattle.std.specs.Prelude.{Result}
use Rattle.bits.specs.declared.refusals.Fault.{Fault}
use Rattle.standard.specs.CarriedCalls.{TimingAnswer, CarryAnswer}
use Rattle.rows.proofs.Determined.{Determines}
use Rattle.timing.specs.Going.{going_in}
use Rattle.rules.specs.Promises.{TimingLeft, CarryLeft}
use Rattle.rules.proofs.calls.timing_by_rule.Reads as timing-by-rule
use Rattle.rules.proofs.calls.ramp_by_rule.Reads as ramp-by-rule
use Rattle.rules.proofs.calls.carry.Reads as carry
use Rattle.rules.proofs.calls.drop_ramp.Reads as drop-ramp
use Rattle.timing.proofs.Determined.{same-ramp}

-- The number, the three numbers of what is carried, and the carried rows

timed-is : {a : TimingAnswer} {r : Result (Unit {0}) Fault} {s : List ℕ} → TimingLeft a r s → record { number = number_of r; going = going_in s } ≡ a
timed-is p = λ i. record { number = p.number i; going = p.state i }

pub timing-by-rule-determined : Determines {Seen = TimingAnswer} timing-by-rule.Post (λ κs r s. record { number = number_of r; going = going_in s.1.1.1.1.1.1.0.now })
timing-by-rule-determined κs a r r' s s' p q = timed-is p ∙ sym (timed-is q)

pub ramp-by-rule-determined : Determines ramp-by-rule.Post (λ κs r s. r)
ramp-by-rule-determined κs a r r' s s' p q = same-ramp r r' (p.chosen ∙ sym q.chosen) (p.says ∙ sym q.says)

carried-is : {a : CarryAnswer} {r : Result (Unit {0}) Fault} {s : List ℕ} {l : List ℤ} → CarryLeft a r s l → record { number = number_of r; going = going_in s; carried = l } ≡ a
carried-is p = λ i. record { number = p.number i; going = p.state i; carried = p.carried i }

pub carry-determined : Determines {Seen = CarryAnswer} carry.Post
    (λ κs r s. record { number = number_of r; going = going_in s.1.1.1.1.1.1.1.0.now; carried = s.1.1.1.1.1.1.0.now })
carry-determined κs a r r' s s' p q = carried-is p ∙ sym (carried-is q)

pub drop-determined : Determines drop-ramp.Post (λ κs r s. going_in s.0.now)
drop-determined κs a r r' s s' p q = p ∙ sym q
