-- Determinacy, of each public call's own `ensures`: two ends that meet it for one entry show the same answers, lists and parts.
use Rattle.std.proofs.Common.{◌≡◌, refl, sym, ◌∙◌, List, ℤ, Result, Bor}
use Rattle.bits.specs.Faults.{number_of}
pub use Rattle.bits.proofs.Determines.{Determines}
use Rattle.bits.specs.declared.refusals.Fault.{Fault}
use Rattle.standard.specs.Calls.{Kept, PartAnswer}
use Rattle.rows.specs.Promises.{Left, Handed, part_of}
use Rattle.rows.proofs.Faults.{same_answer}
use Rattle.rows.proofs.calls.programme_start.Reads as programme-start
use Rattle.rows.proofs.calls.reset.Reads as reset
use Rattle.rows.proofs.calls.gap.Reads as gap
use Rattle.rows.proofs.calls.row_part.Reads as row-part

abbrev Ended : Type 0
Ended = Result (Unit {0}) Fault × List ℤ

abbrev ended : Result (Unit {0}) Fault → List ℤ → Ended
ended r l = (r, l)

module _ {k : Kept} {r r' : Result (Unit {0}) Fault} {l l' : List ℤ} where
  left_same : Left k r l → Left k r' l' → ended r l ≡ ended r' l'
  left_same p q =
      let e = same_answer r r' (p.number ∙ sym q.number) (λ a a' h h'. refl) in
      let f = p.retained ∙ sym q.retained in
      λ i. (e i, f i)

abbrev handed : Result (Bor (List ℤ)) Fault → PartAnswer
handed r = record { number = number_of r; part = part_of r }

handed-is : {a : PartAnswer} {r : Result (Bor (List ℤ)) Fault} → Handed a r → handed r ≡ a
handed-is p = λ i. record { number = p.number i; part = p.part i }

pub programme-start-determined : Determines programme-start.Post (λ κs r s. ended r s.0.now)
programme-start-determined κs a r r' s s' p q = left_same p q

pub reset-determined : Determines reset.Post (λ κs r s. ended r s.0.now)
reset-determined κs a r r' s s' p q = left_same p q

pub gap-determined : Determines gap.Post (λ κs r s. ended r s.0.now)
gap-determined κs a r r' s s' p q = left_same p q

pub row-part-determined : Determines row-part.Post (λ κs r s. handed r)
row-part-determined κs a r r' s s' p q = handed-is p ∙ sym (handed-is q)
