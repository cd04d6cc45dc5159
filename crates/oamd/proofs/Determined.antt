-- Determinacy, of each public call's own `ensures`: two ends that meet it for one entry show the same answers, and the same lists.
use Rattle.std.proofs.Common.{◌≡◌, ℕ, ◌≤◌, List, ℤ, Result, Ok, Err, cond, eqb, refl, sym, ◌∙◌, ap, arith}
use Rattle.bits.specs.Say as bits
use Rattle.bits.specs.declared.refusals.Cause.{Cause}
use Rattle.bits.specs.declared.refusals.Cause.TheVariants.{Truncated, Invalid, Limit, Unsupported}
use Rattle.bits.specs.declared.refusals.Fault.{Fault}
use Rattle.bits.specs.declared.refusals.Refusal.{Refusal}
use Rattle.standard.specs.Calls.{Lent, Answer, Done}
use Rattle.standard.specs.CarriedCalls.{HoldAnswer}
use Rattle.rows.proofs.Determined.{Determines}
use Rattle.rows.proofs.Faults.{above, same_answer, same_fault}
use Rattle.oamd.specs.Promises.{lent, said_decoded, objects_of, Left, HoldLeft}
use Rattle.oamd.specs.declared.decoder.Frame.{Frame}
use Rattle.oamd.specs.declared.decoder.DecodeError.{DecodeError}
use Rattle.oamd.specs.declared.decoder.DecodeError.TheVariants.{Refused, Unread}
use Rattle.oamd.proofs.decoder.decode.Reads as reads
use Rattle.oamd.proofs.hold.hold.Reads as hold

-- a refusal is told by its numbers

cause_of : ℕ → Cause
cause_of n = cond (eqb n 1) Truncated (cond (eqb n 2) Invalid (cond (eqb n 3) Limit Unsupported))

back : (k : Cause) → cause_of (bits.cause_number k) ≡ k
unfolding cause_of
back Truncated = refl
back Invalid = refl
back Limit = refl
back Unsupported = refl

within : (k : Cause) → (1 ≤ bits.cause_number k) × (bits.cause_number k ≤ 4)
within Truncated = (omega arith, omega arith)
within Invalid = (omega arith, omega arith)
within Limit = (omega arith, omega arith)
within Unsupported = (omega arith, omega arith)

said_back : (r : Refusal) → record { cause = cause_of (bits.refusal r).number; context = (bits.refusal r).context; missing = (bits.refusal r).missing; place = record { 0 = (bits.refusal r).place } } ≡ r
said_back r = ap (λ k. record { cause = k; context = r.context; missing = r.missing; place = r.place }) (back r.cause)

same_refusal : (r r' : Refusal) → bits.refusal r ≡ bits.refusal r' → r ≡ r'
same_refusal r r' e =
    sym (said_back r) ∙ ap (λ z. record { cause = cause_of z.number; context = z.context; missing = z.missing; place = record { 0 = z.place } }) e ∙ said_back r'

-- and the numbers of acceptance, of refusals and of faults are apart

abbrev number : Result Frame DecodeError → ℕ
number d = (said_decoded d).verdict.number

pub same_decoded : (d d' : Result Frame DecodeError) → said_decoded d ≡ said_decoded d' → d ≡ d'
same_decoded (Ok f) (Ok g) e = ap (λ (a : Answer). Ok (record { objects = a.objects; blocks = a.blocks; unsettled = a.unsettled })) e
same_decoded (Ok f) (Err (Refused r)) e = let n : number (Ok f) ≡ number (Err (Refused r)) = ap (λ (a : Answer). a.verdict.number) e in absurd (omega (arith, within r.cause))
same_decoded (Ok f) (Err (Unread u)) e = let n : number (Ok f) ≡ number (Err (Unread u)) = ap (λ (a : Answer). a.verdict.number) e in absurd (omega (arith, above u))
same_decoded (Err (Refused r)) (Ok f) e = let n : number (Err (Refused r)) ≡ number (Ok f) = ap (λ (a : Answer). a.verdict.number) e in absurd (omega (arith, within r.cause))
same_decoded (Err (Refused r)) (Err (Refused r')) e = ap (λ (z : Refusal). Err (Refused z)) (same_refusal r r' (ap (λ (a : Answer). a.verdict) e))
same_decoded (Err (Refused r)) (Err (Unread u)) e = let n : number (Err (Refused r)) ≡ number (Err (Unread u)) = ap (λ (a : Answer). a.verdict.number) e in absurd (omega (arith, within r.cause, above u))
same_decoded (Err (Unread u)) (Ok f) e = let n : number (Err (Unread u)) ≡ number (Ok f) = ap (λ (a : Answer). a.verdict.number) e in absurd (omega (arith, above u))
same_decoded (Err (Unread u)) (Err (Refused r)) e = let n : number (Err (Unread u)) ≡ number (Err (Refused r)) = ap (λ (a : Answer). a.verdict.number) e in absurd (omega (arith, within r.cause, above u))
same_decoded (Err (Unread u)) (Err (Unread v)) e = ap (λ (z : Fault). Err (Unread z)) (same_fault u v (ap (λ (a : Answer). a.verdict.number) e))

-- what is seen at the end
pub record End : Type 0 where
  pub answer : Result Frame DecodeError
  pub tables : Lent

end_is : {d : Done} (e e' : End) → Left d e.answer e.tables.retained e.tables.start e.tables.blocks e.tables.timings
    → Left d e'.answer e'.tables.retained e'.tables.start e'.tables.blocks e'.tables.timings → e ≡ e'
end_is e e' p q =
    λ i. record {
      answer = same_decoded e.answer e'.answer (p.answer ∙ sym q.answer) i;
      tables = lent ((p.retained ∙ sym q.retained) i) ((p.start ∙ sym q.start) i) ((p.blocks ∙ sym q.blocks) i) ((p.timings ∙ sym q.timings) i);
    }

pub decode-determined : Determines {Seen = End} reads.Post (λ κs d s. record { answer = d; tables = lent s.1.0.now s.1.1.0.now s.1.1.1.0.now s.1.1.1.1.0.now })
decode-determined κs a d d' s s' p q = end_is _ _ p q

-- hold's answer is a number of objects, or a fault
pub record Held : Type 0 where
  pub objects : Result ℕ Fault
  pub start : List ℤ

held_is : {a : HoldAnswer} (e e' : Held) → HoldLeft a e.objects e.start → HoldLeft a e'.objects e'.start → e ≡ e'
held_is e e' p q =
    let same = same_answer e.objects e'.objects (p.number ∙ sym q.number) λ n m h k.
    ap objects_of (sym h) ∙ p.objects ∙ sym q.objects ∙ ap objects_of k in
    λ i. record { objects = same i; start = (p.start ∙ sym q.start) i }

pub hold-determined : Determines {Seen = Held} hold.Post (λ κs r s. record { objects = r; start = s.1.0.now })
hold-determined κs a r r' s s' p q = held_is _ _ p q
