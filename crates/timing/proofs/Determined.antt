-- Determinacy, of each public call's own `ensures`: two answers that meet it for one entry are equal.
use Prim.Native.Nat.{◌<◌}
use mathlib.Core.Path.{◌≡◌, refl, sym, ◌∙◌, ap}
use mathlib.Core.HLevel.{is_prop→PathP}
use mathlib.Core.Bool.{true≢false, false≢true}
use native.Mathlib.Bridge.{le_prop}
use Rattle.std.specs.Prelude.{Result, Ok, Err, is_ok}
use Rattle.bits.specs.declared.refusals.Fault.{Fault}
use Rattle.standard.specs.Calls.{RampAnswer}
use Rattle.rows.proofs.Determined.{Determines}
use Rattle.rows.proofs.Faults.{same_answer, same_fault}
use Rattle.timing.specs.declared.ramps.Ramp.{Ramp}
use Rattle.timing.specs.Say.{ramp_said}
use Rattle.timing.proofs.calls.timing.Reads as timing
use Rattle.timing.proofs.calls.ramp.Reads as ramp

-- what an answer says, and which case it is, tell the answer
pub same-ramp : (r r' : Result Ramp Fault) → is_ok r ≡ is_ok r' → ramp_said r ≡ ramp_said r' → r ≡ r'
same-ramp (Ok x) (Ok y) k e =
    λ i. Ok (record {
      choice = record {
        from = (e i).choice.from;
        to = (e i).choice.to;
        elapsed = (e i).choice.elapsed;
        duration = (e i).choice.duration;
        lasts = is_prop→PathP (λ j. 0 < (e j).choice.duration) (λ j. le_prop) x.choice.lasts y.choice.lasts i;
      };
      alpha = (e i).fraction;
    })
same-ramp (Ok x) (Err f) k e = absurd (true≢false k)
same-ramp (Err f) (Ok x) k e = absurd (false≢true k)
same-ramp (Err f) (Err g) k e = ap (λ (x : Fault). Err x) (same_fault f g (ap (λ (a : RampAnswer). a.number) e))

pub timing-determined : Determines timing.Post (λ κs r s. r)
timing-determined κs a r r' s s' p q = same_answer r r' (p ∙ sym q) (λ u u' e e'. refl)

pub ramp-determined : Determines ramp.Post (λ κs r s. r)
ramp-determined κs a r r' s s' p q = same-ramp r r' (p.chosen ∙ sym q.chosen) (p.says ∙ sym q.says)
