-- What decode, ramp and shown promise is what their twins promise, case by case.
use Rattle.std.proofs.Common.{◌≡◌, ℕ, ◌*◌, ◌≤◌, List, ℤ, Result, Ok, Err, sym, ◌∙◌, ap, arith}
use mathlib.Core.Bool.{false≢true}
use lib.Dec.{ltb}
use lib.Ieee.{Float, lt}
use Rattle.bits.specs.declared.refusals.Fault.{Fault}
use Rattle.bits.specs.declared.refusals.Refusal.{Refusal}
use Rattle.standard.specs.Numbers.{payload_limit, accepted}
use Rattle.standard.specs.Floats.{one}
use Rattle.standard.specs.Calls.{Lent, Done, Answer, RampAnswer, ShownAnswer, decode}
use Rattle.standard.proofs.Refusals.{place-fits}
use Rattle.oamd.specs.Promises.{Left, said_decoded}
use Rattle.oamd.specs.declared.decoder.Frame.{Frame}
use Rattle.oamd.specs.declared.decoder.DecodeError.{DecodeError}
use Rattle.oamd.specs.declared.decoder.DecodeError.TheVariants as failed
use Rattle.timing.specs.Say.{ramp_said}
use Rattle.timing.specs.Promises.{Ramped}
use Rattle.timing.specs.declared.ramps.Ramp.{Ramp}
use Rattle.shown.specs.Say.{view_said}
use Rattle.shown.specs.Promises.{Viewed}
use Rattle.shown.specs.declared.view.Shown.{Shown}
use Rattle.rack.specs.Twins.{DecodeLeft, answer_numbers, RampPut, RampLeft, choice_numbers, ShownLeft, shown_floats, silence}

pub left-twin : {d : Done} {a a' : Result Frame DecodeError} {r s b : List ℤ} {t : List ℕ} → Left d a r s b t → a ≡ a'
    → DecodeLeft d (said_decoded a').verdict.number (answer_numbers (said_decoded a')) r s b t
left-twin l e =
    record {
      number = rw (← e) (ap (λ (x : Answer). x.verdict.number) l.answer);
      answers = rw (← e) (ap answer_numbers l.answer);
      retained = l.retained;
      start = l.start;
      blocks = l.blocks;
      timings = l.timings;
    }

-- a refusal's place fits 32 bits
pub place-small : (p : List ℕ) (l : Lent) {a : Result Frame DecodeError} {z : Refusal} {r s b : List ℤ} {t : List ℕ} → Left (decode p l) a r s b t → a ≡ Err (failed.Refused z)
    → z.place.0 ≤ payload_limit * 8
place-small p l {a} {z} h e =
    let same : z.place.0 ≡ (decode p l).answer.verdict.place =
    sym (ap (λ (x : Result Frame DecodeError). (said_decoded x).verdict.place) e) ∙ ap (λ (x : Answer). x.verdict.place) h.answer in
    let k = place-fits p l in
    omega arith

-- a refusal has no ramp, and no number 0
below_one : {a : RampAnswer} (r : Result Ramp Fault) → Ramped a r → (ramp_said r).number ≡ accepted
    → lt (ramp_said r).fraction one ≡ ltb a.choice.elapsed a.choice.duration
below_one (Ok x) l e = rw (← l.says) l.rounded.below
below_one (Err f) l e = absurd (false≢true (rw (← l.says, e) at l.chosen))

-- a ramp's numbers, by the case that it is
pub ramp-put : {r r' : Result Ramp Fault} → r ≡ r' → RampPut (ramp_said r) (ramp_said r').number (choice_numbers (ramp_said r').choice) (ramp_said r').fraction
ramp-put e =
    record {
      number = ap (λ (x : Result Ramp Fault). (ramp_said x).number) (sym e);
      answers = ap (λ (x : Result Ramp Fault). choice_numbers (ramp_said x).choice) (sym e);
      fraction = ap (λ (x : Result Ramp Fault). (ramp_said x).fraction) (sym e);
    }

pub ramp-twin : {a : RampAnswer} {r : Result Ramp Fault} {n : ℕ} {answer : List ℕ} {f : Float} → Ramped a r → RampPut (ramp_said r) n answer f → RampLeft a n answer f
ramp-twin {a} {r} l p =
    record {
      number = p.number ∙ ap (λ (x : RampAnswer). x.number) l.says;
      answers = p.answers ∙ ap (λ (x : RampAnswer). choice_numbers x.choice) l.says;
      fraction = p.fraction ∙ ap (λ (x : RampAnswer). x.fraction) l.says;
      below = λ e. rw p.fraction (below_one r l (sym p.number ∙ e));
    }

pub shown-twin : {a : ShownAnswer} {v v' : Result Shown Fault} → Viewed a v → v ≡ v'
    → ShownLeft a (view_said v').number (shown_floats (view_said v').shown) (silence (view_said v').shown.gain)
shown-twin l e =
    record {
      number = rw (← e) (ap (λ (x : ShownAnswer). x.number) l.says);
      floats = rw (← e) (ap (λ (x : ShownAnswer). shown_floats x.shown) l.says);
      its_silence = rw (← e) (ap (λ (x : ShownAnswer). silence x.shown.gain) l.says);
    }
