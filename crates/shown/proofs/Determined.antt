-- Determinacy, of the call's own `ensures`: two answers that meet it for one entry are equal.
use Rattle.std.proofs.Common.{◌≡◌, refl, sym, ◌∙◌, ap, Result, Ok, Err}
use Rattle.bits.specs.declared.refusals.Fault.{Fault}
use Rattle.rows.proofs.Faults.{same_fault, not_accepted}
use Rattle.rows.proofs.Determined.{Determines}
use Rattle.shown.specs.declared.view.Gain.{Gain}
use Rattle.shown.specs.declared.view.Gain.TheVariants.{Silence, Decibels}
use Rattle.shown.specs.declared.view.Shown.{Shown}
use Rattle.shown.specs.Say.{gain_said, shown_said, view_said}
use Rattle.shown.proofs.calls.shown.Reads as shown

same-gain : (g g' : Gain) → gain_said g ≡ gain_said g' → g ≡ g'
same-gain Silence Silence e = refl
same-gain Silence (Decibels f) e = cc
same-gain (Decibels f) Silence e = cc
same-gain (Decibels f) (Decibels f') e = cc

same-shown : (s s' : Shown) → shown_said s ≡ shown_said s' → s ≡ s'
same-shown s s' e =
    let gain = same-gain s.gain s'.gain (λ i. (e i).gain) in
    λ i. record {
      x = (e i).x;
      y = (e i).y;
      z = (e i).z;
      width = (e i).width;
      depth = (e i).depth;
      height = (e i).height;
      priority = (e i).priority;
      gain = gain i;
    }

-- what an answer says tells the answer
same_view : (r r' : Result Shown Fault) → view_said r ≡ view_said r' → r ≡ r'
same_view (Ok s) (Ok s') e = let shown = same-shown s s' (λ i. (e i).shown) in λ i. Ok (shown i)
same_view (Ok s) (Err f) e = absurd (not_accepted f (λ i. (sym e i).number))
same_view (Err f) (Ok s) e = absurd (not_accepted f (λ i. (e i).number))
same_view (Err f) (Err g) e = ap Err (same_fault f g (λ i. (e i).number))

pub shown-determined : Determines shown.Post (λ κs r s. r)
shown-determined κs a r r' s s' p q = same_view r r' (p.says ∙ sym q.says)
