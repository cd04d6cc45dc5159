-- Turn after turn: what went to write and what waits is the text of a run over all that has arrived.
use Rattle.std.proofs.Common.{◌≡◌, ℕ, ◌+◌, Bool, true, false, List, ◌++◌, Ok, refl, sym, ap, ◌∙◌, append_assoc, arith}
use Rattle.journals.specs.Runs as runs
use Rattle.journals.specs.Runs.{Standing, Ran}
use Rattle.journal.specs.Waits.{Emits}
use Rattle.journal.specs.Steps.{Turned, goes, ends, faults, fails, steps, Fed, Played, over, faulted}

-- after n turns: what has arrived, and what of the text went to write
pub record Running (n : ℕ) (p : Standing) (waits : List ℕ) : Type 0 where
  pub arrived : List ℕ
  pub text : List ℕ
  pub handed : List ℕ
  pub ran : Ran arrived text p
  pub turns : steps ran ≡ n
  pub fed : Fed ran
  pub same : handed ++ waits ≡ text

more-said : {n : ℕ} {p : Standing} {waited text waits : List ℕ} (s : Running n p waited) (w : Emits waited text waits) → (s.handed ++ w.handed) ++ waits ≡ s.text ++ text
more-said {waited} {text} {waits} s w =
    append_assoc s.handed w.handed waits ∙ ap (λ (t : List ℕ). s.handed ++ t) w.same ∙ sym (append_assoc s.handed waited text) ∙ ap (λ (t : List ℕ). t ++ text) s.same

module _ {n : ℕ} {p q : Standing} {waited waits : List ℕ} (s : Running n p waited) where
  -- with nothing more waiting than before
  pub turned-on : {b : Bool} → Turned p waited (Ok b) q waits → b ≡ true → Running (n + 1) q waits
  turned-on (goes {part} {text} f g b w) e =
      record {
        arrived = s.arrived ++ part;
        text = s.text ++ text;
        handed = s.handed ++ w.handed;
        ran = runs.goes s.ran g;
        turns = omega (arith, s.turns);
        fed = (s.fed, b);
        same = more-said s w;
      }
  turned-on (ends f a c k w) e = let z : ⊥ = cc in absurd z
  turned-on (faults f a c k w) e = let z : ⊥ = cc in absurd z
  turned-on (fails f) e = let z : ⊥ = cc in absurd z

  pub turned-over : {b : Bool} → Turned p waited (Ok b) q waits → b ≡ false → Played (Ok tt) q waits
  turned-over (goes f g b w) e = let z : ⊥ = cc in absurd z
  turned-over (ends f a c k w) e = over (s.handed ++ w.handed) refl s.ran a c (more-said s w) (w.before, w.whole) k
  turned-over (faults f a c k w) e = faulted (s.handed ++ w.handed) refl s.ran a c (more-said s w) (w.before, w.whole) k
  turned-over (fails f) e = let z : ⊥ = cc in absurd z
