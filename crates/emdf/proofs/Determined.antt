-- Determinacy, of the call's own `ensures`: two ends that meet it for one entry show the same number, length and buffer.
use Prim.Native.Nat.{ℕ}
use Rattle.bits.specs.Faults.{number_of}
use mathlib.Core.Path.{◌≡◌, sym, ◌∙◌}
use mathlib.Core.List.{List}
use Rattle.bits.proofs.Determines.{Determines}
use Rattle.standard.specs.Calls.{Taken}
use Rattle.emdf.specs.Promises.{Left, length_of}
use Rattle.emdf.proofs.take.Reads as take

abbrev taken : ℕ → ℕ → List ℕ → Taken
taken n l b = record { number = n; length = l; buffer = b }

pub taken_is : {t : Taken} {n l : ℕ} {b : List ℕ} → Left t n l b → taken n l b ≡ t
taken_is p = λ i. taken (p.number i) (p.its-length i) (p.buffer i)

pub take-determined : Determines take.Post (λ κs r s. taken (number_of r) (length_of r) s.1.0.now)
take-determined κs a r r' s s' p q = taken_is p ∙ sym (taken_is q)
