-- A call's number tells its answer, where an accepted call gives nothing else.
use Rattle.std.proofs.Common.{ℕ, ◌≡◌, ◌≤◌, refl, sym, ap, ◌∙◌, arith, cond, eqb, Result, Ok, Err}
use Rattle.bits.specs.declared.refusals.Fault.{Fault}
use Rattle.bits.specs.declared.refusals.Fault.TheVariants.{Room, Form, Size, Ordering, Overlap, CrossFrame, Query, Index, EndsEarly, OtherVersion, NoObject, UnknownRule}
use Rattle.bits.specs.Faults.{fault_number, number_of}

fault_of : ℕ → Fault
fault_of n =
    cond (eqb n 5) Room
    (cond (eqb n 6) Form
    (cond (eqb n 7) Size
    (cond (eqb n 8) Ordering
    (cond (eqb n 9) Overlap
    (cond (eqb n 10) CrossFrame
    (cond (eqb n 11) Query
    (cond (eqb n 12) Index
    (cond (eqb n 13) EndsEarly
    (cond (eqb n 14) OtherVersion
    (cond (eqb n 15) NoObject UnknownRule))))))))))

back : (f : Fault) → fault_of (fault_number f) ≡ f
unfolding fault_of
back Room = refl
back Form = refl
back Size = refl
back Ordering = refl
back Overlap = refl
back CrossFrame = refl
back Query = refl
back Index = refl
back EndsEarly = refl
back OtherVersion = refl
back NoObject = refl
back UnknownRule = refl

pub same_fault : (f g : Fault) → fault_number f ≡ fault_number g → f ≡ g
same_fault f g e = sym (back f) ∙ ap fault_of e ∙ back g

-- the numbers of faults begin at 5
pub above : (f : Fault) → 5 ≤ fault_number f
above Room = omega arith
above Form = omega arith
above Size = omega arith
above Ordering = omega arith
above Overlap = omega arith
above CrossFrame = omega arith
above Query = omega arith
above Index = omega arith
above EndsEarly = omega arith
above OtherVersion = omega arith
above NoObject = omega arith
above UnknownRule = omega arith

-- no fault has the number of acceptance
pub not_accepted : (f : Fault) → fault_number f ≡ 0 → ⊥
not_accepted f e = omega (arith, above f)

module _ {A : Type 0} where
  -- what the number is told by what an accepted call gives
  pub same_answer : (r r' : Result A Fault) → number_of r ≡ number_of r' → ((a a' : A) → r ≡ Ok a → r' ≡ Ok a' → a ≡ a') → r ≡ r'
  same_answer (Ok a) (Ok a') e same = ap Ok (same a a' refl refl)
  same_answer (Ok a) (Err f) e same = absurd (not_accepted f (sym e))
  same_answer (Err f) (Ok a) e same = absurd (not_accepted f e)
  same_answer (Err f) (Err g) e same = ap Err (same_fault f g e)
