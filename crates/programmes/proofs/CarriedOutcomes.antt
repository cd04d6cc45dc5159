-- What each number of the timing and carry calls says of the lent numbers and rows.
use Prim.Native.Nat.{ℕ, ◌≤◌}
use mathlib.Core.Path.{◌≡◌, refl}
use mathlib.Core.Logic.{◌⊎◌, inl, inr}
use mathlib.Core.Bool.{Bool, false, cond}
use mathlib.Core.List.{List}
use mathlib.Core.Option.{Option, none, some}
use native.Mathlib.Omega.{arith}
use borrow.Author.Tests.{ne_eqb}
use lib.Dec.{eqb}
use lib.IntN.{ℤ}
use Rattle.standard.specs.Numbers.{accepted, ordering, cross_frame}
use Rattle.standard.specs.Numbers as number
use Rattle.standard.specs.Tables.{timings_of, rows_of}
use Rattle.standard.specs.Carried.{Rule, rule_of, Carried, remains, taken_up}
use Rattle.standard.specs.CarriedCalls.{Going, dropped, carried_of, tested, TimingAnswer, timed, timing_under, timing_by_rule, CarryAnswer, carry_under, carry}
use Rattle.standard.proofs.RampPlaces.{Tested, number_by}
use Rattle.programmes.proofs.Branches.{either}

-- What is said of each refusal, and of what is done where the tests pass, is said of the call

-- 16, 11, 5 or 6
abbrev pub Refused : ℕ → Type 0
Refused n = (n ≡ number.unknown_rule) ⊎ (n ≡ number.query) ⊎ (n ≡ number.room) ⊎ (n ≡ number.form)

pub tested-says : {A : Type 0} (refuse : ℕ → A) (go : Rule → A) (P : A → Type 0) → ((n : ℕ) → Refused n → P (refuse n)) → ((r : Rule) → P (go r))
    → (rule : Option Rule) (within : Bool) (room form : Rule → Bool) → P (tested rule within room form refuse go)
unfolding tested
tested-says refuse go P f g none within room form = f number.unknown_rule (inl refl)
tested-says refuse go P f g (some r) within room form =
    either P within (λ e. either P (room r) (λ e. either P (form r) (λ e. g r) (λ e. f number.form (inr (inr (inr refl))))) (λ e. f number.room (inr (inr (inl refl)))))
    (λ e. f number.query (inr (inl refl)))

-- The numbers

-- accepted; or 8, 9, 10, which drop the ramp and leave the rows; or another number, which leaves all
pub data Outcome (g g' : Going) (l l' : List ℤ) : ℕ → Type 0 where
  passed : Outcome g g' l l' accepted
  drops : {n : ℕ} → ordering ≤ n → n ≤ cross_frame → g' ≡ dropped → l' ≡ l → Outcome g g' l l' n
  leaves : {n : ℕ} → Refused n → g' ≡ g → l' ≡ l → Outcome g g' l l' n

not-accepted : (n : ℕ) → ordering ≤ n → eqb n accepted ≡ false
not-accepted n h = ne_eqb n accepted (λ e. omega arith)

module _ (g : Going) (l : List ℤ) where
  abbrev Timed : TimingAnswer → Type 0
  Timed a = Outcome g a.going l l a.number

  abbrev Gone : CarryAnswer → Type 0
  Gone a = Outcome g a.going l a.carried a.number

  timed-outcome : (n : ℕ) (c : Carried) → Tested n → Timed (timed n c)
  unfolding timed
  timed-outcome n c (inl e) = rw e passed
  timed-outcome n c (inr h) = drops h.0 h.1 (rw (not-accepted n h.0)) refl

  carry-outcome : (n : ℕ) (x : Going) (y : List ℤ) → Tested n
      → Gone (cond (eqb n accepted) (record { number = n; going = x; carried = y }) (record { number = n; going = dropped; carried = l }))
  carry-outcome n x y (inl e) = rw e passed
  carry-outcome n x y (inr h) = rw (not-accepted n h.0) (drops h.0 h.1 refl refl)

  pub timing-says : (rule : ℕ) (timings : List ℕ) (blocks objects : ℕ) (start : List ℤ) → Timed (timing_by_rule rule timings blocks objects start l g)
  unfolding timing_by_rule timing_under
  timing-says rule timings blocks objects start =
      let ts = timings_of blocks timings in
      let c : Rule → Carried = λ r. taken_up r (carried_of g l) (rows_of objects start) in
      tested-says _ _ Timed (λ n h. leaves h refl refl) (λ r. timed-outcome _ (c r) (number_by r (remains (c r)) ts)) (rule_of rule) _ _ _

  pub carry-says : (rule : ℕ) (timings : List ℕ) (blocks objects : ℕ) (start block_rows : List ℤ) → Gone (carry rule timings blocks objects start block_rows l g)
  unfolding carry carry_under
  carry-says rule timings blocks objects start block_rows =
      let ts = timings_of blocks timings in
      let c = carried_of g l in
      tested-says _ _ Gone (λ n h. leaves h refl refl) (λ r. carry-outcome _ _ _ (number_by r (remains c) ts)) (rule_of rule) _ _ _
