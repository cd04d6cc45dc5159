-- What is carried, by its three numbers: what of them matters, their form, and whether a frame takes it up.
use Prim.Native.Nat.{◌≤◌, ◌<◌}
use mathlib.Core.Path.{◌≡◌, refl, sym}
use mathlib.Core.Logic.{◌⊎◌, inl, inr}
use mathlib.Core.Bool.{Bool, true, false, cond, ◌&&◌, ◌||◌, false≢true, and-eq-true_iff}
use mathlib.Core.List.{List, []}
use native.Mathlib.Omega.{arith}
use borrow.Author.Tests.{eq-eqb, ne_eqb, eqb-true, eqb-false, ltb-true, leb-true}
use lib.Dec.{ltb, leb, eqb}
use lib.IntN.{ℤ}
use Rattle.standard.specs.Numbers.{object_limit}
use Rattle.standard.specs.Rows.{Row}
use Rattle.standard.specs.Tables.{rows_of}
use Rattle.standard.specs.Carried.{rule2, Carried, nothing, kinds_agree, taken_up}
use Rattle.standard.specs.CarriedCalls.{Going, dropped, carried_of, going_of, going_form, carried_form}
use Rattle.rows.proofs.Rows.{length-rows_of}
use Rattle.std.specs.Prelude.{Some}
use Rattle.std.specs.Bool.{then_some}
use Rattle.timing.specs.declared.carried.Going as code
use Rattle.timing.specs.Say.{going_said}
use Rattle.timing.specs.Going.{whole}

-- What matters of the numbers

module _ {A : Type 0} (f : Going → A) (g : Going) where
  -- with a duration of 0, the other two do not
  pub whole_same : (g.duration ≡ 0 → f dropped ≡ f g) → f (whole g) ≡ f g
  unfolding whole
  whole_same h = go (eqb g.duration 0) (eqb-true _ _)
    where
      go : (b : Bool) → (b ≡ true → g.duration ≡ 0) → f (cond b dropped g) ≡ f g
      go true k = h (k refl)
      go false k = refl

pub whole-carried : (g : Going) (l : List ℤ) → carried_of (whole g) l ≡ carried_of g l
unfolding carried_of
whole-carried g l = whole_same (λ x. carried_of x l) g (λ e. rw (eq-eqb g.duration 0 e))

pub whole-form : (g : Going) (l : List ℤ) → carried_form (whole g) l rule2 ≡ carried_form g l rule2
unfolding carried_form going_form
whole-form g l = whole_same (λ x. carried_form x l rule2) g (λ e. rw (eq-eqb g.duration 0 e))

-- as many rows as the first number says
pub rows-many : (g : Going) (l : List ℤ) → going_of (carried_of g l) ≡ whole g
unfolding carried_of whole nothing
rows-many g l = go (eqb g.duration 0)
  where
    go : (b : Bool) → going_of (cond b nothing (record { rows = rows_of g.objects l; elapsed = g.elapsed; duration = g.duration })) ≡ cond b dropped g
    go true = refl
    go false = λ i. record { objects = length-rows_of g.objects l i; elapsed = g.elapsed; duration = g.duration }

-- Form

-- of the rows, and so of the numbers
pub form-numbers : (g : Going) (l : List ℤ) → carried_form g l rule2 ≡ true → going_form g rule2 ≡ true
unfolding carried_form
form-numbers g l h = ((and-eq-true_iff _ _).0 h).0

-- nothing is carried, or a ramp that runs, with few rows
pub form-means : (g : Going) → going_form g rule2 ≡ true → (g.duration ≡ 0) ⊎ ((g.elapsed < g.duration) × (g.objects ≤ object_limit))
unfolding going_form
form-means g = go (eqb g.duration 0) (ltb g.elapsed g.duration) (leb g.objects object_limit) (eqb-true _ _) (ltb-true _ _) (leb-true _ _)
  where
    go : (z r f : Bool) → (z ≡ true → g.duration ≡ 0) → (r ≡ true → g.elapsed < g.duration) → (f ≡ true → g.objects ≤ object_limit)
        → (z || (r && f)) ≡ true → (g.duration ≡ 0) ⊎ ((g.elapsed < g.duration) × (g.objects ≤ object_limit))
    go true r f a b c h = inl (a refl)
    go false true true a b c h = inr (b refl, c refl)
    go false true false a b c h = absurd (false≢true h)
    go false false f a b c h = absurd (false≢true h)

whole-zero : (g : Going) → (whole g).duration ≡ 0 → whole g ≡ dropped
unfolding whole
whole-zero g = go (eqb g.duration 0) (eqb-false _ _)
  where
    go : (b : Bool) → (b ≡ false → g.duration ≡ 0 → ⊥) → (cond b dropped g).duration ≡ 0 → cond b dropped g ≡ dropped
    go true k e = refl
    go false k e = absurd (k refl e)

-- then what remains is a number
pub record Running (g : Going) : Type 0 where
  pub left : g.elapsed ≤ g.duration
  pub few : g.objects ≤ object_limit

pub running : (g : Going) → going_form (whole g) rule2 ≡ true → Running (whole g)
unfolding object_limit
running g h = go (form-means (whole g) h)
  where
    go : ((whole g).duration ≡ 0) ⊎ (((whole g).elapsed < (whole g).duration) × ((whole g).objects ≤ object_limit)) → Running (whole g)
    go (inl e) = rw (whole-zero g e) (record { left = omega arith; few = omega arith })
    go (inr k) = record { left = omega (arith, k.0); few = k.1 }

-- Taking up

module _ (g : Going) (l : List ℤ) (rows : List Row) where
  pub taken-nothing : g.duration ≡ 0 → dropped ≡ going_of (taken_up rule2 (carried_of g l) rows)
  unfolding taken_up carried_of nothing
  taken-nothing e = rw (eq-eqb g.duration 0 e) (go (kinds_agree [] rows))
    where
      go : (b : Bool) → dropped ≡ going_of (cond b nothing nothing)
      go true = refl
      go false = refl

  pub taken-other : (g.duration ≡ 0 → ⊥) → kinds_agree (rows_of g.objects l) rows ≡ false → dropped ≡ going_of (taken_up rule2 (carried_of g l) rows)
  unfolding taken_up carried_of nothing
  taken-other d e = rw (ne_eqb g.duration 0 d, e)

  pub taken-same : (g.duration ≡ 0 → ⊥) → kinds_agree (rows_of g.objects l) rows ≡ true → g ≡ going_of (taken_up rule2 (carried_of g l) rows)
  unfolding taken_up carried_of
  taken-same d e = rw (ne_eqb g.duration 0 d, e, length-rows_of)

  pub taken-running : Running (whole g) → let c = taken_up rule2 (carried_of g l) rows in c.elapsed ≤ c.duration
  unfolding taken_up nothing
  taken-running h = go (kinds_agree (carried_of g l).rows rows)
    where
      go : (b : Bool) → let c : Carried = cond b (carried_of g l) nothing in c.elapsed ≤ c.duration
      go true = (rw (← rows-many g l) at h).left
      go false = omega arith

-- the test whether a frame takes it decides
pub taken-some : (x : code.Going) (l : List ℤ) (rows : List Row) (b : Bool) → b ≡ kinds_agree (rows_of x.objects l) rows
    → going_said (then_some b x) ≡ going_of (taken_up rule2 (carried_of (going_said (Some x)) l) rows)
taken-some x l rows true e = taken-same (going_said (Some x)) l rows (λ z. let r : 0 < x.duration = x.lasts in absurd (omega arith)) (sym e)
taken-some x l rows false e = taken-other (going_said (Some x)) l rows (λ z. let r : 0 < x.duration = x.lasts in absurd (omega arith)) (sym e)
