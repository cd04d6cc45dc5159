-- Request Q-7, theorem 3, in a programme: what is retained is what a journal's records leave, and a frame under rule 1 is tested and chosen in as without a rule.
use Prim.Native.Nat.{ℕ}
use mathlib.Core.Path.{◌≡◌, refl, sym, ◌∙◌, ap}
use mathlib.Core.List.{List, [], ◌∷◌, ◌++◌, flat_map}
use mathlib.Core.Option.{Option, none, some}
use lib.Dec.{eqb}
use Rattle.bits.specs.Parsed.{Parsed, got, refused}
use Rattle.standard.specs.Numbers.{accepted}
use Rattle.standard.specs.Tree.{Tree}
use Rattle.standard.specs.Rows.{State}
use Rattle.standard.specs.Meaning.{retain_if, taken, decoded}
use Rattle.standard.specs.Timing.{timing_test}
use Rattle.standard.specs.Ramps.{choice}
use Rattle.standard.specs.Carried.{rule1, Carried, nothing, taken_up, timing_by, choice_by, carried_by}
use Rattle.standard.specs.Events.{run, state_after}
use Rattle.programmes.specs.Programmes.{Event, frame, gaps, resets, starts, Playing, tree_of, said, Frame, retained_by, next_frame, step, brings}
use Rattle.programmes.specs.Programmes.{verdict, during, behind, resolve, choice_in, sample_at}
use Rattle.programmes.proofs.Branches.{same-either}

-- What is retained does not depend on what is carried, nor on the rule

heard-retained : (st : State) (p : Parsed Tree) → retained_by st (tree_of p) ≡ retain_if st p
unfolding retained_by tree_of retain_if
heard-retained st (got t q) = refl
heard-retained st (refused r) = refl

pub retained-step : (p : Playing) (e : Event) → (step p e).retained ≡ run state_after p.retained (brings e)
unfolding run step state_after brings said decoded retained_by
retained-step p (frame r none) = refl
retained-step p (frame r (some s)) = heard-retained p.retained (taken s)
retained-step p gaps = refl
retained-step p resets = refl
retained-step p starts = refl

run-append : {A E : Type 0} (f : A → E → A) (a : A) (xs ys : List E) → run f a (xs ++ ys) ≡ run f (run f a xs) ys
unfolding run
run-append f a [] ys = refl
run-append f a (x ∷ xs) ys = run-append f (f a x) xs ys

-- after a programme: the state that the journal of its records leaves
pub retained-after : (p : Playing) (es : List Event) → (run step p es).retained ≡ run state_after p.retained (flat_map brings es)
unfolding run flat_map
retained-after p [] = refl
retained-after p (e ∷ es) =
    retained-after (step p e) es ∙ ap (λ st. run state_after st (flat_map brings es)) (retained-step p e)
    ∙ sym (run-append state_after p.retained (brings e) (flat_map brings es))

-- A frame under rule 1

pub verdict-1 : (c : Carried) (f : Frame) → verdict rule1 c f ≡ timing_test f.timings
unfolding verdict timing_by
verdict-1 c f = refl

during-1 : (c : Carried) (f : Frame) → during rule1 c f ≡ nothing
unfolding during taken_up
during-1 c f = same-either (eqb (verdict rule1 c f) accepted) nothing

pub sample-1 : (p : Playing) (s : Option (List ℕ)) (i : ℕ) → let f = next_frame p s in sample_at p rule1 s i ≡ resolve f nothing (choice i f.timings)
unfolding sample_at choice_in choice_by
sample-1 p s i = rw (during-1 p.carried (next_frame p s))

pub leaves_nothing : (p : Playing) (s : Option (List ℕ)) → (step p (frame rule1 s)).carried ≡ nothing
unfolding step behind carried_by
leaves_nothing p s = same-either (eqb (verdict rule1 p.carried (next_frame p s)) accepted) nothing
