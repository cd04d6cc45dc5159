-- The ways that the calls by rule can end: where a test refuses, and where all pass.
use Prim.Native.Nat.{ℕ, suc, zero, ◌+◌, ◌-◌, ◌≤◌, ◌<◌}
use mathlib.Core.Path.{◌≡◌, refl, sym, ◌∙◌, ap}
use mathlib.Core.Bool.{Bool, true, false, cond, true≢false, false≢true}
use mathlib.Core.Logic.{◌⊎◌}
use mathlib.Core.List.{List}
use mathlib.Core.Option as paper
use borrow.Author.Tests.{leb-true, ne_eqb, le-ltb}
use lib.IntN.{ℤ}
use lib.ListN.{length, drop}
use native.Mathlib.Omega.{arith}
use Rattle.std.specs.Prelude.{Result, Ok, Err, IsErrAnd, Option, None, Some, is_some}
use Rattle.std.proofs.lemmas.Result.{err_from_is_err_and}
use Rattle.bits.specs.declared.refusals.Fault.{Fault}
use Rattle.bits.specs.declared.refusals.Fault.TheVariants.{Query}
use Rattle.bits.specs.Faults.{fault_number}
use Rattle.standard.specs.Numbers.{start_length, accepted, room, form, query, unknown_rule}
use Rattle.standard.specs.Tree.{Timing}
use Rattle.standard.specs.Rows.{Row}
use Rattle.standard.specs.Tables.{timings_of, rows_numbers}
use Rattle.standard.specs.Calls.{over, RampAnswer, no_ramp}
use Rattle.standard.specs.Carried.{Rule, rule1, rule2, rule_of, Carried, nothing, remains, taken_up, timing_by, choice_by, carried_by}
use Rattle.standard.specs.CarriedCalls.{Going, dropped, carried_of, going_of, tested, carried_room, carried_form, TimingAnswer, timed, timing_under, ramp_under, CarryAnswer, carry_under}
use Rattle.timing.specs.Going.{going_in}
use Rattle.timing.specs.declared.carried.Going as code
use Rattle.timing.specs.Say.{going_said}
use Rattle.timing.specs.Promises.{Ramped}
use Rattle.timing.specs.declared.ramps.Ramp.{Ramp}
use Rattle.timing.proofs.Carrying.{whole_same, whole-carried, rows-many, form-numbers, taken-nothing}
use Rattle.timing.proofs.Over.{rows-go, rows_stay}
use Rattle.rows.proofs.Faults.{not_accepted}
use Rattle.rules.specs.Rules.{carried_under}
use Rattle.rules.specs.Promises.{TimingLeft, CarryLeft}

-- Two tests, one behind the other: where one refuses, and where both pass

refused-pair : {A : Type 0} (w f : Bool) (a b n : ℕ) (refuse : ℕ → A) (x : A) → n ≡ cond w (cond f accepted b) a → (n ≡ accepted → ⊥) → cond w (cond f x (refuse b)) (refuse a) ≡ refuse n
refused-pair true true a b n refuse x e some = absurd (some e)
refused-pair true false a b n refuse x e some = ap refuse (sym e)
refused-pair false f a b n refuse x e some = ap refuse (sym e)

passed-pair : (w f : Bool) (a b : ℕ) → (a ≡ accepted → ⊥) → (b ≡ accepted → ⊥) → accepted ≡ cond w (cond f accepted b) a → (w ≡ true) × (f ≡ true)
passed-pair true true a b k l e = (refl, refl)
passed-pair true false a b k l e = absurd (l (sym e))
passed-pair false f a b k l e = absurd (k (sym e))

-- counts and room passed, or room and form
pub passed-counts : (w f : Bool) → accepted ≡ cond w (cond f accepted room) query → (w ≡ true) × (f ≡ true)
passed-counts w f e = passed-pair w f _ _ (λ z. absurd (omega arith)) (λ z. absurd (omega arith)) e

pub passed-form : (w f : Bool) → accepted ≡ cond w (cond f accepted form) room → (w ≡ true) × (f ≡ true)
passed-form w f e = passed-pair w f _ _ (λ z. absurd (omega arith)) (λ z. absurd (omega arith)) e

-- The tests of a call by rule, in their order

module _ {A : Type 0} (within : Bool) (rm fm : Rule → Bool) (refuse : ℕ → A) (go : Rule → A) (n : ℕ) where
  abbrev answer : A
  answer = tested (rule_of n) within rm fm refuse go

  pub no-rule : rule_of n ≡ paper.none → answer ≡ refuse unknown_rule
  unfolding tested
  no-rule e = rw e

  module _ {r : Rule} (e : rule_of n ≡ paper.some r) where
    -- a part of the room is tested with the counts
    pub no-frame : (part : Bool) → (part ≡ false → rm r ≡ false) → (k : ℕ) → k ≡ cond within (cond part accepted room) query → (k ≡ accepted → ⊥) → answer ≡ refuse k
    unfolding tested
    no-frame part off k h some = rw e (go-by within part off h)
      where
        go-by : (w p : Bool) → (p ≡ false → rm r ≡ false) → k ≡ cond w (cond p accepted room) query → cond w (cond (rm r) (cond (fm r) (go r) (refuse form)) (refuse room)) (refuse query) ≡ refuse k
        go-by true true o q = absurd (some q)
        go-by true false o q = rw (o refl) (ap refuse (sym q))
        go-by false p o q = ap refuse (sym q)

    pub no-room : within ≡ true → rm r ≡ false → answer ≡ refuse room
    unfolding tested
    no-room h k = rw (e, h, k)

    pub no-form : within ≡ true → (part : Bool) → rm r ≡ part → (k : ℕ) → k ≡ cond part (cond (fm r) accepted form) room → (k ≡ accepted → ⊥) → answer ≡ refuse k
    unfolding tested
    no-form h part i k q some = rw (e, h, i) (refused-pair part (fm r) room form k refuse (go r) q some)

    pub all-passed : within ≡ true → rm r ≡ true → fm r ≡ true → answer ≡ go r
    unfolding tested
    all-passed h i j = rw (e, h, i, j)

-- An answer that is refused where the state is as it was

pub timing-refused : {a : TimingAnswer} {r : Result (Unit {0}) Fault} {s : List ℕ} (f : Fault) → IsErrAnd r (λ y. y ≡ f) → a ≡ record { number = fault_number f; going = going_in s } → TimingLeft a r s
timing-refused {a} {r} {s} f e h = let p = err_from_is_err_and r e in rw (p.1, p.2, h) (record { number = refl; state = refl })

pub carry-refused : {a : CarryAnswer} {r : Result (Unit {0}) Fault} {s : List ℕ} {l : List ℤ} (f : Fault) → IsErrAnd r (λ y. y ≡ f) → a ≡ record { number = fault_number f; going = going_in s; carried = l } → CarryLeft a r s l
carry-refused {a} {r} {s} {l} f e h = let p = err_from_is_err_and r e in rw (p.1, p.2, h) (record { number = refl; state = refl; carried = refl })

pub ramp-refused : {a : RampAnswer} {r : Result Ramp Fault} (f : Fault) → IsErrAnd r (λ y. y ≡ f) → a ≡ no_ramp (fault_number f) → Ramped a r
ramp-refused {a} {r} f e h = let p = err_from_is_err_and r e in rw (p.1, p.2, h) (record { says = refl; chosen = sym (ne_eqb _ _ (not_accepted f)); rounded = tt })

-- The ramp at a sample

pub ramp-under : (r : Rule) (ts : List Timing) (g : Going) (s : ℕ) → ramp_under rule2 ts (carried_under r g) s ≡ ramp_under r ts g s
unfolding ramp_under choice_by
ramp-under rule1 ts g s = rw (le-ltb (0 + s) 0 (omega arith))
ramp-under rule2 ts g s = whole_same (λ x. ramp_under rule2 ts x s) g (λ e. rw (e, le-ltb (g.elapsed + s) 0 (omega arith), le-ltb (0 + s) 0 (omega arith)))

pub sample-refused : (b : Bool) (s : ℕ) (f : Fault) → Err f ≡ cond b (Ok s) (Err Query) → (b ≡ false) × (fault_number f ≡ query)
sample-refused true s f e = absurd (cc)
sample-refused false s f e = let k : f ≡ Query = cc in (refl, rw k)

pub sample-passed : (b : Bool) (s t : ℕ) → Ok t ≡ cond b (Ok s) (Err Query) → (b ≡ true) × (t ≡ s)
sample-passed true s t e = (refl, cc)
sample-passed false s t e = absurd (cc)

pub going-passed : (f : Bool) → accepted ≡ cond f accepted form → f ≡ true
going-passed true e = refl
going-passed false e = absurd (omega arith)

pub carry-as : {a b : CarryAnswer} {r : Result (Unit {0}) Fault} {s : List ℕ} {l : List ℤ} → a ≡ b → CarryLeft b r s l → CarryLeft a r s l
carry-as e h = rw e h

pub ramp-as : {a b : RampAnswer} {r : Result Ramp Fault} → a ≡ b → Ramped b r → Ramped a r
ramp-as e h = rw e h

-- By rule: what is taken up, what remains of it, what goes on, and what is left of the rows

pub taken-under : (r : Rule) (g : Going) (l : List ℤ) (rows : List Row) → going_of (taken_up rule2 (carried_of (carried_under r g) l) rows) ≡ going_of (taken_up r (carried_of g l) rows)
unfolding taken_up nothing
taken-under rule1 g l rows = sym (taken-nothing dropped l rows refl)
taken-under rule2 g l rows = ap (λ (c : Carried). going_of (taken_up rule2 c rows)) (whole-carried g l)

pub tested-under : (r : Rule) (g : Going) (l : List ℤ) (ts : List Timing) → let u = carried_under r g in timing_by r (u.duration - u.elapsed) ts ≡ timing_by r (remains (carried_of g l)) ts
unfolding timing_by
tested-under rule1 g l ts = refl
tested-under rule2 g l ts = ap (λ (x : Going). timing_by rule2 (x.duration - x.elapsed) ts) (sym (rows-many g l))

pub on-under : (r : Rule) (g : Going) (l : List ℤ) (rows : List Row) (ts : List Timing) → carried_by r (carried_of (carried_under r g) l) rows ts ≡ carried_by r (carried_of g l) rows ts
unfolding carried_by
on-under rule1 g l rows ts = refl
on-under rule2 g l rows ts = ap (λ (c : Carried). carried_by rule2 c rows ts) (whole-carried g l)

pub go-under : (r : Rule) (c : Carried) (rows : List Row) (ts : List Timing) → (length ts ≡ 0 → ⊥) → ((carried_by r c rows ts).duration ≡ 0 → ⊥) → (carried_by r c rows ts).rows ≡ rows
unfolding carried_by nothing
go-under rule1 c rows ts s d = absurd (d refl)
go-under rule2 c rows ts s d = rows-go c rows ts s d

pub room-under : (r : Rule) (l : List ℤ) (c : Carried) (rows : List Row) (ts : List Timing) → carried_room l r ≡ true → ((carried_by r c rows ts).duration ≡ 0 → ⊥) → start_length ≤ length l
unfolding carried_by nothing carried_room
room-under rule1 l c rows ts e d = absurd (d refl)
room-under rule2 l c rows ts e d = leb-true _ _ e

pub length-timings : (n : ℕ) (l : List ℕ) → length (timings_of n l) ≡ n
unfolding timings_of
length-timings zero l = refl
length-timings (suc n) l = ap (λ (k : ℕ). suc k) (length-timings n (drop 2 l))

pub stay-under : (r : Rule) (g : Going) (l : List ℤ) → carried_form g l r ≡ true → carried_room l r ≡ true → (ts : List Timing) (rows : List Row) (m : ℕ) → timing_by r m ts ≡ accepted
    → let c = carried_by r (carried_of g l) rows ts in (length ts ≡ 0) ⊎ (c.duration ≡ 0) → over (rows_numbers c.rows) l ≡ l
unfolding carried_by nothing carried_room rows_numbers
stay-under rule1 g l f e ts rows m p h = refl
stay-under rule2 g l f e ts rows m p h = rows_stay g l (form-numbers g l f) (leb-true _ _ e) ts rows m p h

-- The test of the timings refuses, or passes: x is carried, and y is taken up of it

module _ (r : Rule) (ts : List Timing) (g : Going) (l : List ℤ) (rows : List Row) {x y : Going} (read : x ≡ carried_under r g) (taken : y ≡ going_of (taken_up rule2 (carried_of x l) rows)) where
  abbrev up : Carried
  up = taken_up r (carried_of g l) rows

  takes : y ≡ going_of up
  takes = taken ∙ ap (λ (z : Going). going_of (taken_up rule2 (carried_of z l) rows)) read ∙ taken-under r g l rows

  module _ {a : TimingAnswer} (is : a ≡ timing_under r ts (carried_of g l) rows) where
    answers : {n : ℕ} → n ≡ timing_by r (y.duration - y.elapsed) ts → a ≡ timed n up
    unfolding timing_under
    answers e = is ∙ ap (λ n. timed n up) (sym (e ∙ ap (λ (z : Going). timing_by r (z.duration - z.elapsed) ts) takes))

    pub timing-fails : (f : Fault) {q : Result (Unit {0}) Fault} → IsErrAnd q (λ e. e ≡ f) → fault_number f ≡ timing_by r (y.duration - y.elapsed) ts → {s : List ℕ} → going_in s ≡ dropped → TimingLeft a q s
    unfolding timed
    timing-fails f {q} e t k =
        let p = err_from_is_err_and q e in
        rw (p.1, p.2, answers t, ne_eqb (fault_number f) accepted (not_accepted f)) (record { number = refl; state = k })

    pub timing-passes : accepted ≡ timing_by r (y.duration - y.elapsed) ts → {s : List ℕ} → going_in s ≡ y → TimingLeft a (Ok tt) s
    unfolding timed
    timing-passes t k = rw (answers t) (record { number = refl; state = k ∙ takes })

-- The same of what goes over: y is what goes on

-- a ramp that goes on is not over, and nothing has no duration
pub some-runs : (o : Option code.Going) → is_some o ≡ true → (going_said o).duration ≡ 0 → ⊥
some-runs None h e = absurd (false≢true h)
some-runs (Some x) h e = let k : 0 < x.duration = x.lasts in omega arith

pub none-ends : (o : Option code.Going) → is_some o ≡ false → (going_said o).duration ≡ 0
none-ends None h = refl
none-ends (Some x) h = absurd (true≢false h)

module _ (r : Rule) (ts : List Timing) (g : Going) (l : List ℤ) (rows : List Row) {x : Going} (read : x ≡ carried_under r g) where
  abbrev next : Carried
  next = carried_by r (carried_of g l) rows ts

  -- the test's number
  same-test : {n : ℕ} → n ≡ timing_by r (x.duration - x.elapsed) ts → n ≡ timing_by r (remains (carried_of g l)) ts
  same-test e = e ∙ ap (λ (z : Going). timing_by r (z.duration - z.elapsed) ts) read ∙ tested-under r g l ts

  pub goes-on : {y : Going} → y ≡ going_of (carried_by r (carried_of x l) rows ts) → y ≡ going_of next
  goes-on e = e ∙ ap (λ (z : Going). going_of (carried_by r (carried_of z l) rows ts)) read ∙ ap going_of (on-under r g l rows ts)

  -- a ramp goes on, or none does
  module _ (o : Option code.Going) (on : going_said o ≡ going_of (carried_by r (carried_of x l) rows ts)) where
    pub lasts : is_some o ≡ true → next.duration ≡ 0 → ⊥
    lasts h z = some-runs o h (ap (λ (k : Going). k.duration) (goes-on on) ∙ z)

    pub ends : is_some o ≡ false → next.duration ≡ 0
    ends h = sym (ap (λ (k : Going). k.duration) (goes-on on)) ∙ none-ends o h

  module _ {a : CarryAnswer} (is : a ≡ carry_under r ts (carried_of g l) rows l) where
    pub carry-fails : (f : Fault) {q : Result (Unit {0}) Fault} → IsErrAnd q (λ e. e ≡ f) → fault_number f ≡ timing_by r (x.duration - x.elapsed) ts → {s : List ℕ} → going_in s ≡ dropped → CarryLeft a q s l
    unfolding carry_under
    carry-fails f {q} e t k =
        let p = err_from_is_err_and q e in
        rw (p.1, p.2, is, ← same-test t, ne_eqb (fault_number f) accepted (not_accepted f)) (record { number = refl; state = k; carried = refl })

    pub carry-passes : accepted ≡ timing_by r (x.duration - x.elapsed) ts → {y : Going} → y ≡ going_of (carried_by r (carried_of x l) rows ts)
        → {s : List ℕ} → going_in s ≡ y → {m : List ℤ} → m ≡ over (rows_numbers next.rows) l → CarryLeft a (Ok tt) s m
    unfolding carry_under
    carry-passes t o k h = rw (is, ← same-test t) (record { number = refl; state = k ∙ goes-on o; carried = h })
