-- The mark rules of demand 3 on states: nothing is unsettled without a gap, and active first blocks settle a payload.
use mathlib.Core.Path.{◌≡◌, refl, ◌∙◌, ap}
use mathlib.Core.Bool.{Bool, true, false, cond, not, ◌&&◌, ◌||◌, false≢true}
use mathlib.Core.List.{List, [], ◌∷◌, ◌++◌, map}
use lib.IntN.{ℤ, pos}
use lib.ListN.{get_or, drop}
use Rattle.bits.specs.Parsed.{Parsed, got, refused}
use Rattle.bits.proofs.Always.{Ok, All}
use Rattle.standard.specs.Tree.{Kind, lfe, bed, isf, dynamic, kind_number, is_dynamic, Render, kept, Update, inactive, active, Object, Tree, kinds_of}
use Rattle.standard.specs.Rows.{Row, State, fresh, no_row, is}
use Rattle.standard.specs.Marks.{settled, new_mark, is_some, row_mark}
use Rattle.standard.specs.Meaning.{default_row, held_row, start_rows, updated, object_rows, all_rows, gain_of, frame_rows, last_rows, retain, retain_if, taken, decoded, unsettled_count}
use Rattle.standard.specs.Tables.{in_block}
use Rattle.standard.specs.Events.{Event, starts, heard, missed, warns, warns_both, run, second_gets, state_after, second}
use Rattle.standard.proofs.Small.{and_right, nought-differs, Pairs}
use Rattle.standard.proofs.Starts.{start-each}
use Rattle.standard.proofs.RowsOfFrame.{last-rows-have}
use Rattle.standard.proofs.MarkLaws.{settles_all, mark-stays, mark-all}
use Rattle.standard.proofs.FirstUpdates.{first_form, FirstIn, ObjectForm, TreeForm, first_block}

abbrev pub Marked : Row → Type 0
Marked r = r.mark ≡ settled

-- a settled row stays settled
row_stays : (d : Bool) (r : Render) (m : ℤ) → m ≡ settled → cond d (new_mark r m) settled ≡ settled
row_stays true r m h = ap (new_mark r) h ∙ mark-stays r
row_stays false r m h = refl

update-marked : (k : Kind) (g : ℤ) (u : Update) (r : Row) → Marked r → Marked (updated k g u r)
unfolding updated row_mark
update-marked k g (inactive at) r h = row_stays (is_dynamic k) kept r.mark h
update-marked k g (active b n) r h = row_stays (is_dynamic k) n r.mark h

rows-marked : (k : Kind) (us : List Update) (gs : List ℤ) (r : Row) → Marked r → All Marked (object_rows k r us gs)
unfolding object_rows
rows-marked k [] gs r h = tt
rows-marked k (u ∷ us) gs r h =
    let g = get_or gs 0 (pos 0) in
    let h' = update-marked k g u r h in
    (h', rows-marked k us (drop 1 gs) (updated k g u r) h')

-- Without a gap

abbrev pub AllMarked : List Kind → List Row → Type 0
AllMarked ks rs = Pairs (λ k. Marked) ks rs

frame-marked : (os : List Object) (rs : List Row) (gs : List ℤ) → AllMarked (map (λ (o : Object). o.kind) os) rs → All (All Marked) (all_rows os rs gs)
unfolding all_rows
frame-marked [] rs gs h = tt
frame-marked (o ∷ os) [] gs h = absurd h
frame-marked (o ∷ os) (r ∷ rs) gs h =
    (rows-marked o.kind o.updates gs r h.0, frame-marked os rs (map gain_of (object_rows o.kind r o.updates gs)) h.1)

pub record Settled (st : State) : Type 0 where
  pub calm : is 0 st.doubt ≡ true
  pub rows : All Marked st.rows

pub starts-marked : (st : State) (ks : List Kind) → Settled st → AllMarked ks (start_rows st ks)
unfolding default_row held_row
starts-marked st ks h = start-each Marked (λ k. Marked) st ks (λ k. rw h.calm) (λ k r e m. rw h.calm m) h.rows

pub blocks-marked : (st : State) (t : Tree) → Settled st → All (All Marked) (frame_rows st t)
unfolding frame_rows
blocks-marked st t h = frame-marked t.objects (start_rows st (kinds_of t)) [] (starts-marked st (kinds_of t) h)

none-unsettled : (rs : List Row) → All Marked rs → unsettled_count rs ≡ 0
unfolding unsettled_count
none-unsettled [] h = refl
none-unsettled (r ∷ rs) h = rw (h.0, none-unsettled rs h.1)

-- settled blocks leave nothing unsettled to count
pub count-settled : (st : State) (t : Tree) → TreeForm t → All (All Marked) (frame_rows st t) → unsettled_count (last_rows st t) ≡ 0
count-settled st t f h = none-unsettled (last_rows st t) (last-rows-have Marked st t f h)

heard-settled : (st : State) (p : Parsed Tree) → Ok TreeForm p → Settled st → Settled (retain_if st p)
unfolding retain_if retain
heard-settled st (got t q) f h = record { calm = refl; rows = last-rows-have Marked st t f (blocks-marked st t h) }
heard-settled st (refused x) f h = h

fresh-settled : Settled fresh
unfolding fresh
fresh-settled = record { calm = refl; rows = tt }

-- no gap notice and no reset to the second
abbrev pub no_gap : List Event → Bool
no_gap [] = true
no_gap (starts ∷ es) = no_gap es
no_gap (heard s ∷ es) = no_gap es
no_gap (missed s ∷ es) = no_gap es
no_gap (warns n ∷ es) = false
no_gap (warns_both n ∷ es) = false

run_settled : (st : State) (es : List Event) → Settled st → no_gap es ≡ true → Settled (run second st es)
unfolding run second_gets state_after second decoded
run_settled st [] h e = h
run_settled st (starts ∷ es) h e = run_settled fresh es fresh-settled e
run_settled st (heard s ∷ es) h e = run_settled (retain_if st (taken s)) es (heard-settled st (taken s) (first_block s) h) e
run_settled st (missed s ∷ es) h e = run_settled st es h e
run_settled st (warns n ∷ es) h e = absurd (false≢true e)
run_settled st (warns_both n ∷ es) h e = absurd (false≢true e)

pub no_gap_lem : (es : List Event) → no_gap es ≡ true → Settled (run second fresh es)
no_gap_lem es e = run_settled fresh es fresh-settled e

run-start : (st : State) (es es' : List Event) → run second st (es ++ starts ∷ es') ≡ run second fresh es'
unfolding run second_gets state_after second
run-start st [] es' = refl
run-start st (e ∷ es) es' = run-start (second st e) es es'

-- Whatever came before the last programme start.
pub no-gap-since : (es es' : List Event) → no_gap es' ≡ true → Settled (run second fresh (es ++ starts ∷ es'))
no-gap-since es es' e = rw (run-start fresh es es') (no_gap_lem es' e)

-- A payload whose Dynamic objects are active in its first block

abbrev is_active : Update → Bool
is_active (inactive at) = false
is_active (active b r) = true

abbrev active_first : Kind → List Update → Bool
active_first k [] = false
active_first k (u ∷ us) = not (is_dynamic k) || is_active u

abbrev pub AllActive : Tree → Type 0
AllActive t = All (λ (o : Object). active_first o.kind o.updates ≡ true) t.objects

first-marked : (k : Kind) (g : ℤ) (u : Update) (r : Row) → first_form k u ≡ true → (not (is_dynamic k) || is_active u) ≡ true → Marked (updated k g u r)
unfolding updated row_mark
first-marked k g (inactive at) r f h = fixed-mark (is_dynamic k) r.mark h
  where
    fixed-mark : (d : Bool) (m : ℤ) → (not d || false) ≡ true → cond d (new_mark kept m) settled ≡ settled
    fixed-mark true m h = absurd (false≢true h)
    fixed-mark false m h = refl
first-marked k g (active b n) r f h = settle-mark (is_dynamic k) r.mark (and_right (is_some b.gain && is_some b.priority) _ f)
  where
    settle-mark : (d : Bool) (m : ℤ) → (not d || settles_all n) ≡ true → cond d (new_mark n m) settled ≡ settled
    settle-mark true m h = mark-all n m h
    settle-mark false m h = refl

object-settles : (k : Kind) (us : List Update) (gs : List ℤ) (r : Row) → FirstIn k us → active_first k us ≡ true → All Marked (object_rows k r us gs)
unfolding object_rows
object-settles k [] gs r f h = absurd f
object-settles k (u ∷ us) gs r f h =
    let g = get_or gs 0 (pos 0) in
    let h' = first-marked k g u r f h in
    (h', rows-marked k us (drop 1 gs) (updated k g u r) h')

frame-settles : (os : List Object) (rs : List Row) (gs : List ℤ) → All ObjectForm os → All (λ (o : Object). active_first o.kind o.updates ≡ true) os
    → All (All Marked) (all_rows os rs gs)
unfolding all_rows
frame-settles [] rs gs f h = tt
frame-settles (o ∷ os) rs gs f h =
    (object-settles o.kind o.updates gs (get_or rs 0 no_row) f.0 h.0, frame-settles os (drop 1 rs) (map gain_of (object_rows o.kind (get_or rs 0 no_row) o.updates gs)) f.1 h.1)

-- Whatever was retained.
pub all-active-settles : (st : State) (t : Tree) → TreeForm t → AllActive t → All (All Marked) (frame_rows st t)
unfolding frame_rows
all-active-settles st t f h = frame-settles t.objects (start_rows st (kinds_of t)) [] f h

-- The same, read off the rows of the first block

-- a Dynamic object is active
abbrev pub ActiveRow : Row → Type 0
ActiveRow r = r.kind ≡ kind_number dynamic → r.active ≡ pos 1

row-active : (k : Kind) (g : ℤ) (u : Update) (r : Row) → ActiveRow (updated k g u r) → (not (is_dynamic k) || is_active u) ≡ true
unfolding updated
row-active lfe g u r h = refl
row-active bed g u r h = refl
row-active isf g u r h = refl
row-active dynamic g (inactive at) r h = absurd (nought-differs (h refl))
row-active dynamic g (active b n) r h = refl

rows-active : (os : List Object) (rs : List Row) (gs : List ℤ) → All ObjectForm os → All ActiveRow (in_block 0 (all_rows os rs gs))
    → All (λ (o : Object). active_first o.kind o.updates ≡ true) os
unfolding all_rows object_rows
rows-active [] rs gs f h = tt
rows-active (o ∷ os) rs gs f h =
    (said o.kind o.updates f.0 h.0, rows-active os (drop 1 rs) (map gain_of (object_rows o.kind (get_or rs 0 no_row) o.updates gs)) f.1 h.1)
  where
    said : (k : Kind) (us : List Update) → FirstIn k us → ActiveRow (get_or (object_rows k (get_or rs 0 no_row) us gs) 0 no_row) → active_first k us ≡ true
    said k [] f h = absurd f
    said k (u ∷ us) f h = row-active k (get_or gs 0 (pos 0)) u (get_or rs 0 no_row) h

pub active-rows-settle : (st : State) (t : Tree) → TreeForm t → All ActiveRow (in_block 0 (frame_rows st t)) → All (All Marked) (frame_rows st t)
unfolding frame_rows
active-rows-settle st t f h = all-active-settles st t f (rows-active t.objects (start_rows st (kinds_of t)) [] f h)
