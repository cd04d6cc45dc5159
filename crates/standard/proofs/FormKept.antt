-- A payload makes of retained rows in form start rows to be shown, and block rows and retained rows in form.
use mathlib.Core.Path.{◌≡◌, refl}
use mathlib.Core.Bool.{true}
use mathlib.Core.List.{List, [], ◌∷◌, map}
use lib.IntN.{ℤ, pos}
use lib.ListN.{get_or, drop}
use Rattle.bits.proofs.Always.{All}
use Rattle.standard.specs.Tree.{Kind, kind_code, Update, inactive, active, Object, Tree, kinds_of}
use Rattle.standard.specs.Rows.{Row, State, is}
use Rattle.standard.specs.Meaning.{updated, object_rows, all_rows, gain_of, default_row, held_row, start_rows, frame_rows, last_rows}
use Rattle.standard.specs.Tables.{gain_form, active_form, fixed_form, row_form, all_form}
use Rattle.standard.proofs.Small.{and_left, and_right, both, number_is_lem, Pairs}
use Rattle.standard.proofs.Starts.{start-each}
use Rattle.standard.proofs.RowsOfFrame.{last-rows-have}
use Rattle.standard.specs.Marks.{settled}
use Rattle.standard.proofs.MarkLaws.{settled-form, doubted-form}
use Rattle.standard.proofs.FirstUpdates.{TreeForm}
use Rattle.standard.proofs.Payload.{InTree}
use Rattle.standard.proofs.Words.{UpdateOk, WordsOk}
use Rattle.standard.proofs.Forms.{RowOk, ShownOk, shown-facts, facts-shown, row-shown, row-after, zero-form, default-form, code-form, default-fixed}

-- Start rows

pub record StartOk (k : Kind) (r : Row) : Type 0 where
  pub kind : r.kind ≡ pos (kind_code k)
  pub shown : ShownOk r

default_ok : (d : ℤ) (k : Kind) → StartOk k (default_row d k)
unfolding default_row active_form fixed_form
default_ok d k =
    record {
      kind = refl;
      shown = facts-shown (default_row d k) (record {
        kind = code-form k;
        active = refl;
        gain = zero-form;
        priority = refl;
        picture = default-form;
        mark = doubted-form d settled settled-form;
        silent = refl;
        fixed = default-fixed k;
      });
    }

pub held-shown : (d : ℤ) (r : Row) → RowOk r → ShownOk (held_row d r)
unfolding held_row active_form fixed_form
held-shown d r h =
    let f = shown-facts r (row-shown r h) in
    facts-shown (held_row d r) (record {
      kind = f.kind;
      active = f.active;
      gain = f.gain;
      priority = f.priority;
      picture = f.picture;
      mark = doubted-form d r.mark f.mark;
      silent = f.silent;
      fixed = f.fixed;
    })

held-ok : (d : ℤ) (k : Kind) (r : Row) → is (kind_code k) r.kind ≡ true → RowOk r → StartOk k (held_row d r)
unfolding held_row
held-ok d k r e h = record { kind = number_is_lem (kind_code k) r.kind e; shown = held-shown d r h }

pub starts-form : (st : State) (ks : List Kind) → All RowOk st.rows → Pairs StartOk ks (start_rows st ks)
starts-form st ks h = start-each RowOk StartOk st ks (default_ok st.doubt) (held-ok st.doubt) h

-- Block rows

abbrev GainIn : ℤ → Type 0
GainIn g = gain_form g ≡ true

head_in : (gs : List ℤ) → All GainIn gs → GainIn (get_or gs 0 (pos 0))
head_in [] h = zero-form
head_in (g ∷ gs) h = h.0

tail-in : (gs : List ℤ) → All GainIn gs → All GainIn (drop 1 gs)
tail-in [] h = tt
tail-in (g ∷ gs) h = h.1

gains-in : (rs : List Row) → All RowOk rs → All GainIn (map gain_of rs)
gains-in [] h = tt
gains-in (r ∷ rs) h = ((shown-facts r (row-shown r h.0)).gain, gains-in rs h.1)

pub update-kind : (k : Kind) (g : ℤ) (u : Update) (r : Row) → (updated k g u r).kind ≡ pos (kind_code k)
unfolding updated
update-kind k g (inactive at) r = refl
update-kind k g (active b n) r = refl

object-form : (k : Kind) (us : List Update) (gs : List ℤ) (r : Row) → StartOk k r → All GainIn gs → All UpdateOk us → All RowOk (object_rows k r us gs)
unfolding object_rows
object-form k [] gs r s hg hu = tt
object-form k (u ∷ us) gs r s hg hu =
    let g = get_or gs 0 (pos 0) in
    let h = row-after k g u r s.kind (head_in gs hg) hu.0 s.shown in
    (h, object-form k us (drop 1 gs) (updated k g u r) (record { kind = update-kind k g u r; shown = row-shown _ h }) (tail-in gs hg) hu.1)

all-rows-form : (os : List Object) (rs : List Row) (gs : List ℤ) → All GainIn gs → All WordsOk os → Pairs StartOk (map (λ (o : Object). o.kind) os) rs → All (All RowOk) (all_rows os rs gs)
unfolding all_rows
all-rows-form [] rs gs hg hw h = tt
all-rows-form (o ∷ os) [] gs hg hw h = absurd h
all-rows-form (o ∷ os) (r ∷ rs) gs hg hw h =
    let rows = object_rows o.kind r o.updates gs in
    let f = object-form o.kind o.updates gs r h.0 hg hw.0 in
    (f, all-rows-form os rs (map gain_of rows) (gains-in rows f) hw.1 h.1)

pub frame-form : (st : State) (t : Tree) → InTree WordsOk t → All RowOk st.rows → All (All RowOk) (frame_rows st t)
unfolding frame_rows
frame-form st t w h = all-rows-form t.objects (start_rows st (kinds_of t)) [] tt w (starts-form st (kinds_of t) h)

-- What is retained

pub last-rows-form : (st : State) (t : Tree) → TreeForm t → InTree WordsOk t → All RowOk st.rows → All RowOk (last_rows st t)
last-rows-form st t f w h = last-rows-have RowOk st t f (frame-form st t w h)

-- The form test of a list of rows

pub all-form : (rs : List Row) → All RowOk rs → all_form rs ≡ true
unfolding all_form
all-form [] h = refl
all-form (r ∷ rs) h = both (row_form r) (all_form rs) h.0 (all-form rs h.1)

pub form-all : (rs : List Row) → all_form rs ≡ true → All RowOk rs
unfolding all_form
form-all [] h = tt
form-all (r ∷ rs) h = (and_left (row_form r) _ h, form-all rs (and_right (row_form r) _ h))
