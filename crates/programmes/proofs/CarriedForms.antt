-- Request Q-7, theorem 4: what is carried in a programme is in form, so that 6 never arises.
use Prim.Native.Nat.{ℕ, zero, suc, ◌+◌, ◌-◌, ◌≤◌, ◌<◌}
use mathlib.Core.Path.{◌≡◌, refl}
use mathlib.Core.Logic.{◌⊎◌, inl, inr}
use mathlib.Core.Bool.{true, ◌&&◌, ◌||◌, or-true}
use mathlib.Core.List.{List, [], ◌∷◌, map}
use mathlib.Core.Option.{Option, none, some}
use native.Mathlib.Omega.{arith}
use borrow.Author.Tests.{ltb-true, lt-ltb, le-leb, eq-eqb}
use lib.Dec.{ltb, leb, eqb}
use lib.IntN.{ℤ}
use lib.ListN.{length, length-map}
use Rattle.bits.proofs.Always.{All, all-to}
use Rattle.standard.specs.Numbers.{object_limit, frame_length, accepted}
use Rattle.standard.specs.Tree.{Timing, Object, Tree, kinds_of}
use Rattle.standard.specs.Rows.{Row, State, fresh}
use Rattle.standard.specs.Meaning.{held_row, start_rows, frame_rows, retain, gapped}
use Rattle.standard.specs.Tables.{in_block, rows_of, shown_form, all_shown}
use Rattle.standard.specs.Timing.{end_of}
use Rattle.standard.specs.Carried.{Rule, rule1, rule2, Carried, nothing, remains, kinds_agree, taken_up, timing_by, over_edge, onward, last_timing, carried_by}
use Rattle.standard.specs.CarriedCalls.{dropped, going_of, going_form, carried_form, CarryAnswer, carry_under}
use Rattle.standard.specs.Events.{run}
use Rattle.standard.proofs.Small.{both}
use Rattle.standard.proofs.Starts.{pairs-length}
use Rattle.standard.proofs.RowsOfFrame.{last-rows-length}
use Rattle.standard.proofs.Forms.{RowOk, ShownOk, row-shown}
use Rattle.standard.proofs.FormKept.{held-shown, starts-form, frame-form, last-rows-form}
use Rattle.standard.proofs.Laid.{rows_back}
use Rattle.standard.proofs.ByBlock.{Reach, block-all}
use Rattle.standard.proofs.ReadBack.{frame-full}
use Rattle.standard.proofs.Endings.{Fit}
use Rattle.standard.proofs.ShownRows.{starts-shown}
use Rattle.standard.proofs.Fractions.{U16, InU16}
use Rattle.programmes.specs.Programmes.{Event, frame, gaps, resets, starts, Playing, said, next_frame, step, silent}
use Rattle.programmes.specs.Programmes.{Frame, frame_of, retained_by, numbered, before_last, verdict, behind}
use Rattle.programmes.proofs.Branches.{either}
use Rattle.programmes.proofs.Heard.{FitIf, said-fit}
use Rattle.programmes.proofs.FrameKinds.{OfKind, numbered-kinds}

-- What is carried, in form

pub record CarriedOk (c : Carried) : Type 0 where
  pub shown : All ShownOk c.rows
  pub few : length c.rows ≤ object_limit
  pub running : (c.duration ≡ 0) ⊎ (c.elapsed < c.duration)

pub nothing_ok : CarriedOk nothing
unfolding nothing object_limit
nothing_ok = record { shown = tt; few = omega arith; running = inl refl }

pub taken-ok : (r : Rule) (c : Carried) (rows : List Row) → CarriedOk c → CarriedOk (taken_up r c rows)
unfolding taken_up
taken-ok rule1 c rows h = nothing_ok
taken-ok rule2 c rows h = either CarriedOk (kinds_agree c.rows rows) (λ e. h) (λ e. nothing_ok)

onward-ok : (c : Carried) → CarriedOk c → CarriedOk (onward c)
unfolding onward
onward-ok c h =
    either CarriedOk (ltb (c.elapsed + frame_length) c.duration) (λ e. record { shown = h.shown; few = h.few; running = inr (ltb-true _ _ e) }) (λ e. nothing_ok)

edge-ok : (rows : List Row) (t : Timing) → All ShownOk rows → length rows ≤ object_limit → CarriedOk (over_edge rows t)
unfolding over_edge
edge-ok rows t h l =
    either CarriedOk (ltb frame_length (end_of t)) (λ e. record { shown = h; few = l; running = some_left t.ramp refl (ltb-true _ _ e) }) (λ e. nothing_ok)
  where
    some_left : (d : ℕ) → d ≡ t.ramp → frame_length < end_of t → (d ≡ 0) ⊎ (frame_length - t.start < d)
    some_left zero e k = inl refl
    some_left (suc d) e k = inr (omega arith)

pub carried-ok : (r : Rule) (c : Carried) (rows : List Row) (ts : List Timing) → CarriedOk c → All ShownOk rows → length rows ≤ object_limit
    → CarriedOk (carried_by r c rows ts)
unfolding carried_by
carried-ok rule1 c rows ts h k l = nothing_ok
carried-ok rule2 c rows [] h k l = onward-ok c h
carried-ok rule2 c rows (t ∷ ts) h k l = edge-ok rows (last_timing t ts) k l

-- u16 numbers stay so: what is carried is never longer than a ramp that was written

abbrev Short : Carried → Type 0
Short c = U16 c.duration

u16-nothing : Short nothing
unfolding nothing
u16-nothing = omega arith

u16-last : (t : Timing) (ts : List Timing) → All InU16 (t ∷ ts) → U16 (last_timing t ts).ramp
unfolding last_timing
u16-last t [] h = h.0.1
u16-last t (u ∷ ts) h = u16-last u ts h.1

pub u16-carried : (r : Rule) (c : Carried) (rows : List Row) (ts : List Timing) → U16 c.duration → All InU16 ts → U16 (carried_by r c rows ts).duration
unfolding carried_by onward over_edge
u16-carried rule1 c rows ts h k = u16-nothing
u16-carried rule2 c rows [] h k = either Short (ltb (c.elapsed + frame_length) c.duration) (λ e. h) (λ e. u16-nothing)
u16-carried rule2 c rows (t ∷ ts) h k = either Short (ltb frame_length (end_of (last_timing t ts))) (λ e. u16-last t ts k) (λ e. u16-nothing)

-- The rows of a frame

module _ (st : State) (t : Tree) (fits : Fit t) (rows : All RowOk st.rows) where
  numbered-shown : (n : ℕ) → n ≤ length t.timings → All ShownOk (numbered (frame_of st (some t)) n)
  unfolding numbered frame_of
  numbered-shown zero h = starts-shown (kinds_of t) (start_rows st (kinds_of t)) (starts-form st (kinds_of t) rows)
  numbered-shown (suc b) h =
      let rss = frame_rows st t in
      let long : All (Reach (suc b)) rss = all-to rss (λ (r : List Row) (e : length r ≡ length t.timings). omega arith) (frame-full st t fits.sized) in
      all-to (in_block b rss) row-shown (block-all RowOk b rss (frame-form st t fits.words rows) long)

  numbered-few : (n : ℕ) → n ≤ length t.timings → length (numbered (frame_of st (some t)) n) ≤ object_limit
  numbered-few n h =
      let e = pairs-length OfKind (kinds_of t) (numbered (frame_of st (some t)) n) (numbered-kinds st t fits.sized n h) in
      let k = length-map t.objects (λ (o : Object). o.kind) in
      let m = fits.sized.objects in
      omega arith

-- held rows may be shown, in doubt too
pub holds-shown : (d : ℤ) (rs : List Row) → All RowOk rs → All ShownOk (map (held_row d) rs)
holds-shown d [] h = tt
holds-shown d (r ∷ rs) h = (held-shown d r h.0, holds-shown d rs h.1)

-- Programmes

pub record Formed (p : Playing) : Type 0 where
  pub rows : All RowOk p.retained.rows
  pub few : length p.retained.rows ≤ object_limit
  pub carried : CarriedOk p.carried

behind-ok : (r : Rule) (c : Carried) (f : Frame) → CarriedOk c → All ShownOk (before_last f) → length (before_last f) ≤ object_limit → CarriedOk (behind r c f)
unfolding behind
behind-ok r c f h k l =
    either CarriedOk (eqb (verdict r c f) accepted)
    (λ e. carried-ok r (taken_up r c f.start) (before_last f) f.timings (taken-ok r c f.start h) k l) (λ e. nothing_ok)

-- the rows before the last block may be shown
before-shown : (st : State) (t : Option Tree) → FitIf t → All RowOk st.rows → All ShownOk (before_last (frame_of st t))
unfolding frame_of numbered
before-shown st none f h = holds-shown st.doubt st.rows h
before-shown st (some t) f h = numbered-shown st t f h (length t.timings - 1) (omega arith)

before-few : (st : State) (t : Option Tree) → FitIf t → All RowOk st.rows → length st.rows ≤ object_limit → length (before_last (frame_of st t)) ≤ object_limit
unfolding frame_of numbered
before-few st none f h l = rw (length-map st.rows (held_row st.doubt)) l
before-few st (some t) f h l = numbered-few st t f h (length t.timings - 1) (omega arith)

retained-rows : (st : State) (t : Option Tree) → FitIf t → All RowOk st.rows → All RowOk (retained_by st t).rows
unfolding retained_by retain
retained-rows st none f h = h
retained-rows st (some t) f h = last-rows-form st t f.first f.words h

retained-few : (st : State) (t : Option Tree) → FitIf t → length st.rows ≤ object_limit → length (retained_by st t).rows ≤ object_limit
unfolding retained_by retain
retained-few st none f h = h
retained-few st (some t) f h = let e = last-rows-length st t in let l = f.sized.objects in omega arith

pub step-formed : (p : Playing) (e : Event) → Formed p → Formed (step p e)
unfolding step gapped fresh object_limit
step-formed p (frame r s) h =
    let st = p.retained in
    let f = said-fit s in
    record {
      rows = retained-rows st (said s) f h.rows;
      few = retained-few st (said s) f h.few;
      carried = behind-ok r p.carried (next_frame p s) h.carried (before-shown st (said s) f h.rows) (before-few st (said s) f h.rows h.few);
    }
step-formed p gaps h = record { rows = h.rows; few = h.few; carried = nothing_ok }
step-formed p resets h = record { rows = tt; few = omega arith; carried = nothing_ok }
step-formed p starts h = record { rows = tt; few = omega arith; carried = nothing_ok }

pub formed : (p : Playing) (es : List Event) → Formed p → Formed (run step p es)
unfolding run
formed p [] h = h
formed p (e ∷ es) h = formed (step p e) es (step-formed p e h)

pub silent-formed : Formed silent
unfolding silent fresh object_limit
silent-formed = record { rows = tt; few = omega arith; carried = nothing_ok }

pub always-formed : (es : List Event) → Formed (run step silent es)
always-formed es = formed silent es silent-formed

-- On the calls: what they leave passes their own test 6

all_shown_lem : (rs : List Row) → All ShownOk rs → all_shown rs ≡ true
unfolding all_shown
all_shown_lem [] h = refl
all_shown_lem (r ∷ rs) h = both (shown_form r) (all_shown rs) h.0 (all_shown_lem rs h.1)

pub going-ok : (c : Carried) → CarriedOk c → going_form (going_of c) rule2 ≡ true
unfolding going_form
going-ok c h = go h.running
  where
    go : (c.duration ≡ 0) ⊎ (c.elapsed < c.duration) → (eqb c.duration 0 || (ltb c.elapsed c.duration && leb (length c.rows) object_limit)) ≡ true
    go (inl e) = rw (eq-eqb c.duration 0 e)
    go (inr l) = rw (lt-ltb c.elapsed c.duration l, le-leb (length c.rows) object_limit h.few, or-true)

-- its rows lie at the head of the table
pub lies_ok : (c : Carried) (l : List ℤ) → CarriedOk c → rows_of (length c.rows) l ≡ c.rows → carried_form (going_of c) l rule2 ≡ true
unfolding carried_form
lies_ok c l h e = rw (going-ok c h, e, all_shown_lem c.rows h.shown, or-true)

dropped-ok : (l : List ℤ) → carried_form dropped l rule2 ≡ true
unfolding carried_form going_form
dropped-ok l = refl

-- behind a frame: the rows before the last block are in form
pub carry-ok : (r : Rule) (ts : List Timing) (c : Carried) (rows : List Row) (l : List ℤ) → CarriedOk c → All ShownOk rows → length rows ≤ object_limit
    → let a = carry_under r ts c rows l in carried_form a.going a.carried rule2 ≡ true
unfolding carry_under
carry-ok r ts c rows l h k m =
    let x = carried_by r c rows ts in
    either (λ (a : CarryAnswer). carried_form a.going a.carried rule2 ≡ true) (eqb (timing_by r (remains c) ts) accepted)
    (λ e. lies_ok x _ (carried-ok r c rows ts h k m) (rows_back x.rows _)) (λ e. dropped-ok l)
