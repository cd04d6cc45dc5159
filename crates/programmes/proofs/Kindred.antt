-- In every programme the carried rows are of the retained kinds, so that a payload of other kinds drops the ramp.
use Prim.Native.Nat.{ℕ, suc, ◌+◌, ◌-◌, ◌<◌}
use mathlib.Core.Path.{◌≡◌, refl, sym, ◌∙◌, ap}
use mathlib.Core.Logic.{◌⊎◌, inl, inr}
use mathlib.Core.Bool.{true, false, false≢true}
use mathlib.Core.List.{List, [], ◌∷◌}
use mathlib.Core.Option.{Option, none, some}
use native.Mathlib.Omega.{arith}
use borrow.Author.Tests.{eq-eqb}
use lib.Dec.{ltb, eqb}
use lib.IntN.{pos}
use lib.ListN.{length}
use Rattle.standard.specs.Numbers.{frame_length, accepted}
use Rattle.standard.specs.Tree.{Kind, kind_code, Timing, Tree, kinds_of}
use Rattle.standard.specs.Rows.{Row, State, eqℤ, is}
use Rattle.standard.specs.Meaning.{same_kinds, start_rows, last_rows, retain}
use Rattle.standard.specs.Timing.{end_of}
use Rattle.standard.specs.Carried.{Rule, rule1, rule2, Carried, nothing, kinds_agree, taken_up, over_edge, onward, last_timing, carried_by}
use Rattle.standard.specs.Events.{run}
use Rattle.standard.proofs.Small.{and_left, and_right, both, eqℤ-true, Pairs}
use Rattle.standard.proofs.Counts.{Sized}
use Rattle.standard.proofs.Related.{start-kinds}
use Rattle.programmes.specs.Programmes.{Event, frame, gaps, resets, starts, Playing, said, frame_of, retained_by, numbered, before_last, verdict, behind, next_frame, step, silent}
use Rattle.programmes.proofs.Branches.{by-test, either}
use Rattle.programmes.proofs.Heard.{FitIf, said-fit}
use Rattle.programmes.proofs.FrameKinds.{OfKind, kinds-agree, numbered-kinds, last-numbered}
use Rattle.programmes.proofs.CarriedRamp.{nothing-taken}
use Rattle.programmes.proofs.Dropped.{kinds-taken}

agree_same : (ks : List Kind) (cs rs ds : List Row) → kinds_agree cs rs ≡ true → kinds_agree cs ds ≡ true → Pairs OfKind ks ds → same_kinds ks rs ≡ true
unfolding kinds_agree same_kinds
agree_same [] [] [] [] h k p = refl
agree_same [] [] [] (d ∷ ds) h k p = absurd p
agree_same [] [] (r ∷ rs) ds h k p = absurd (false≢true h)
agree_same [] (c ∷ cs) rs [] h k p = absurd (false≢true k)
agree_same [] (c ∷ cs) rs (d ∷ ds) h k p = absurd p
agree_same (q ∷ ks) cs rs [] h k p = absurd p
agree_same (q ∷ ks) [] rs (d ∷ ds) h k p = absurd (false≢true k)
agree_same (q ∷ ks) (c ∷ cs) [] (d ∷ ds) h k p = absurd (false≢true h)
agree_same (q ∷ ks) (c ∷ cs) (r ∷ rs) (d ∷ ds) h k p =
    let x = eqℤ-true c.kind r.kind (and_left _ (kinds_agree cs rs) h) in
    let y = eqℤ-true c.kind d.kind (and_left _ (kinds_agree cs ds) k) in
    let z : r.kind ≡ pos (kind_code q) = sym x ∙ y ∙ p.0 in
    both (is (kind_code q) r.kind) (same_kinds ks rs) (rw z (eq-eqb (kind_code q) (kind_code q) refl))
    (agree_same ks cs rs ds (and_right (eqℤ c.kind r.kind) _ h) (and_right (eqℤ c.kind d.kind) _ k) p.1)

-- What is carried is of the kinds of these rows

abbrev pub Kindred : List Row → Carried → Type 0
Kindred rows c = (c ≡ nothing) ⊎ (kinds_agree c.rows rows ≡ true)

module _ (rows : List Row) where
  taken-kindred : (r : Rule) (c : Carried) (start : List Row) → Kindred rows c → Kindred rows (taken_up r c start)
  unfolding taken_up
  taken-kindred rule1 c start h = inl refl
  taken-kindred rule2 c start h = either (Kindred rows) (kinds_agree c.rows start) (λ e. h) (λ e. inl refl)

  onward-kindred : (c : Carried) → Kindred rows c → Kindred rows (onward c)
  unfolding onward nothing frame_length
  onward-kindred c (inl e) = inl (ap onward e)
  onward-kindred c (inr h) = either (Kindred rows) (ltb (c.elapsed + frame_length) c.duration) (λ e. inr h) (λ e. inl refl)

  edge-kindred : (from : List Row) (t : Timing) → kinds_agree from rows ≡ true → Kindred rows (over_edge from t)
  unfolding over_edge
  edge-kindred from t h = either (Kindred rows) (ltb frame_length (end_of t)) (λ e. inr h) (λ e. inl refl)

  heard-kindred : (r : Rule) (c : Carried) (from : List Row) (ts : List Timing) → 0 < length ts → kinds_agree from rows ≡ true → Kindred rows (carried_by r c from ts)
  unfolding carried_by
  heard-kindred rule1 c from ts n h = inl refl
  heard-kindred rule2 c from [] n h = absurd (omega arith)
  heard-kindred rule2 c from (t ∷ ts) n h = edge-kindred from (last_timing t ts) h

  quiet-kindred : (r : Rule) (c : Carried) (from : List Row) → Kindred rows c → Kindred rows (carried_by r c from [])
  unfolding carried_by
  quiet-kindred rule1 c from h = inl refl
  quiet-kindred rule2 c from h = onward-kindred c h

-- Programmes

before-agrees : (st : State) (t : Tree) → Sized t → kinds_agree (before_last (frame_of st (some t))) (last_rows st t) ≡ true
unfolding frame_of
before-agrees st t z =
    let f = frame_of st (some t) in
    let m = length t.timings - 1 in
    let n = z.first in
    let kinds = numbered-kinds st t z in
    rw (last-numbered st t m z (omega arith)) (kinds-agree (kinds_of t) (numbered f m) (numbered f (suc m)) (kinds m (omega arith)) (kinds (suc m) (omega arith)))

behind-kindred : (r : Rule) (c : Carried) (st : State) (t : Option Tree) → FitIf t → Kindred st.rows c
    → Kindred (retained_by st t).rows (behind r c (frame_of st t))
unfolding behind frame_of retained_by retain
behind-kindred r c st none z h =
    either (Kindred st.rows) (eqb (verdict r c (frame_of st none)) accepted)
    (λ e. quiet-kindred st.rows r _ _ (taken-kindred st.rows r c (frame_of st none).start h)) (λ e. inl refl)
behind-kindred r c st (some t) z h =
    either (Kindred (last_rows st t)) (eqb (verdict r c (frame_of st (some t))) accepted)
    (λ e. heard-kindred (last_rows st t) r _ _ t.timings z.sized.first (before-agrees st t z.sized)) (λ e. inl refl)

step-kindred : (p : Playing) (e : Event) → Kindred p.retained.rows p.carried → Kindred (step p e).retained.rows (step p e).carried
unfolding step
step-kindred p (frame r s) h = behind-kindred r p.carried p.retained (said s) (said-fit s) h
step-kindred p gaps h = inl refl
step-kindred p resets h = inl refl
step-kindred p starts h = inl refl

pub kindred : (p : Playing) (es : List Event) → Kindred p.retained.rows p.carried → let q = run step p es in Kindred q.retained.rows q.carried
unfolding run
kindred p [] h = h
kindred p (e ∷ es) h = kindred (step p e) es (step-kindred p e h)

change-taken : (r : Rule) (c : Carried) (st : State) (ks : List Kind) → Kindred st.rows c → same_kinds ks st.rows ≡ false → taken_up r c (start_rows st ks) ≡ nothing
unfolding taken_up
change-taken rule1 c st ks h k = refl
change-taken rule2 c st ks (inl e) k = rw e (nothing-taken (start_rows st ks))
change-taken rule2 c st ks (inr h) k =
    by-test (kinds_agree c.rows (start_rows st ks))
    (λ e. absurd (false≢true (sym k ∙ agree_same ks c.rows st.rows (start_rows st ks) h e (start-kinds st ks))))
    (kinds-taken rule2 c (start_rows st ks))

-- a payload of other kinds than the retained ones takes up nothing
pub change-drops : (es : List Event) (r : Rule) (s : Option (List ℕ)) (t : Tree) → let p = run step silent es in
    said s ≡ some t → same_kinds (kinds_of t) p.retained.rows ≡ false → taken_up r p.carried (next_frame p s).start ≡ nothing
unfolding frame_of silent
change-drops es r s t e k =
    let p = run step silent es in
    rw e (change-taken r p.carried p.retained (kinds_of t) (kindred silent es (inl refl)) k)
