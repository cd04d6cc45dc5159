-- Request Q-7, theorem 2 under rule 2: a last block's ramp over the frame edges, sample by sample.
use Prim.Native.Nat.{ℕ, suc, ◌+◌, ◌*◌, ◌-◌, ◌≤◌, ◌<◌}
use mathlib.Core.Path.{◌≡◌, refl, sym, ◌∙◌, ap}
use mathlib.Core.Bool.{true, cond}
use mathlib.Core.List.{List, [], ◌∷◌, ◌++◌, map}
use mathlib.Core.Option.{Option, none, some}
use native.Mathlib.Omega.{arith}
use borrow.Author.Tests.{lt-ltb, le-ltb}
use lib.Dec.{ltb}
use lib.IntN.{pos}
use lib.ListN.{length, length-append}
use Rattle.bits.proofs.Always.{All}
use Rattle.standard.specs.Numbers.{frame_length, accepted}
use Rattle.standard.specs.Tree.{Timing, Tree, kinds_of}
use Rattle.standard.specs.Rows.{Row, State}
use Rattle.standard.specs.Meaning.{held_row, same_kinds, start_rows, retain}
use Rattle.standard.specs.Timing.{end_of, rising}
use Rattle.standard.specs.Ramps.{still}
use Rattle.standard.specs.Carried.{Rule, rule1, rule2, Carried, nothing, kinds_agree, taken_up, following, timing_by, carried_row, choice_by, over_edge, onward, last_timing, carried_by}
use Rattle.standard.specs.Events.{run}
use Rattle.standard.proofs.Counts.{Sized}
use Rattle.standard.proofs.RampChoice.{Before, before-all}
use Rattle.standard.proofs.RampPlaces.{Follows, passes-2}
use Rattle.programmes.specs.Programmes.{Event, frame, gaps, resets, starts, Playing, said, Frame, frame_of, retained_by, numbered, next_frame, step, frames}
use Rattle.programmes.specs.Programmes.{verdict, during, behind, rows_at, resolve, choice_in, sample_at, standing, on_way}
use Rattle.programmes.proofs.Branches.{by_end, same-either}
use Rattle.programmes.proofs.Heard.{heard-fit}
use Rattle.programmes.proofs.FrameKinds.{kinds-agree, numbered-kinds, last-numbered}

-- Frames that keep the retained rows

held_same : (rs : List Row) → map (held_row (pos 0)) rs ≡ rs
unfolding held_row
held_same [] = refl
held_same (r ∷ rs) = ap (λ q. r ∷ q) (held_same rs)

-- no change of kinds
abbrev pub Keeps : State → Option Tree → Type 0
Keeps st none = Unit {0}
Keeps st (some t) = same_kinds (kinds_of t) st.rows ≡ true

-- without doubt the start rows are the retained rows
pub starts-held : (st : State) (t : Option Tree) → st.doubt ≡ pos 0 → Keeps st t → (frame_of st t).start ≡ st.rows
unfolding frame_of start_rows
starts-held st none d k = rw d (held_same st.rows)
starts-held st (some t) d k = rw (k, d) (held_same st.rows)

-- What is carried of a ramp, n samples after its start

unfoldable pub going : List Row → ℕ → ℕ → Carried
going from n d = cond (ltb n d) (record { rows = from; elapsed = n; duration = d }) nothing

going-over : (from : List Row) (n d : ℕ) → d ≤ n → going from n d ≡ nothing
unfolding going
going-over from n d h = rw (le-ltb n d h)

going-still : (from : List Row) (n d : ℕ) → n < d → going from n d ≡ record { rows = from; elapsed = n; duration = d }
unfolding going
going-still from n d h = rw (lt-ltb n d h)

pub nothing-taken : (rows : List Row) → taken_up rule2 nothing rows ≡ nothing
unfolding taken_up
nothing-taken rows = same-either (kinds_agree nothing.rows rows) nothing

module _ (from : List Row) (n d : ℕ) where
  taken-going : (target : List Row) → kinds_agree from target ≡ true → taken_up rule2 (going from n d) target ≡ going from n d
  unfolding taken_up
  taken-going target k = by_end n d (λ h. rw (going-still from n d h, k)) (λ h. rw (going-over from n d h) (nothing-taken target))

  onward-going : onward (going from n d) ≡ going from (n + frame_length) d
  unfolding onward nothing going frame_length
  onward-going =
      by_end n d (λ h. ap onward (going-still from n d h))
      (λ h. ap onward (going-over from n d h) ∙ sym (going-over from (n + frame_length) d (omega arith)))

-- The state carries a ramp, n samples after its start

pub record Carries (p : Playing) (from target : List Row) (n d : ℕ) : Type 0 where
  pub doubt : p.retained.doubt ≡ pos 0
  pub rows : p.retained.rows ≡ target
  pub carried : p.carried ≡ going from n d
  pub kinds : kinds_agree from target ≡ true

resolve-carried : (f : Frame) (c : Carried) (e d : ℕ)
    → resolve f c (record { from = carried_row; to = 0; elapsed = e; duration = d }) ≡ record { from = c.rows; to = f.start; elapsed = e; duration = d }
unfolding resolve rows_at carried_row numbered
resolve-carried f c e d = refl

pub resolve-start : (f : Frame) (c : Carried) → resolve f c (still 0) ≡ standing f.start
unfolding resolve rows_at carried_row numbered still
resolve-start f c = refl

-- before a first start
sample-going : (from : List Row) (n d : ℕ) (f : Frame) (i : ℕ) → Before i f.timings → let c = going from n d in
    resolve f c (choice_by rule2 c.elapsed c.duration i f.timings) ≡ on_way from f.start (n + i) d
unfolding choice_by on_way nothing
sample-going from n d f i b =
    by_end n d
    (λ h. rw (going-still from n d h)
    (by_end (n + i) d (λ k. rw (lt-ltb (n + i) d k) (resolve-carried f _ (n + i) d)) (λ k. rw (le-ltb (n + i) d k, before-all i f.timings b) (resolve-start f _))))
    (λ h. rw (going-over from n d h, le-ltb (0 + i) 0 (omega arith), le-ltb (n + i) d (omega arith), before-all i f.timings b) (resolve-start f _))

-- What comes next leaves the ramp alone: no change of kinds, no timing refusal, and at sample i no block has started

pub record Undisturbed (p : Playing) (r : Rule) (s : Option (List ℕ)) (i : ℕ) : Type 0 where
  pub kinds : Keeps p.retained (said s)
  pub timings : verdict r p.carried (next_frame p s) ≡ accepted
  pub early : Before i (next_frame p s).timings

-- a frame without blocks, under rule 2
abbrev pub Quiet : Event → Type 0
Quiet (frame rule1 s) = ⊥
Quiet (frame rule2 s) = said s ≡ none
Quiet gaps = ⊥
Quiet resets = ⊥
Quiet starts = ⊥

module _ (p : Playing) (from target : List Row) (n d : ℕ) (h : Carries p from target n d) where
  taken-on : (t : Option Tree) → Keeps p.retained t → taken_up rule2 p.carried (frame_of p.retained t).start ≡ going from n d
  taken-on t k = rw (h.carried, starts-held p.retained t h.doubt k, h.rows) (taken-going from n d target h.kinds)

  -- the sample's elapsed is n more than its number
  carried-sample : (s : Option (List ℕ)) (i : ℕ) → Undisturbed p rule2 s i → sample_at p rule2 s i ≡ on_way from target (n + i) d
  unfolding sample_at choice_in during
  carried-sample s i u =
      rw (u.timings, taken-on (said s) u.kinds) (sample-going from n d (next_frame p s) i u.early
      ∙ ap (λ rows. on_way from rows (n + i) d) (starts-held p.retained (said s) h.doubt u.kinds ∙ h.rows))

  behind-quiet : behind rule2 p.carried (frame_of p.retained none) ≡ going from (n + frame_length) d
  unfolding behind verdict timing_by rising following carried_by frame_of
  behind-quiet = ap onward (taken-on none tt) ∙ onward-going from n d

  quiet_frame : (s : Option (List ℕ)) → said s ≡ none → Carries (step p (frame rule2 s)) from target (n + frame_length) d
  unfolding step retained_by
  quiet_frame s e = rw e (record { doubt = h.doubt; rows = h.rows; carried = behind-quiet; kinds = h.kinds })

-- over k frames n grows by as many samples
quiet-frames : (p : Playing) (from target : List Row) (n d : ℕ) (es : List Event) → All Quiet es → Carries p from target n d
    → Carries (run step p es) from target (n + frame_length * frames es) d
unfolding run frames frame_length
quiet-frames p from target n d [] q h = let e : n + 1536 * 0 ≡ n = omega arith in rw e h
quiet-frames p from target n d (frame rule1 s ∷ es) q h = absurd q.0
quiet-frames p from target n d (frame rule2 s ∷ es) q h =
    let e : n + 1536 * suc (frames es) ≡ n + 1536 + 1536 * frames es = omega arith in
    rw e (quiet-frames (step p (frame rule2 s)) from target (n + frame_length) d es q.1 (quiet_frame p from target n d h s q.0))
quiet-frames p from target n d (gaps ∷ es) q h = absurd q.0
quiet-frames p from target n d (resets ∷ es) q h = absurd q.0
quiet-frames p from target n d (starts ∷ es) q h = absurd q.0

-- The frame in which the ramp starts

last-start : (n : ℕ) (before : List Timing) (last : Timing) → Follows n (before ++ last ∷ []) → last.start ≤ frame_length
last-start n [] last h = h.1
last-start n (t ∷ before) last h = last-start (end_of t) before last h.2

last_of : (t : Timing) (before : List Timing) (last : Timing) → last_timing t (before ++ last ∷ []) ≡ last
unfolding last_timing
last_of t [] last = refl
last_of t (u ∷ before) last = last_of u before last

pub carried-last : (c : Carried) (rows : List Row) (before : List Timing) (last : Timing) → carried_by rule2 c rows (before ++ last ∷ []) ≡ over_edge rows last
unfolding carried_by last_timing
carried-last c rows [] last = refl
carried-last c rows (t ∷ before) last = ap (over_edge rows) (last_of t before last)

over-going : (rows : List Row) (t : Timing) → t.start ≤ frame_length → over_edge rows t ≡ going rows (frame_length - t.start) t.ramp
unfolding over_edge
over-going rows t h =
    by_end frame_length (end_of t)
    (λ k. rw (lt-ltb frame_length (end_of t) k, going-still rows (frame_length - t.start) t.ramp (omega arith)))
    (λ k. rw (le-ltb frame_length (end_of t) k, going-over rows (frame_length - t.start) t.ramp (omega arith)))

-- A payload is heard, whose last block's ramp goes from the rows before it to its own
module _ (p : Playing) (s : List ℕ) (t : Tree) (heard : said (some s) ≡ some t) (before : List Timing) (last : Timing)
    (split : t.timings ≡ before ++ last ∷ []) where
  pub count : length t.timings ≡ suc (length before)
  count = rw split (simp length-append (omega arith))

  pub size : Sized t
  size = (heard-fit (some s) t heard).sized

  -- from these rows, to those
  abbrev pub move_from : List Row
  move_from = numbered (frame_of p.retained (some t)) (length before)

  abbrev pub move_to : List Row
  move_to = numbered (frame_of p.retained (some t)) (suc (length before))

  -- the timings of its frame pass under rule 2
  module _ (passes : verdict rule2 p.carried (next_frame p (some s)) ≡ accepted) where
    early : last.start ≤ frame_length
    unfolding verdict frame_of
    early = last-start _ before last (rw split at (passes-2 _ t.timings (rw heard at passes)))

    behind-heard : behind rule2 p.carried (frame_of p.retained (some t)) ≡ going move_from (frame_length - last.start) last.ramp
    unfolding behind frame_of
    behind-heard =
        let f = frame_of p.retained (some t) in
        let c = taken_up rule2 p.carried f.start in
        let n : length t.timings - 1 ≡ length before = let k = count in omega arith in
        rw (rw heard at passes)
        (ap (λ k. carried_by rule2 c (numbered f k) t.timings) n ∙ ap (carried_by rule2 c move_from) split
        ∙ carried-last c move_from before last ∙ over-going move_from last early)

    begins : Carries (step p (frame rule2 (some s))) move_from move_to (frame_length - last.start) last.ramp
    unfolding step retained_by retain
    begins =
        let k = count in
        let kinds = numbered-kinds p.retained t size in
        rw heard (record {
          doubt = refl;
          rows = last-numbered p.retained t (length before) size count;
          carried = behind-heard;
          kinds = kinds-agree (kinds_of t) move_from move_to (kinds (length before) (omega arith)) (kinds (suc (length before)) (omega arith));
        })

    -- behind frames without blocks a sample that nothing disturbs is on its way, at its distance from the block's start over all the frames
    pub on-its-way : (es : List Event) → All Quiet es → (s' : Option (List ℕ)) (i : ℕ) → let q = run step (step p (frame rule2 (some s))) es in
        Undisturbed q rule2 s' i → sample_at q rule2 s' i ≡ on_way move_from move_to (frame_length * suc (frames es) + i - last.start) last.ramp
    unfolding frame_length
    on-its-way es h s' i u =
        let q = run step (step p (frame rule2 (some s))) es in
        let k = early in
        let e : 1536 - last.start + 1536 * frames es + i ≡ 1536 * suc (frames es) + i - last.start = omega arith in
        carried-sample q move_from move_to _ last.ramp (quiet-frames _ move_from move_to _ last.ramp es h begins) s' i u
        ∙ ap (λ n. on_way move_from move_to n last.ramp) e
