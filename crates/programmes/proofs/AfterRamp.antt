-- Request Q-7, theorem 2 under both rules: the sample after a ramp's last stands on its target, unless a block starts there or one of five drops it.
use Prim.Native.Nat.{ℕ, suc, ◌+◌, ◌*◌, ◌-◌, ◌≤◌}
use mathlib.Core.Path.{◌≡◌, refl, ◌∙◌, ap}
use mathlib.Core.Logic.{◌⊎◌, inl, inr}
use mathlib.Core.Bool.{false}
use mathlib.Core.List.{List, [], ◌∷◌, ◌++◌}
use mathlib.Core.Option.{Option, none, some}
use native.Mathlib.Omega.{arith}
use borrow.Author.Tests.{eqb-true, eqb-false}
use lib.Dec.{ltb, eqb}
use lib.IntN.{pos}
use lib.ListN.{length}
use Rattle.bits.proofs.Always.{All}
use Rattle.standard.specs.Numbers.{frame_length, accepted}
use Rattle.standard.specs.Tree.{Timing, Tree, kinds_of}
use Rattle.standard.specs.Rows.{Row, State}
use Rattle.standard.specs.Meaning.{same_kinds, held_rows, retain}
use Rattle.standard.specs.Timing.{end_of, rising, apart, timing_test}
use Rattle.standard.specs.Carried.{Rule, rule1, rule2, Carried, nothing, remains, kinds_agree, taken_up, following, timing_by, over_edge, onward, carried_by}
use Rattle.standard.specs.Events.{run}
use Rattle.standard.proofs.RampChoice.{Before, before-all}
use Rattle.standard.proofs.RampPlaces.{over-chosen}
use Rattle.programmes.specs.Programmes.{Event, frame, gaps, resets, starts, Playing, said, frame_of, retained_by, next_frame, step, frames}
use Rattle.programmes.specs.Programmes.{verdict, behind, choice_in, sample_at, standing}
use Rattle.programmes.proofs.Branches.{by-test, by_end, either}
use Rattle.programmes.proofs.EachSample.{during-passing}
use Rattle.programmes.proofs.FrameKinds.{last-numbered}
use Rattle.programmes.proofs.CarriedRamp.{Keeps, starts-held, resolve-start, Undisturbed, carried-last, count, size, move_to}

-- Towards a target: at most n samples of the ramp remain

pub record Towards (p : Playing) (target : List Row) (n : ℕ) : Type 0 where
  pub doubt : p.retained.doubt ≡ pos 0
  pub rows : p.retained.rows ≡ target
  pub left : remains p.carried ≤ n

taken-left : (r : Rule) (c : Carried) (rows : List Row) → remains (taken_up r c rows) ≤ remains c
unfolding taken_up nothing
taken-left rule1 c rows = omega arith
taken-left rule2 c rows = either (λ (x : Carried). remains x ≤ remains c) (kinds_agree c.rows rows) (λ e. omega arith) (λ e. omega arith)

onward-left : (c : Carried) → remains (onward c) ≤ remains c - frame_length
unfolding onward nothing
onward-left c =
    either (λ (x : Carried). remains x ≤ remains c - frame_length) (ltb (c.elapsed + frame_length) c.duration) (λ e. omega arith) (λ e. omega arith)

edge-left : (rows : List Row) (t : Timing) → remains (over_edge rows t) ≤ end_of t - frame_length
unfolding over_edge nothing
edge-left rows t = either (λ (x : Carried). remains x ≤ end_of t - frame_length) (ltb frame_length (end_of t)) (λ e. omega arith) (λ e. omega arith)

quiet-left : (r : Rule) (c : Carried) (st : State) → remains (behind r c (frame_of st none)) ≤ remains c - frame_length
unfolding behind verdict timing_by timing_test rising apart following carried_by frame_of nothing
quiet-left rule1 c st = omega arith
quiet-left rule2 c st = let k = onward-left (taken_up rule2 c (held_rows st)) in let l = taken-left rule2 c (held_rows st) in omega arith

-- a frame without blocks, under either rule
abbrev pub Blockless : Event → Type 0
Blockless (frame r s) = said s ≡ none
Blockless gaps = ⊥
Blockless resets = ⊥
Blockless starts = ⊥

towards-frame : (p : Playing) (target : List Row) (n : ℕ) (r : Rule) (s : Option (List ℕ)) → said s ≡ none → Towards p target n
    → Towards (step p (frame r s)) target (n - frame_length)
unfolding step retained_by
towards-frame p target n r s e h =
    let k = quiet-left r p.carried p.retained in
    let l = h.left in
    rw e (record { doubt = h.doubt; rows = h.rows; left = omega arith })

towards-frames : (p : Playing) (target : List Row) (n : ℕ) (es : List Event) → All Blockless es → Towards p target n
    → Towards (run step p es) target (n - frame_length * frames es)
unfolding run frames frame_length
towards-frames p target n [] b h = let e : n - 1536 * 0 ≡ n = omega arith in rw e h
towards-frames p target n (frame r s ∷ es) b h =
    let e : n - 1536 * suc (frames es) ≡ n - 1536 - 1536 * frames es = omega arith in
    rw e (towards-frames (step p (frame r s)) target (n - 1536) es b.1 (towards-frame p target n r s b.0 h))
towards-frames p target n (gaps ∷ es) b h = absurd b.0
towards-frames p target n (resets ∷ es) b h = absurd b.0
towards-frames p target n (starts ∷ es) b h = absurd b.0

stands-sample : (p : Playing) (target : List Row) (n : ℕ) (r : Rule) (s : Option (List ℕ)) (i : ℕ) → Towards p target n → n ≤ i
    → Undisturbed p r s i → sample_at p r s i ≡ standing target
unfolding sample_at choice_in
stands-sample p target n r s i h l u =
    let f = next_frame p s in
    let c = taken_up r p.carried f.start in
    let k = taken-left r p.carried f.start in
    let m = h.left in
    rw (during-passing r p.carried f u.timings, over-chosen r c.elapsed c.duration i f.timings (omega arith), before-all i f.timings u.early)
    (resolve-start f c ∙ ap standing (starts-held p.retained (said s) h.doubt u.kinds ∙ h.rows))

last-left : (r : Rule) (c : Carried) (rows : List Row) (before : List Timing) (last : Timing)
    → remains (carried_by r c rows (before ++ last ∷ [])) ≤ end_of last - frame_length
unfolding carried_by nothing
last-left rule1 c rows before last = omega arith
last-left rule2 c rows before last = rw (carried-last c rows before last) (edge-left rows last)

-- The request's sentence: one of these

-- between: a gap, a reset, a programme start, or a frame with blocks
abbrev pub Breaks : Event → Type 0
Breaks (frame r s) = (t : Tree) × (said s ≡ some t)
Breaks gaps = Unit {0}
Breaks resets = Unit {0}
Breaks starts = Unit {0}

abbrev pub Some : (Event → Type 0) → List Event → Type 0
Some P [] = ⊥
Some P (e ∷ es) = P e ⊎ Some P es

-- there: a change of kinds, a timing refusal, or a block that has started
pub data Disturbs (p : Playing) (r : Rule) (s : Option (List ℕ)) (i : ℕ) : Type 0 where
  changes : (t : Tree) → said s ≡ some t → same_kinds (kinds_of t) p.retained.rows ≡ false → Disturbs p r s i
  refuses : (verdict r p.carried (next_frame p s) ≡ accepted → ⊥) → Disturbs p r s i
  begins : (Before i (next_frame p s).timings → ⊥) → Disturbs p r s i

quiet_or : (es : List Event) → All Blockless es ⊎ Some Breaks es
quiet_or [] = inl tt
quiet_or (frame r s ∷ es) = go (said s) refl (quiet_or es)
  where
    go : (t : Option Tree) → said s ≡ t → All Blockless es ⊎ Some Breaks es → All Blockless (frame r s ∷ es) ⊎ Some Breaks (frame r s ∷ es)
    go none e (inl h) = inl (e, h)
    go none e (inr h) = inr (inr h)
    go (some t) e h = inr (inl (t, e))
quiet_or (gaps ∷ es) = inr (inl tt)
quiet_or (resets ∷ es) = inr (inl tt)
quiet_or (starts ∷ es) = inr (inl tt)

module _ (p : Playing) (r : Rule) (s : Option (List ℕ)) (i : ℕ) where
  keeps-or : Keeps p.retained (said s) ⊎ Disturbs p r s i
  keeps-or = go (said s) refl
    where
      go : (t : Option Tree) → said s ≡ t → Keeps p.retained t ⊎ Disturbs p r s i
      go none e = inl tt
      go (some t) e = by-test (same_kinds (kinds_of t) p.retained.rows) (λ k. inl k) (λ k. inr (changes t e k))

  passes-or : (verdict r p.carried (next_frame p s) ≡ accepted) ⊎ Disturbs p r s i
  passes-or =
      let n = verdict r p.carried (next_frame p s) in
      by-test (eqb n accepted) (λ e. inl (eqb-true n accepted e)) (λ e. inr (refuses (eqb-false n accepted e)))

  early-or : Before i (next_frame p s).timings ⊎ Disturbs p r s i
  early-or = go (next_frame p s).timings begins
    where
      go : (ts : List Timing) → ((Before i ts → ⊥) → Disturbs p r s i) → Before i ts ⊎ Disturbs p r s i
      go [] f = inl tt
      go (t ∷ ts) f = by_end i t.start (λ l. inl l) (λ l. inr (f (λ m. omega arith)))

  undisturbed-or : Undisturbed p r s i ⊎ Disturbs p r s i
  undisturbed-or = go keeps-or passes-or early-or
    where
      go : Keeps p.retained (said s) ⊎ Disturbs p r s i → (verdict r p.carried (next_frame p s) ≡ accepted) ⊎ Disturbs p r s i
          → Before i (next_frame p s).timings ⊎ Disturbs p r s i → Undisturbed p r s i ⊎ Disturbs p r s i
      go (inl k) (inl v) (inl b) = inl (record { kinds = k; timings = v; early = b })
      go (inl k) (inl v) (inr x) = inr x
      go (inl k) (inr x) b = inr x
      go (inr x) v b = inr x

-- The theorem

module _ (p : Playing) (r : Rule) (s : List ℕ) (t : Tree) (heard : said (some s) ≡ some t) (before : List Timing) (last : Timing)
    (split : t.timings ≡ before ++ last ∷ []) (passes : verdict r p.carried (next_frame p (some s)) ≡ accepted) where
  abbrev target : List Row
  target = move_to p s t heard before last split

  behind-left : remains (behind r p.carried (frame_of p.retained (some t))) ≤ end_of last - frame_length
  unfolding behind frame_of
  behind-left = rw (rw heard at passes) (rw split (last-left r _ _ before last))

  heads : Towards (step p (frame r (some s))) target (end_of last - frame_length)
  unfolding step retained_by retain
  heads =
      let z = size p s t heard before last split in
      rw heard (record { doubt = refl; rows = last-numbered p.retained t (length before) z (count p s t heard before last split); left = behind-left })

  module _ (es : List Event) (r' : Rule) (s' : Option (List ℕ)) (i : ℕ) (over : end_of last ≤ frame_length * suc (frames es) + i) where
    abbrev later : Playing
    later = run step (step p (frame r (some s))) es

    -- the sample after the ramp's last, and every one after it that nothing disturbs, stands on the target
    pub stands_after : All Blockless es → Undisturbed later r' s' i → sample_at later r' s' i ≡ standing target
    unfolding frame_length
    stands_after b u = stands-sample later target _ r' s' i (towards-frames _ _ _ es b heads) (omega arith) u

    -- in any later frame of any programme
    pub stands-unless : (sample_at later r' s' i ≡ standing target) ⊎ Some Breaks es ⊎ Disturbs later r' s' i
    stands-unless = go (quiet_or es) (undisturbed-or later r' s' i)
      where
        go : All Blockless es ⊎ Some Breaks es → Undisturbed later r' s' i ⊎ Disturbs later r' s' i
            → (sample_at later r' s' i ≡ standing target) ⊎ Some Breaks es ⊎ Disturbs later r' s' i
        go (inl b) (inl u) = inl (stands_after b u)
        go (inl b) (inr x) = inr (inr x)
        go (inr x) u = inr (inl x)
