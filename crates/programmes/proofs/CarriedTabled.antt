-- A programme by the calls alone does on lent tables what the definitions say, and none of its calls gives 5, 6, 11 or 16.
use Prim.Native.Nat.{ℕ, ◌+◌, ◌*◌, ◌≤◌, ◌<◌}
use mathlib.Core.Path.{◌≡◌, refl, sym, ◌∙◌, ap}
use mathlib.Core.Logic.{◌⊎◌, inl, inr}
use mathlib.Core.Bool.{true, cond}
use mathlib.Core.List.{List, [], ◌∷◌, ◌++◌}
use mathlib.Core.Option.{Option, none, some}
use native.Mathlib.Omega.{arith}
use borrow.Author.Tests.{le-leb, leb-true, lt-ltb, ltb-true, ne_eqb, eqb-true}
use lib.Dec.{leb, ltb, eqb}
use lib.IntN.{ℤ}
use lib.ListN.{length}
use Rattle.bits.proofs.Always.{All}
use Rattle.standard.specs.Numbers.{object_limit, block_limit, start_length, timings_length, frame_length, accepted}
use Rattle.standard.specs.Tree.{Timing}
use Rattle.standard.specs.Rows.{Row, fresh}
use Rattle.standard.specs.Tables.{rows_of, rows_numbers}
use Rattle.standard.specs.Timing.{end_of}
use Rattle.standard.specs.Ramps.{fraction}
use Rattle.standard.specs.Carried.{Rule, rule1, rule2, rule_of, Carried, nothing, remains, kinds_agree, taken_up, timing_by, over_edge, onward, last_timing, carried_by}
use Rattle.standard.specs.Calls.{over, decode, row_number}
use Rattle.standard.specs.CarriedCalls.{Going, dropped, carried_of, going_of, tested, counts_within, timings_room, carried_room, going_form, carried_form}
use Rattle.standard.specs.CarriedCalls.{TimingAnswer, timed, timing_under, timing_by_rule, ramp_under, ramp_by_rule, carry_under, carry, drop_ramp}
use Rattle.standard.specs.Journal.{reply_to}
use Rattle.standard.specs.Events.{run, after, Beside, lend}
use Rattle.standard.proofs.Small.{both}
use Rattle.standard.proofs.Laid.{over-rest, rows_back}
use Rattle.standard.proofs.Lengths.{rows_fit}
use Rattle.standard.proofs.ShownRows.{written-shown}
use Rattle.standard.proofs.Tabled.{Enough, Holds, records-hold}
use Rattle.standard.proofs.RampPlaces.{passes-2, last_within, Tested, number_by}
use Rattle.programmes.specs.Programmes.{Event, frame, gaps, resets, starts, Playing, Frame, before_last, verdict, during, behind, next_frame, step, silent, choice_in, brings}
use Rattle.programmes.specs.Racks.{Rack, Shelf, held, shelved, opening, rule_number, timed_on, carried_on, Turn, events, called, turned}
use Rattle.programmes.proofs.Branches.{by-test, either}
use Rattle.programmes.proofs.RuleOne.{retained-step}
use Rattle.programmes.proofs.CarriedForms.{CarriedOk, nothing_ok, taken-ok, going-ok, lies_ok, Formed, step-formed, silent-formed}
use Rattle.programmes.proofs.Shelves.{OnShelf, stays-long, opening-shelf}

-- What is carried, as it lies in the table

-- nothing, or a ramp of some samples
abbrev pub Whole : Carried → Type 0
Whole c = (c ≡ nothing) ⊎ (0 < c.duration)

pub record Lies (g : Going) (l : List ℤ) (c : Carried) : Type 0 where
  pub long : leb start_length (length l) ≡ true
  pub going : g ≡ going_of c
  pub rows : over (rows_numbers c.rows) l ≡ l  -- at the table's head: writing them changes nothing
  pub whole : Whole c
  pub ok : CarriedOk c

lies-nothing : (l : List ℤ) → leb start_length (length l) ≡ true → Lies dropped l nothing
unfolding nothing rows_numbers
lies-nothing l h = record { long = h; going = refl; rows = refl; whole = inl refl; ok = nothing_ok }

module _ (g : Going) (l : List ℤ) (c : Carried) (h : Lies g l c) where
  rows-read : rows_of (length c.rows) l ≡ c.rows
  rows-read = ap (rows_of (length c.rows)) (sym h.rows) ∙ rows_back c.rows _

  carried-back : carried_of g l ≡ c
  unfolding carried_of nothing
  carried-back = rw h.going (go h.whole)
    where
      go : Whole c → cond (eqb c.duration 0) nothing (record { rows = rows_of (length c.rows) l; elapsed = c.elapsed; duration = c.duration }) ≡ c
      go (inl e) = rw e
      go (inr k) = rw (ne_eqb c.duration 0 (λ e. omega arith), rows-read)

  form-passes : (r : Rule) → carried_form g l r ≡ true
  unfolding carried_form
  form-passes rule1 = refl
  form-passes rule2 = rw h.going (lies_ok c l h.ok rows-read)

  room-passes : (r : Rule) → carried_room l r ≡ true
  unfolding carried_room
  room-passes rule1 = refl
  room-passes rule2 = h.long

  lies-taken : (r : Rule) (rows : List Row) → Lies (going_of (taken_up r c rows)) l (taken_up r c rows)
  unfolding taken_up nothing
  lies-taken rule1 rows = lies-nothing l h.long
  lies-taken rule2 rows =
      either (λ (x : Carried). Lies (going_of x) l x) (kinds_agree c.rows rows)
      (λ e. record { long = h.long; going = refl; rows = h.rows; whole = h.whole; ok = h.ok }) (λ e. lies-nothing l h.long)

  -- none of the carried rows gives 6 or 12 in the row calls
  pub carried-rows-shown : (i : ℕ) → i < g.objects → row_number l i ≡ accepted
  carried-rows-shown i k =
      let e : g.objects ≡ length c.rows = ap (λ (x : Going). x.objects) h.going in
      ap (λ x. row_number x i) (sym h.rows) ∙ written-shown c.rows l i h.ok.shown (omega arith)

-- The calls at a frame

rule-known : (r : Rule) → rule_of (rule_number r) ≡ some r
unfolding rule_of
rule-known rule1 = refl
rule-known rule2 = refl

counts-pass : (x : Shelf) (f : Frame) → OnShelf x f → counts_within x.blocks x.objects ≡ true
counts-pass x f s = both _ _ (le-leb x.blocks block_limit s.short) (le-leb x.objects object_limit s.few)

timings-pass : (x : Shelf) (f : Frame) → OnShelf x f → timings_room x.beside.timings x.blocks ≡ true
unfolding timings_length block_limit
timings-pass x f s =
    let k = leb-true timings_length (length x.beside.timings) s.room.timings in
    let m = s.short in
    le-leb (2 * x.blocks) (length x.beside.timings) (omega arith)

module _ (r : Rule) (k : Rack) (x : Shelf) (f : Frame) (c : Carried) (h : Lies k.going k.carried c) (s : OnShelf x f) where
  timed-on : timed_on r k x ≡ timed (verdict r c f) (taken_up r c f.start)
  unfolding timed_on timing_by_rule tested timing_under verdict
  timed-on =
      rw (
        rule-known r,
        counts-pass x f s,
        timings-pass x f s,
        s.room.start,
        room-passes _ _ c h r,
        form-passes _ _ c h r,
        carried-back _ _ c h,
        s.timings,
        s.start,
      )

  carry-on : let d = taken_up r c f.start in
      carry (rule_number r) x.beside.timings x.blocks x.objects x.beside.start x.beside.blocks k.carried (going_of d)
      ≡ carry_under r f.timings d (before_last f) k.carried
  unfolding carry tested
  carry-on =
      let d = taken_up r c f.start in
      let m = lies-taken _ _ c h r f.start in
      rw (
        rule-known r,
        counts-pass x f s,
        timings-pass x f s,
        s.room.start,
        s.room.blocks,
        room-passes _ _ d m r,
        form-passes _ _ d m r,
        carried-back _ _ d m,
        s.timings,
        s.before,
      )

-- What a frame leaves is whole

edge-whole : (rows : List Row) (t : Timing) → t.start ≤ frame_length → Whole (over_edge rows t)
unfolding over_edge
edge-whole rows t h = either Whole (ltb frame_length (end_of t)) (λ e. let m = ltb-true frame_length (end_of t) e in inr (omega arith)) (λ e. inl refl)

onward-whole : (c : Carried) → Whole (onward c)
unfolding onward
onward-whole c =
    let n = c.elapsed + frame_length in
    either Whole (ltb n c.duration) (λ e. let m = ltb-true n c.duration e in inr (omega arith)) (λ e. inl refl)

carried-whole : (r : Rule) (c : Carried) (rows : List Row) (ts : List Timing) → timing_by r (remains c) ts ≡ accepted → Whole (carried_by r c rows ts)
unfolding carried_by
carried-whole rule1 c rows ts h = inl refl
carried-whole rule2 c rows [] h = onward-whole c
carried-whole rule2 c rows (t ∷ ts) h = edge-whole rows (last_timing t ts) (last_within (remains c) t ts (passes-2 (remains c) (t ∷ ts) h))

carry-lies : (r : Rule) (ts : List Timing) (d : Carried) (rows : List Row) (l : List ℤ) → eqb (timing_by r (remains d) ts) accepted ≡ true
    → leb start_length (length l) ≡ true → CarriedOk (carried_by r d rows ts) → let a = carry_under r ts d rows l in Lies a.going a.carried (carried_by r d rows ts)
unfolding carry_under
carry-lies r ts d rows l e h k =
    let c = carried_by r d rows ts in
    let new = rows_numbers c.rows in
    rw e (record {
      long = stays-long start_length new l (rows_fit c.rows k.few) h;
      going = refl;
      rows = ap (λ z. new ++ z) (over-rest new l (length new) refl);
      whole = carried-whole r d rows ts (eqb-true _ _ e);
      ok = k;
    })

module _ (r : Rule) (k : Rack) (x : Shelf) (f : Frame) (c : Carried) (h : Lies k.going k.carried c) (s : OnShelf x f) where
  frame-lies : CarriedOk (behind r c f) → let a = carried_on r k x (timed_on r k x) in Lies a.going a.carried (behind r c f)
  unfolding carried_on timed behind verdict
  frame-lies ok =
      by-test (eqb (verdict r c f) accepted)
      (λ e. rw (timed-on r k x f c h s, e, carry-on r k x f c h s)
      (carry-lies r f.timings (taken_up r c f.start) (before_last f) k.carried e h.long (rw e at ok)))
      (λ e. rw (timed-on r k x f c h s, e) (lies-nothing k.carried h.long))

  same_number : (carried_on r k x (timed_on r k x)).number ≡ (timed_on r k x).number
  unfolding carried_on timed verdict carry_under
  same_number =
      by-test (eqb (verdict r c f) accepted)
      (λ e. rw (timed-on r k x f c h s, e, carry-on r k x f c h s, e))
      (λ e. rw (timed-on r k x f c h s, e))

  -- the ramp call at a sample, with what the timing call left
  going-during : (timed_on r k x).going ≡ going_of (during r c f)
  unfolding timed during nothing
  going-during =
      ap (λ (t : TimingAnswer). t.going) (timed-on r k x f c h s)
      ∙ by-test (eqb (verdict r c f) accepted) (λ e. rw e) (λ e. rw e)

  during-ok : CarriedOk (during r c f)
  unfolding during
  during-ok = either CarriedOk (eqb (verdict r c f) accepted) (λ e. taken-ok r c f.start h.ok) (λ e. nothing_ok)

  form-during : (q : Rule) → going_form (going_of (during r c f)) q ≡ true
  unfolding going_form
  form-during rule1 = refl
  form-during rule2 = going-ok (during r c f) during-ok

  ramp-on : (i : ℕ) → i < frame_length → let c' = choice_in r c f i in
      ramp_by_rule (rule_number r) x.beside.timings x.blocks i (timed_on r k x).going ≡ record { number = accepted; choice = c'; fraction = fraction c' }
  unfolding ramp_by_rule tested ramp_under choice_in
  ramp-on i l =
      rw (going-during, rule-known r, lt-ltb i frame_length l, le-leb x.blocks block_limit s.short, timings-pass x f s, form-during r, s.timings)

-- Programmes

pub record Carrying (k : Rack) (p : Playing) : Type 0 where
  pub retained : Holds k.retained p.retained
  pub carried : Lies k.going k.carried p.carried
  pub formed : Formed p

-- the retained table is the one that the journal's calls leave
called-retained : (k : Rack) (b : Beside) (e : Event) → (called k b e).retained ≡ (run after (lend b k.retained) (brings e)).retained
unfolding called opening held shelved run after reply_to brings
called-retained k b (frame r none) = refl
called-retained k b (frame r (some s)) =
    either (λ (x : Shelf). x.retained ≡ (decode s (lend b k.retained)).lent.retained) (eqb (decode s (lend b k.retained)).answer.verdict.number accepted)
    (λ e. refl) (λ e. refl)
called-retained k b gaps = refl
called-retained k b resets = refl
called-retained k b starts = refl

module _ (b : Beside) (room : Enough b) (k : Rack) (p : Playing) (h : Carrying k p) where
  shelf-of : (s : Option (List ℕ)) → OnShelf (opening b k.retained s) (next_frame p s)
  shelf-of s = rw (← h.retained.state) (opening-shelf k.retained h.retained.good b room s)

  -- each call at a frame is that of the definitions: timing, with the number of the test alone, and ramp, accepted
  pub timing-called : (r : Rule) (s : Option (List ℕ)) → let f = next_frame p s in
      timed_on r k (opening b k.retained s) ≡ timed (verdict r p.carried f) (taken_up r p.carried f.start)
  timing-called r s = timed-on r k (opening b k.retained s) (next_frame p s) p.carried h.carried (shelf-of s)

  pub ramp-called : (r : Rule) (s : Option (List ℕ)) (i : ℕ) → i < frame_length → let x = opening b k.retained s in let c = choice_in r p.carried (next_frame p s) i in
      ramp_by_rule (rule_number r) x.beside.timings x.blocks i (timed_on r k x).going ≡ record { number = accepted; choice = c; fraction = fraction c }
  ramp-called r s i l = ramp-on r k (opening b k.retained s) (next_frame p s) p.carried h.carried (shelf-of s) i l

  -- so that it gives 0, 8, 9 or 10
  pub timing-number : (r : Rule) (s : Option (List ℕ)) → Tested (timed_on r k (opening b k.retained s)).number
  unfolding timed verdict
  timing-number r s = rw (timing-called r s) (number_by r _ (next_frame p s).timings)

  -- and carry gives the same
  pub carry-number : (r : Rule) (s : Option (List ℕ)) → let x = opening b k.retained s in (carried_on r k x (timed_on r k x)).number ≡ (timed_on r k x).number
  carry-number r s = same_number r k (opening b k.retained s) (next_frame p s) p.carried h.carried (shelf-of s)

  called-lies : (e : Event) → let q = called k b e in Lies q.going q.carried (step p e).carried
  unfolding called step drop_ramp
  called-lies (frame r s) =
      frame-lies r k (opening b k.retained s) (next_frame p s) p.carried h.carried (shelf-of s) (step-formed p (frame r s) h.formed).carried
  called-lies gaps = lies-nothing k.carried h.carried.long
  called-lies resets = lies-nothing k.carried h.carried.long
  called-lies starts = lies-nothing k.carried h.carried.long

  -- and so are the tables behind every event
  pub called-carrying : (e : Event) → Carrying (called k b e) (step p e)
  called-carrying e =
      record {
        retained = rw (called-retained k b e, retained-step p e) (records-hold (brings e) (lend b k.retained) p.retained room h.retained);
        carried = called-lies e;
        formed = step-formed p e h.formed;
      }

-- the frame tables of a turn are long enough
abbrev pub Roomy : Turn → Type 0
Roomy t = Enough t.beside

-- from any start on
pub calls-carry : (k : Rack) (p : Playing) (ts : List Turn) → All Roomy ts → Carrying k p → Carrying (run turned k ts) (run step p (events ts))
unfolding run turned
calls-carry k p [] n h = h
calls-carry k p (t ∷ ts) n h = calls-carry (turned k t) (step p t.event) ts n.1 (called-carrying t.beside n.0 k p h t.event)

-- and so from a fresh decoder, with any table for the carried rows
pub calls-from-fresh : (l c : List ℤ) (ts : List Turn) → All Roomy ts → Holds l fresh → leb start_length (length c) ≡ true
    → Carrying (run turned (record { retained = l; carried = c; going = dropped }) ts) (run step silent (events ts))
unfolding silent
calls-from-fresh l c ts n h long = calls-carry _ silent ts n (record { retained = h; carried = lies-nothing c long; formed = silent-formed })
