-- Demand 3 where each call is lent what the last one left, as in the journal and in every rack.
use Prim.Native.Nat.{ℕ}
use mathlib.Core.Path.{◌≡◌}
use mathlib.Core.Bool.{true, false}
use mathlib.Core.List.{List, [], ◌∷◌, ◌++◌}
use lib.Dec.{leb}
use lib.ListN.{length}
use Rattle.standard.specs.Numbers.{retained_length}
use Rattle.standard.specs.Rows.{State, fresh}
use Rattle.standard.specs.Calls.{Lent, decode}
use Rattle.standard.specs.Journal.{Record, start_notice, reply_to}
use Rattle.standard.specs.Events.{Event, starts, run, gone_astray, first_gets, second_gets, state_after, first, second, after, first_call, second_call, beside}
use Rattle.standard.proofs.Marks.{no_gap, no_gap_lem, no-gap-since}
use Rattle.standard.proofs.Tabled.{Enough, Holds, start-holds, enough-after, records-hold}
use Rattle.standard.proofs.OnCalls.{CallsAlike, alike, CallsAgree, demand3-calls}
use Rattle.standard.proofs.MarksOnCalls.{FrameSettled, settled-call}

-- One side of a programme, by what it gets of each event

records-enough : (l : Lent) (rs : List Record) → Enough (beside l) → Enough (beside (run after l rs))
unfolding run
records-enough l [] n = n
records-enough l (r ∷ rs) n = records-enough (after l r) rs (enough-after l r n)

module _ (gets : Event → List Record) where
  side-enough : (l : Lent) (es : List Event) → Enough (beside l) → Enough (beside (run (λ l e. run after l (gets e)) l es))
  unfolding run
  side-enough l [] n = n
  side-enough l (e ∷ es) n = side-enough (run after l (gets e)) es (records-enough l (gets e) n)

  side-holds : (l : Lent) (st : State) (es : List Event) → Enough (beside l) → Holds l.retained st
      → Holds (run (λ l e. run after l (gets e)) l es).retained (run (λ st e. run state_after st (gets e)) st es)
  unfolding run
  side-holds l st [] n h = h
  side-holds l st (e ∷ es) n h =
      side-holds (run after l (gets e)) (run state_after st (gets e)) es (records-enough l (gets e) n) (records-hold (gets e) l st n h)

-- tables with room, whatever they hold
pub record Roomy (l : Lent) : Type 0 where
  pub retained : leb retained_length (length l.retained) ≡ true
  pub enough : Enough (beside l)

-- A decoder that begins with programme start

abbrev pub begun : Lent → Lent
begun l = after l start_notice

begun-holds : (l : Lent) → Roomy l → Holds (begun l).retained fresh
unfolding after reply_to
begun-holds l b = start-holds l.retained b.retained

begun-enough : (l : Lent) → Roomy l → Enough (beside (begun l))
begun-enough l b = enough-after l start_notice b.enough

-- Its frame tables keep their room, and its retained table stays in form.

module _ (l : Lent) (es : List Event) (b : Roomy l) where
  first-enough : Enough (beside (run first_call (begun l) es))
  unfolding first_call
  first-enough = side-enough first_gets (begun l) es (begun-enough l b)

  second-enough : Enough (beside (run second_call (begun l) es))
  unfolding second_call
  second-enough = side-enough second_gets (begun l) es (begun-enough l b)

  pub first-threaded : Holds (run first_call (begun l) es).retained (run first fresh es)
  unfolding first_call first
  first-threaded = side-holds first_gets (begun l) fresh es (begun-enough l b) (begun-holds l b)

  pub second-threaded : Holds (run second_call (begun l) es).retained (run second fresh es)
  unfolding second_call second
  second-threaded = side-holds second_gets (begun l) fresh es (begun-enough l b) (begun-holds l b)

-- Two decoders begin with programme start and follow one programme. Then a payload comes that both hear. What it tells by itself is the same,
pub alike-threaded : (l m : Lent) (es : List Event) (s : List ℕ) → Roomy l → Roomy m → CallsAlike (decode s (run first_call (begun l) es)) (decode s (run second_call (begun m) es))
alike-threaded l m es s b c =
    alike (beside (run first_call (begun l) es)) (beside (run second_call (begun m) es)) (run first_call (begun l) es).retained (run second_call (begun m) es).retained s
    (first-enough l es b) (second-enough m es c) (first-threaded l es b).good (second-threaded m es c).good

-- and so is the rest unless the second marks it unsettled, if the second has not gone astray.
pub demand3-threaded : (l m : Lent) (es : List Event) (s : List ℕ) → Roomy l → Roomy m → gone_astray es ≡ false
    → CallsAgree s (run first_call (begun l) es) (run second_call (begun m) es)
demand3-threaded l m es s b c a =
    demand3-calls (beside (run first_call (begun l) es)) (beside (run second_call (begun m) es)) (run first_call (begun l) es).retained (run second_call (begun m) es).retained es s
    (first-enough l es b) (second-enough m es c) (first-threaded l es b) (second-threaded m es c) a

-- None is unsettled without a gap or a reset since the programme start,
pub no-gap-threaded : (l : Lent) (es : List Event) (s : List ℕ) → Roomy l → no_gap es ≡ true → FrameSettled (decode s (run second_call (begun l) es))
no-gap-threaded l es s b e = settled-call s (run second_call (begun l) es) (rw (second-threaded l es b).state (no_gap_lem es e))

-- or since the last one.
pub no-gap-since-threaded : (l : Lent) (es es' : List Event) (s : List ℕ) → Roomy l → no_gap es' ≡ true
    → FrameSettled (decode s (run second_call (begun l) (es ++ starts ∷ es')))
no-gap-since-threaded l es es' s b e =
    settled-call s (run second_call (begun l) (es ++ starts ∷ es')) (rw (second-threaded l (es ++ starts ∷ es') b).state (no-gap-since es es' e))
