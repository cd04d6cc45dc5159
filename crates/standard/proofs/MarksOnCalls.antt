-- The mark rules of demand 3, of the calls and the tables that they leave.
use Prim.Native.Nat.{ℕ, ◌*◌}
use mathlib.Core.Path.{◌≡◌, refl}
use mathlib.Core.Bool.{true}
use mathlib.Core.List.{List, [], ◌∷◌, ◌++◌}
use lib.Dec.{leb}
use lib.IntN.{ℤ}
use lib.ListN.{length}
use Rattle.bits.specs.Parsed.{Refusal}
use Rattle.bits.proofs.Always.{All}
use Rattle.standard.specs.Numbers.{retained_length}
use Rattle.standard.specs.Tree.{Kind, Tree, kinds_of}
use Rattle.standard.specs.Rows.{Row, State, fresh}
use Rattle.standard.specs.Meaning.{start_rows, frame_rows}
use Rattle.standard.specs.Tables.{rows_of, state_of}
use Rattle.standard.specs.Calls.{Lent, Done, accept, decline, decode, programme_start}
use Rattle.standard.specs.Events.{Event, starts, run, second, Beside, lend, Turn, events, second_turn}
use Rattle.standard.proofs.Small.{Pairs}
use Rattle.standard.proofs.ReadBack.{starts-written, blocks-written, first-written, block-rows-have}
use Rattle.standard.proofs.Marks.{Marked, Settled, starts-marked, blocks-marked, count-settled, no_gap, no_gap_lem, no-gap-since, ActiveRow, active-rows-settle}
use Rattle.standard.proofs.Endings.{Fit, ends}
use Rattle.standard.proofs.Tabled.{SecondRoomy, start-holds, second_run}

-- no block row that a call wrote is unsettled, and none is counted
pub record BlocksSettled (d : Done) : Type 0 where
  pub rows : All Marked (rows_of (d.answer.blocks * d.answer.objects) d.lent.blocks)
  pub count : d.answer.unsettled ≡ 0

-- nor any start row
pub record FrameSettled (d : Done) : Type 0 where
  pub starts : All Marked (rows_of d.answer.objects d.lent.start)
  pub blocks : BlocksSettled d

accept-settled : (l : Lent) (st : State) (t : Tree) → Fit t → All (All Marked) (frame_rows st t) → BlocksSettled (accept l st t)
unfolding accept
accept-settled l st t f h =
    record { rows = rw (blocks-written l st t) (block-rows-have Marked st t f.sized h); count = count-settled st t f.first h }

accept-starts : (l : Lent) (st : State) (t : Tree) → Settled st → All Marked (rows_of (accept l st t).answer.objects (accept l st t).lent.start)
unfolding accept
accept-starts l st t h = rw (starts-written l st t) (forget (kinds_of t) (start_rows st (kinds_of t)) (starts-marked st (kinds_of t) h))
  where
    forget : (ks : List Kind) (rs : List Row) → Pairs (λ k. Marked) ks rs → All Marked rs
    forget [] [] h = tt
    forget [] (r ∷ rs) h = absurd h
    forget (k ∷ ks) [] h = tt
    forget (k ∷ ks) (r ∷ rs) h = (h.0, forget ks rs h.1)

nothing-unsettled : (d : Done) → d.answer.objects ≡ 0 → d.answer.blocks ≡ 0 → d.answer.unsettled ≡ 0 → FrameSettled d
unfolding rows_of
nothing-unsettled d n m u = record { starts = rw n tt; blocks = record { rows = rw (n, m) tt; count = u } }

decline-settled : (l : Lent) (r : Refusal) → FrameSettled (decline l r)
unfolding decline
decline-settled l r = nothing-unsettled _ refl refl refl

-- Without a gap

pub settled-call : (s : List ℕ) (l : Lent) → Settled (state_of l.retained) → FrameSettled (decode s l)
settled-call s l h =
    ends FrameSettled s l (λ n x y. nothing-unsettled _ refl refl refl) (λ p r b. decline-settled l r)
    (λ p t f. record {
      starts = accept-starts l (state_of l.retained) t h;
      blocks = accept-settled l (state_of l.retained) t f (blocks-marked (state_of l.retained) t h);
    })

-- whatever was retained before the programme start, and whatever frame tables are lent at each event and at last
module _ (b : Beside) (l : List ℤ) (ts : List Turn) (s : List ℕ) (roomy : All SecondRoomy ts) (long : leb retained_length (length l) ≡ true) where
  settled-turns : Settled (run second fresh (events ts)) → FrameSettled (decode s (lend b (run second_turn (programme_start l).retained ts)))
  settled-turns h = settled-call s (lend b (run second_turn (programme_start l).retained ts)) (rw (second_run (programme_start l).retained ts roomy (start-holds l long)).state h)

  -- None is unsettled without a gap or a reset since the programme start,
  pub no-gap-call : no_gap (events ts) ≡ true → FrameSettled (decode s (lend b (run second_turn (programme_start l).retained ts)))
  no-gap-call e = settled-turns (no_gap_lem (events ts) e)

  -- or since the last one.
  pub no-gap-since-call : (es es' : List Event) → events ts ≡ es ++ starts ∷ es' → no_gap es' ≡ true
      → FrameSettled (decode s (lend b (run second_turn (programme_start l).retained ts)))
  no-gap-since-call es es' d e = settled-turns (rw d (no-gap-since es es' e))

-- Active first blocks

-- in the first block that a call wrote, every Dynamic object is active
abbrev pub FirstActive : Done → Type 0
FirstActive d = All ActiveRow (rows_of d.answer.objects d.lent.blocks)

accept-active : (l : Lent) (st : State) (t : Tree) → Fit t → FirstActive (accept l st t) → BlocksSettled (accept l st t)
unfolding accept
accept-active l st t f h = accept-settled l st t f (active-rows-settle st t f.first (rw (first-written l st t f.sized.first) at h))

-- A payload with every Dynamic object active in its first block settles all its blocks, whatever was retained.
pub all-active-call : (s : List ℕ) (l : Lent) → FirstActive (decode s l) → BlocksSettled (decode s l)
all-active-call s l =
    ends (λ d. FirstActive d → BlocksSettled d) s l (λ n x y h. (nothing-unsettled _ refl refl refl).blocks) (λ p r b h. (decline-settled l r).blocks)
    (λ p t f h. accept-active l (state_of l.retained) t f h)
