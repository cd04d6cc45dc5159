-- Demand 3 of the calls and the tables that they leave.
use Prim.Native.Nat.{ℕ, ◌*◌}
use mathlib.Core.Path.{◌≡◌, refl, sym, ◌∙◌}
use mathlib.Core.Bool.{true, false}
use mathlib.Core.List.{List}
use lib.Dec.{leb}
use lib.IntN.{ℤ}
use lib.ListN.{length}
use Rattle.bits.specs.Parsed.{Refusal}
use Rattle.bits.proofs.Always.{Ok, All}
use Rattle.standard.specs.Numbers.{retained_length}
use Rattle.standard.specs.Tree.{Tree, kinds_of}
use Rattle.standard.specs.Rows.{Row, State, fresh, no_row}
use Rattle.standard.specs.Meaning.{start_rows, frame_rows, taken}
use Rattle.standard.specs.Tables.{rows_of, timings_of, state_of}
use Rattle.standard.specs.Calls.{Lent, Done, accept, decline, decode, programme_start}
use Rattle.standard.specs.Events.{Event, run, gone_astray, first, second, Beside, lend, Turn, events, first_turn, second_turn}
use Rattle.standard.proofs.Small.{Pairs}
use Rattle.standard.proofs.FirstUpdates.{TreeForm, first_block}
use Rattle.standard.proofs.Agreement.{Same, RowAgree}
use Rattle.standard.proofs.ByBlock.{blocks-pairs}
use Rattle.standard.proofs.Related.{StartAgree, nothing-agrees, starts-kinds, blocks-same, Agreement}
use Rattle.standard.proofs.Demand3.{demand3}
use Rattle.standard.proofs.ReadBack.{starts-written, blocks-written, timings-written}
use Rattle.standard.proofs.Tabled.{Good, Enough, Holds, start-holds, FirstRoomy, SecondRoomy, first_run, second_run, two-calls}

-- Two calls, by what is said of their start rows and of their block rows

-- the frame tables, over n objects and m blocks
pub record FramesMeet (S R : Row → Row → Type 0) (n m : ℕ) (x y : Lent) : Type 0 where
  pub timings : timings_of m x.timings ≡ timings_of m y.timings
  pub starts : Pairs S (rows_of n x.start) (rows_of n y.start)
  pub blocks : Pairs R (rows_of (m * n) x.blocks) (rows_of (m * n) y.blocks)

pub record CallsMeet (S R : Row → Row → Type 0) (x y : Done) : Type 0 where
  pub verdict : x.answer.verdict ≡ y.answer.verdict  -- number, context, place, missing bits
  pub objects : x.answer.objects ≡ y.answer.objects
  pub blocks : x.answer.blocks ≡ y.answer.blocks
  pub frames : FramesMeet S R x.answer.objects x.answer.blocks x.lent y.lent

module _ (S R : Row → Row → Type 0) where
  accept-meet : R no_row no_row → (x y : Lent) (a b : State) (t : Tree) → Pairs S (start_rows a (kinds_of t)) (start_rows b (kinds_of t)) → Pairs (Pairs R) (frame_rows a t) (frame_rows b t)
      → CallsMeet S R (accept x a t) (accept y b t)
  unfolding accept
  accept-meet none x y a b t h k =
      record {
        verdict = refl;
        objects = refl;
        blocks = refl;
        frames = record {
          timings = timings-written x a t ∙ sym (timings-written y b t);
          starts = rw (starts-written x a t, starts-written y b t) h;
          blocks = rw (blocks-written x a t, blocks-written y b t) (blocks-pairs R none (length t.timings) 0 (frame_rows a t) (frame_rows b t) k);
        };
      }

  nothing_written : (x y : Lent) → FramesMeet S R 0 0 x y
  unfolding timings_of rows_of
  nothing_written x y = record { timings = refl; starts = tt; blocks = tt }

  decline-meet : (x y : Lent) (r : Refusal) → CallsMeet S R (decline x r) (decline y r)
  unfolding decline
  decline-meet x y r = record { verdict = refl; objects = refl; blocks = refl; frames = nothing_written _ _ }

  -- of one payload, lent tables that are long enough and in form
  pub calls-meet : (Q : Tree → Type 0) (s : List ℕ) → Ok Q (taken s) → (b c : Beside) (l m : List ℤ) → Enough b → Enough c → Good l → Good m → R no_row no_row
      → ((t : Tree) → Q t → Pairs S (start_rows (state_of l) (kinds_of t)) (start_rows (state_of m) (kinds_of t)))
      → ((t : Tree) → Q t → Pairs (Pairs R) (frame_rows (state_of l) t) (frame_rows (state_of m) t))
      → CallsMeet S R (decode s (lend b l)) (decode s (lend c m))
  calls-meet Q s q b c l m hb hc g h none f k =
      two-calls Q s q (CallsMeet S R) b c l m hb hc g h (λ t p. accept-meet none _ _ _ _ t (f t p) (k t p)) (λ r. decline-meet _ _ r)
      (record { verdict = refl; objects = refl; blocks = refl; frames = nothing_written _ _ })

-- What a payload tells by itself: refusal, counts and timings, kinds, activity, gains and priorities

abbrev pub SameKind : Row → Row → Type 0
SameKind a b = a.kind ≡ b.kind

abbrev pub CallsAlike : Done → Done → Type 0
CallsAlike x y = CallsMeet SameKind Same x y

-- It depends on the payload alone, whatever tables in form are lent.
pub alike : (b c : Beside) (l m : List ℤ) (s : List ℕ) → Enough b → Enough c → Good l → Good m → CallsAlike (decode s (lend b l)) (decode s (lend c m))
alike b c l m s hb hc g h =
    calls-meet SameKind Same TreeForm s (first_block s) b c l m hb hc g h (record { kind = refl; active = refl; gain = refl; priority = refl })
    (λ t f. starts-kinds (state_of l) (state_of m) (kinds_of t)) (λ t f. blocks-same (state_of l) (state_of m) t f)

-- Demand 3

-- two calls on one payload, by what is lent to the first and to the second; the second decodes by f
abbrev pub AgreesBy : (List ℕ → Lent → Done) → List ℕ → Lent → Lent → Type 0
AgreesBy f s x y = CallsMeet (StartAgree (state_of y.retained).doubt) RowAgree (decode s x) (f s y)

abbrev pub CallsAgree : List ℕ → Lent → Lent → Type 0
CallsAgree s x y = AgreesBy decode s x y

-- Two tables stand for what the two decoders keep after one programme, and a payload comes that both hear. The second has not gone astray.
pub demand3-calls : (b c : Beside) (l m : List ℤ) (es : List Event) (s : List ℕ) → Enough b → Enough c → Holds l (run first fresh es) → Holds m (run second fresh es)
    → gone_astray es ≡ false → CallsAgree s (lend b l) (lend c m)
demand3-calls b c l m es s hb hc x y a =
    calls-meet (StartAgree (state_of m).doubt) RowAgree (Agreement (state_of l) (state_of m)) s (rw (x.state, y.state) (demand3 es s a)) b c l m hb hc x.good y.good nothing-agrees
    (λ t h. h.starts) (λ t h. h.blocks)

-- So it is where both begin with programme start, whatever was retained before, and at each event each side lends frame tables of its own.
pub demand3-turns : (b c : Beside) (l m : List ℤ) (ts : List Turn) (s : List ℕ) → Enough b → Enough c → All FirstRoomy ts → All SecondRoomy ts
    → leb retained_length (length l) ≡ true → leb retained_length (length m) ≡ true → gone_astray (events ts) ≡ false
    → CallsAgree s (lend b (run first_turn (programme_start l).retained ts)) (lend c (run second_turn (programme_start m).retained ts))
demand3-turns b c l m ts s hb hc n k hl hm a =
    demand3-calls b c (run first_turn (programme_start l).retained ts) (run second_turn (programme_start m).retained ts) (events ts) s hb hc
    (first_run (programme_start l).retained ts n (start-holds l hl)) (second_run (programme_start m).retained ts k (start-holds m hm)) a
