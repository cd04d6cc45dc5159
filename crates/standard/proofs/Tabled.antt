-- A retained table in form stands for a state, and the calls do to the table what the definitions do to the state.
use Prim.Native.Nat.{ℕ, ◌≤◌}
use mathlib.Core.Path.{◌≡◌, refl, subst, ◌∙◌, ap}
use mathlib.Core.Bool.{Bool, true, false, cond, ◌&&◌, false≢true}
use mathlib.Core.List.{List, [], ◌∷◌}
use native.Mathlib.Omega.{arith}
use lib.Dec.{leb, leb-zero}
use lib.IntN.{ℤ, pos}
use lib.ListN.{length, get_or, replicate, set, length-replicate}
use borrow.Author.Tests.{le-leb, leb-true}
use Rattle.bits.specs.Parsed.{Refusal, Parsed, got, refused}
use Rattle.bits.proofs.Always.{Ok, All}
use Rattle.standard.specs.Numbers.{object_limit, doubt_at, retained_length, start_length, blocks_length, timings_length, payload_limit, size, alone}
use Rattle.standard.specs.Tree.{Tree}
use Rattle.standard.specs.Syntax.{syntax}
use Rattle.standard.specs.Rows.{State, fresh}
use Rattle.standard.specs.Meaning.{retain, retain_if, taken, decoded, gapped}
use Rattle.standard.specs.Tables.{between, is_flag, rows_numbers, count_of, state_of, state_numbers, all_form, in_form}
use Rattle.standard.specs.Calls.{Lent, Done, over, unchanged, has_room, accept, decline, settle, decode, zeros, renewed, programme_start, reset, gap}
use Rattle.standard.specs.Journal.{Record, payload, gap_notice, reset_notice, start_notice, reply_to}
use Rattle.standard.specs.Events.{Event, run, first_gets, second_gets, state_after, first, second, after, first_call, second_call, Beside, lend, beside, Turn, events, first_turn, second_turn}
use Rattle.standard.proofs.Small.{and_left, and_right, both}
use Rattle.standard.proofs.RowsOfFrame.{last-rows-length}
use Rattle.standard.proofs.Forms.{RowOk}
use Rattle.standard.proofs.FormKept.{last-rows-form, all-form, form-all}
use Rattle.standard.proofs.Laid.{over-length, over-same, state-back, state-length}
use Rattle.standard.proofs.Endings.{Fit, fit}
use Rattle.standard.proofs.Lengths.{lengths-stay}

-- Tables that are long enough and in form

pub record Good (l : List ℤ) : Type 0 where
  pub long : leb retained_length (length l) ≡ true
  pub form : in_form l ≡ true

pub record Enough (b : Beside) : Type 0 where
  pub start : leb start_length (length b.start) ≡ true
  pub blocks : leb blocks_length (length b.blocks) ≡ true
  pub timings : leb timings_length (length b.timings) ≡ true

room : (b : Beside) (l : List ℤ) → Enough b → Good l → has_room (lend b l) ≡ true
unfolding has_room
room b l n g = rw (g.long, n.start, n.blocks, n.timings)

pub rows_in_lem : (l : List ℤ) → in_form l ≡ true → All RowOk (state_of l).rows
unfolding in_form
rows_in_lem l h = form-all (state_of l).rows (and_right (between (pos 0) (pos object_limit) (get_or l 0 (pos 0)) && is_flag (get_or l 1 (pos 0))) _ h)

-- A table that stands for a state

pub record Holds (l : List ℤ) (st : State) : Type 0 where
  pub good : Good l
  pub state : state_of l ≡ st

written-form : (st : State) (l : List ℤ) → is_flag st.doubt ≡ true → All RowOk st.rows → length st.rows ≤ object_limit → in_form (over (state_numbers st) l) ≡ true
unfolding in_form state_numbers
written-form st l d h n =
    both _ _ (both _ _ (both _ _ (leb-zero (length st.rows)) (le-leb _ object_limit n)) d)
    (ap (λ (s : State). all_form s.rows) (state-back st l) ∙ all-form st.rows h)

written-holds : (st : State) (l : List ℤ) → leb retained_length (length l) ≡ true → is_flag st.doubt ≡ true → All RowOk st.rows → length st.rows ≤ object_limit
    → Holds (over (state_numbers st) l) st
written-holds st l e d h n =
    let k = leb-true retained_length (length l) e in
    let m = state-length st n in
    record {
      good = record { long = ap (leb retained_length) (over-length (state_numbers st) l (omega arith)) ∙ e; form = written-form st l d h n };
      state = state-back st l;
    }

-- Decode

-- past the tests 5 and 6
pub decode-past : (b : Beside) (l : List ℤ) (s : List ℕ) → Enough b → Good l
    → decode s (lend b l) ≡ cond (leb (length s) payload_limit) (settle (lend b l) (syntax s)) (unchanged (lend b l) size)
unfolding decode
decode-past b l s n g = rw (room b l n g, g.form)

retain-holds : (l : List ℤ) (t : Tree) → Good l → Fit t → Holds (over (state_numbers (retain (state_of l) t)) l) (retain (state_of l) t)
unfolding retain
retain-holds l t g f =
    written-holds (retain (state_of l) t) l g.long refl (last-rows-form (state_of l) t f.first f.words (rows_in_lem l g.form))
    (let e = last-rows-length (state_of l) t in let n = f.sized.objects in omega arith)

settle-holds : (b : Beside) (l : List ℤ) (p : Parsed Tree) → Good l → Ok Fit p → Holds (settle (lend b l) p).lent.retained (retain_if (state_of l) p)
unfolding settle accept decline retain_if
settle-holds b l (got t q) g f = retain-holds l t g f
settle-holds b l (refused r) g f = record { good = g; state = refl }

decode-holds : (b : Beside) (l : List ℤ) (s : List ℕ) → Enough b → Good l → Holds (decode s (lend b l)).lent.retained (decoded (state_of l) s)
unfolding decoded taken retain_if
decode-holds b l s n g = rw (decode-past b l s n g) (go (leb (length s) payload_limit) (fit s))
  where
    go : (x : Bool) → Ok Fit (cond x (syntax s) (refused (alone size)))
        → Holds (cond x (settle (lend b l) (syntax s)) (unchanged (lend b l) size)).lent.retained (retain_if (state_of l) (cond x (syntax s) (refused (alone size))))
    go true f = settle-holds b l (syntax s) g f
    go false f = record { good = g; state = refl }

-- two calls on one payload, by the ways in which both end past the tests 5 and 6

module _ (Q : Tree → Type 0) (s : List ℕ) (holds : Ok Q (taken s)) where
  pub two-calls : (P : Done → Done → Type 0) (b c : Beside) (l m : List ℤ) → Enough b → Enough c → Good l → Good m
      → ((t : Tree) → Q t → P (accept (lend b l) (state_of l) t) (accept (lend c m) (state_of m) t))
      → ((r : Refusal) → P (decline (lend b l) r) (decline (lend c m) r))
      → P (unchanged (lend b l) size) (unchanged (lend c m) size)
      → P (decode s (lend b l)) (decode s (lend c m))
  unfolding taken settle
  two-calls P b c l m hb hc g h f k u = rw (decode-past b l s hb g, decode-past c m s hc h) (go (leb (length s) payload_limit) holds)
    where
      settled : (p : Parsed Tree) → Ok Q p → P (settle (lend b l) p) (settle (lend c m) p)
      settled (got t q) q' = f t q'
      settled (refused r) q' = k r

      go : (x : Bool) → Ok Q (cond x (syntax s) (refused (alone size)))
          → P (cond x (settle (lend b l) (syntax s)) (unchanged (lend b l) size)) (cond x (settle (lend c m) (syntax s)) (unchanged (lend c m) size))
      go true q = settled (syntax s) q
      go false q = u

-- Programme start, reset and gap

-- a decoder that keeps no rows
abbrev bare : ℤ → State
bare d = record { doubt = d; rows = [] }

renewed-holds : (d : ℤ) (new l : List ℤ) → new ≡ state_numbers (bare d) → is_flag d ≡ true → leb retained_length (length l) ≡ true → Holds (renewed new l).retained (bare d)
unfolding renewed object_limit
renewed-holds d new l n f e = rw (e, n) (written-holds (bare d) l e f tt (omega arith))

pub start-holds : (l : List ℤ) → leb retained_length (length l) ≡ true → Holds (programme_start l).retained fresh
unfolding programme_start fresh retained_length state_numbers rows_numbers
start-holds l e = renewed-holds (pos 0) zeros l refl refl e

reset-holds : (l : List ℤ) → leb retained_length (length l) ≡ true → Holds (reset l).retained (gapped fresh)
unfolding reset gapped fresh retained_length state_numbers rows_numbers
reset-holds l e = renewed-holds (pos 1) (set zeros doubt_at (pos 1)) l refl refl e

-- Zeros are what a programme start writes, in a table of any sufficient length,
pub start-of-zeros : (n : ℕ) → retained_length ≤ n → (programme_start (replicate n (pos 0))).retained ≡ replicate n (pos 0)
unfolding programme_start renewed
start-of-zeros n h = rw (length-replicate n (pos 0), le-leb retained_length n h) (over-same retained_length n (pos 0) h)

-- so they are a fresh decoder.
pub zeros-hold : (n : ℕ) → retained_length ≤ n → Holds (replicate n (pos 0)) fresh
zeros-hold n h =
    subst (λ l. Holds l fresh) (start-of-zeros n h) (start-holds (replicate n (pos 0)) (ap (leb retained_length) (length-replicate n (pos 0)) ∙ le-leb retained_length n h))

-- doubt is the second number, and the rows lie behind it
noted : (l : List ℤ) → leb retained_length (length l) ≡ true → in_form l ≡ true → Holds (set l 1 (pos 1)) (gapped (state_of l))
unfolding in_form state_of count_of gapped retained_length
noted [] e h = absurd (false≢true e)
noted (x ∷ []) e h = absurd (false≢true e)
noted (x ∷ y ∷ l) e h =
    record {
      good = record {
        long = e;
        form = both _ _ (both (between (pos 0) (pos object_limit) x) true (and_left (between (pos 0) (pos object_limit) x) (is_flag y) (and_left (between (pos 0) (pos object_limit) x && is_flag y) _ h)) refl) (and_right (between (pos 0) (pos object_limit) x && is_flag y) _ h);
      };
      state = refl;
    }

gap-holds : (l : List ℤ) → Good l → Holds (gap l).retained (gapped (state_of l))
unfolding gap
gap-holds l g = rw (g.long, g.form) (noted l g.long g.form)

-- A reset is a programme start and then a gap notice, for every table.

pub set-over : (l : List ℤ) → set (over zeros l) doubt_at (pos 1) ≡ over (set zeros doubt_at (pos 1)) l
unfolding retained_length
set-over l = refl

pub reset-is : (l : List ℤ) → reset l ≡ gap (programme_start l).retained
unfolding programme_start reset renewed gap
reset-is l = go (leb retained_length (length l)) refl
  where
    go : (b : Bool) → leb retained_length (length l) ≡ b → reset l ≡ gap (programme_start l).retained
    go true e = let g = rw e at (start-holds l e).good in rw (e, g.long, g.form, set-over l)
    go false e = rw (e, e)

-- and makes nothing of what was retained
over-again : (l : List ℤ) → over (set zeros doubt_at (pos 1)) (over zeros l) ≡ over (set zeros doubt_at (pos 1)) l
unfolding retained_length
over-again l = refl

pub reset-again : (l : List ℤ) → (reset (programme_start l).retained).retained ≡ (reset l).retained
unfolding programme_start reset renewed
reset-again l = go (leb retained_length (length l)) refl
  where
    go : (b : Bool) → leb retained_length (length l) ≡ b → (reset (programme_start l).retained).retained ≡ (reset l).retained
    go true e = let g = rw e at (start-holds l e).good.long in rw (e, g, over-again l)
    go false e = rw (e, e)

-- Programmes

record-holds : (l : Lent) (st : State) (r : Record) → Enough (beside l) → Holds l.retained st → Holds (after l r).retained (state_after st r)
unfolding after reply_to state_after
record-holds l st (payload s) n h = rw (← h.state) (decode-holds (beside l) l.retained s n h.good)
record-holds l st gap_notice n h = rw (← h.state) (gap-holds l.retained h.good)
record-holds l st reset_notice n h = reset-holds l.retained h.good.long
record-holds l st start_notice n h = start-holds l.retained h.good.long

-- room stays room
pub enough-after : (l : Lent) (r : Record) → Enough (beside l) → Enough (beside (after l r))
enough-after l r n =
    let e = lengths-stay l r in
    record {
      start = ap (leb start_length) e.start ∙ n.start;
      blocks = ap (leb blocks_length) e.blocks ∙ n.blocks;
      timings = ap (leb timings_length) e.timings ∙ n.timings;
    }

pub records-hold : (rs : List Record) (l : Lent) (st : State) → Enough (beside l) → Holds l.retained st → Holds (run after l rs).retained (run state_after st rs)
unfolding run
records-hold [] l st n h = h
records-hold (r ∷ rs) l st n h = records-hold rs (after l r) (state_after st r) (enough-after l r n) (record-holds l st r n h)

-- a step keeps a table and its state together wherever the turn has room
turns-hold : (Roomy : Turn → Type 0) (f : List ℤ → Turn → List ℤ) (g : State → Event → State)
    → ((l : List ℤ) (st : State) (t : Turn) → Roomy t → Holds l st → Holds (f l t) (g st t.event))
    → (l : List ℤ) (st : State) (ts : List Turn) → All Roomy ts → Holds l st → Holds (run f l ts) (run g st (events ts))
unfolding run
turns-hold Roomy f g k l st [] n h = h
turns-hold Roomy f g k l st (t ∷ ts) n h = turns-hold Roomy f g k (f l t) (g st t.event) ts n.1 (k l st t n.0 h)

-- A retained table that starts fresh stays in form, whatever frame tables are lent beside it, so that 6 never arises.

abbrev pub FirstRoomy : Turn → Type 0
FirstRoomy t = Enough t.one

abbrev pub SecondRoomy : Turn → Type 0
SecondRoomy t = Enough t.two

pub first_run : (l : List ℤ) (ts : List Turn) → All FirstRoomy ts → Holds l fresh → Holds (run first_turn l ts) (run first fresh (events ts))
unfolding first_turn first_call first
first_run l ts n h = turns-hold FirstRoomy first_turn first (λ l st t. records-hold (first_gets t.event) (lend t.one l) st) l fresh ts n h

pub second_run : (l : List ℤ) (ts : List Turn) → All SecondRoomy ts → Holds l fresh → Holds (run second_turn l ts) (run second fresh (events ts))
unfolding second_turn second_call second
second_run l ts n h = turns-hold SecondRoomy second_turn second (λ l st t. records-hold (second_gets t.event) (lend t.two l) st) l fresh ts n h
