-- The tables of a frame, with its counts, are the frame of the definitions.
use Prim.Native.Nat.{ℕ, zero, suc, ◌-◌, ◌≤◌}
use mathlib.Core.Path.{◌≡◌, refl, ◌∙◌}
use mathlib.Core.Bool.{Bool, true, false, cond, ◌&&◌, false≢true}
use mathlib.Core.List.{List}
use mathlib.Core.Option.{Option, none, some}
use native.Mathlib.Omega.{arith}
use borrow.Author.Tests.{leb-true, ne_eqb}
use lib.Dec.{leb}
use lib.IntN.{ℤ, pos, negsuc, nat_abs}
use lib.ListN.{length, get_or, length-map}
use lib.Signed.{le_z}
use Rattle.bits.specs.Parsed.{Refusal, Parsed, got, refused}
use Rattle.bits.proofs.Always.{Ok}
use Rattle.standard.specs.Numbers.{object_limit, block_limit, start_length, payload_limit, accepted, size, alone}
use Rattle.standard.specs.Tree.{Tree}
use Rattle.standard.specs.Syntax.{syntax}
use Rattle.standard.specs.Meaning.{held_row, held_rows, taken}
use Rattle.standard.specs.Tables.{up_to, is_flag, rows_of, rows_numbers, timings_of, count_of, state_of, in_form}
use Rattle.standard.specs.Calls.{over, unchanged, accept, decline, settle, decode}
use Rattle.standard.specs.CarriedCalls.{hold, table_rows}
use Rattle.standard.specs.Journal.{payload, reply_to}
use Rattle.standard.specs.Events.{after, Beside, lend, beside}
use Rattle.standard.proofs.Small.{and_left, and_right}
use Rattle.standard.proofs.Bounds.{bounded}
use Rattle.standard.proofs.Laid.{over-length, rows_back, rows-of-length}
use Rattle.standard.proofs.ReadBack.{starts-written, block_written, timings-written}
use Rattle.standard.proofs.Endings.{Fit, fit}
use Rattle.standard.proofs.Lengths.{rows_fit}
use Rattle.standard.proofs.Tabled.{Good, Enough, decode-past, enough-after}
use Rattle.programmes.specs.Programmes.{Frame, tree_of, said, frame_of, numbered, before_last}
use Rattle.programmes.specs.Racks.{Shelf, held, shelved, opening}

-- A shelf that holds a frame

pub record OnShelf (x : Shelf) (f : Frame) : Type 0 where
  pub few : x.objects ≤ object_limit
  pub short : x.blocks ≤ block_limit
  pub room : Enough x.beside
  pub start : rows_of x.objects x.beside.start ≡ f.start
  pub timings : timings_of x.blocks x.beside.timings ≡ f.timings
  pub before : table_rows x.beside.start x.beside.blocks x.objects (x.blocks - 1) ≡ before_last f

-- a table that is long enough stays so
pub stays-long : {A : Type 0} (n : ℕ) (new l : List A) → length new ≤ n → leb n (length l) ≡ true → leb n (length (over new l)) ≡ true
stays-long n new l h e = let k = leb-true n (length l) e in rw (over-length new l (omega arith)) e

-- Held

count_small : (z : ℤ) → up_to object_limit z ≡ true → nat_abs z ≤ object_limit
count_small (pos n) h = leb-true n object_limit (and_right (le_z (pos 0) (pos n)) (le_z (pos n) (pos object_limit)) h)
count_small (negsuc n) h = absurd (false≢true h)

count-in : (l : List ℤ) → in_form l ≡ true → count_of l ≤ object_limit
unfolding in_form count_of
count-in l h =
    let z = get_or l 0 (pos 0) in
    let flag = is_flag (get_or l 1 (pos 0)) in
    count_small z (and_left (up_to object_limit z) flag (and_left (up_to object_limit z && flag) _ h))

module _ (l : List ℤ) (good : Good l) (start : List ℤ) (long : leb start_length (length start) ≡ true) where
  held-count : length (held_rows (state_of l)) ≡ count_of l
  unfolding state_of
  held-count = length-map (state_of l).rows (held_row (state_of l).doubt) ∙ rows-of-length (count_of l) _

  held-few : length (held_rows (state_of l)) ≤ object_limit
  held-few = let e = held-count in let k = count-in l good.form in omega arith

  -- hold is accepted wherever tables are long enough and in form
  pub hold-passes : hold l start ≡ record { number = accepted; objects = count_of l; start = over (rows_numbers (held_rows (state_of l))) start }
  unfolding hold
  hold-passes = rw (good.long, long, good.form)

  pub held_back : rows_of (count_of l) (over (rows_numbers (held_rows (state_of l))) start) ≡ held_rows (state_of l)
  held_back = rw (← held-count) (rows_back (held_rows (state_of l)) _)

held-shelf : (l : List ℤ) (good : Good l) (b : Beside) (room : Enough b) → OnShelf (held l b) (frame_of (state_of l) none)
unfolding held frame_of timings_of table_rows numbered
held-shelf l good b room =
    let rows = held_rows (state_of l) in
    let short = rows_fit rows (held-few l good b.start room.start) in
    let back = held_back l good b.start room.start in
    rw (hold-passes l good b.start room.start) (record {
      few = count-in l good.form;
      short = omega arith;
      room = record { start = stays-long start_length (rows_numbers rows) b.start short room.start; blocks = room.blocks; timings = room.timings };
      start = back;
      timings = refl;
      before = back;
    })

-- Decoded

module _ (l : List ℤ) (b : Beside) (t : Tree) (fits : Fit t) where
  -- rows by number
  numbered-table : (n : ℕ) → n ≤ length t.timings → let d = (accept (lend b l) (state_of l) t).lent in
      table_rows d.start d.blocks (length t.objects) n ≡ numbered (frame_of (state_of l) (some t)) n
  unfolding table_rows numbered frame_of
  numbered-table zero h = starts-written (lend b l) (state_of l) t
  numbered-table (suc n) h = block_written (lend b l) (state_of l) t n h

  accept-shelf : let d = accept (lend b l) (state_of l) t in Enough (beside d.lent) → OnShelf (shelved d) (frame_of (state_of l) (some t))
  unfolding shelved accept frame_of
  accept-shelf room =
      record {
        few = fits.sized.objects;
        short = fits.sized.blocks;
        room = room;
        start = starts-written (lend b l) (state_of l) t;
        timings = timings-written (lend b l) (state_of l) t;
        before = numbered-table (length t.timings - 1) (omega arith);
      }

refused-shelf : (l : List ℤ) (good : Good l) (b : Beside) (r : Refusal) → 1 ≤ r.number → let d = decline (lend b l) r in
    Enough (beside d.lent) → OnShelf (shelved d) (frame_of (state_of l) none)
unfolding shelved decline
refused-shelf l good b r h room = rw (ne_eqb r.number accepted (λ e. omega arith)) (held-shelf l good _ room)

-- A frame's tables, from retained ones that are in form and frame tables that are long enough

pub opening-shelf : (l : List ℤ) (good : Good l) (b : Beside) (room : Enough b) (s : Option (List ℕ)) → OnShelf (opening b l s) (frame_of (state_of l) (said s))
unfolding opening said taken tree_of settle shelved after reply_to
opening-shelf l good b room none = held-shelf l good b room
opening-shelf l good b room (some s) =
    let past = decode-past b l s room good in
    let long : Enough (beside (decode s (lend b l)).lent) = enough-after (lend b l) (payload s) room in
    rw past (go (leb (length s) payload_limit) (fit s) (rw past at long))
  where
    settled : (p : Parsed Tree) → syntax s ≡ p → Ok Fit p → let d = settle (lend b l) p in Enough (beside d.lent) → OnShelf (shelved d) (frame_of (state_of l) (tree_of p))
    settled (got t q) e f n = accept-shelf l b t f n
    settled (refused r) e f n = refused-shelf l good b r (bounded s e).above n

    go : (x : Bool) → let p = cond x (syntax s) (refused (alone size)) in let d = cond x (settle (lend b l) (syntax s)) (unchanged (lend b l) size) in
        Ok Fit p → Enough (beside d.lent) → OnShelf (shelved d) (frame_of (state_of l) (tree_of p))
    go true f n = settled (syntax s) refl f n
    go false f n = held-shelf l good b room
