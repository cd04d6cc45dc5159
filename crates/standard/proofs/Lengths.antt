-- No call changes the length of a table, whatever is lent.
use Prim.Native.Nat.{ℕ, ◌*◌, ◌≤◌}
use mathlib.Core.Path.{◌≡◌, refl, ◌∙◌}
use mathlib.Core.Bool.{Bool, true, false, cond, ◌&&◌}
use mathlib.Core.List.{List}
use native.Mathlib.Nat.{mul-le-mul_left}
use native.Mathlib.Omega.{arith}
use borrow.Author.Tests.{leb-true}
use lib.Dec.{leb}
use lib.IntN.{ℤ, pos}
use lib.ListN.{length, replicate, set, length-replicate, length-set}
use Rattle.standard.specs.Numbers.{doubt_at, row_width, object_limit, block_limit, retained_length, start_length, blocks_length, timings_length}
use Rattle.standard.specs.Numbers as number
use Rattle.standard.specs.Tree.{Tree, kinds_of}
use Rattle.standard.specs.Rows.{Row, State}
use Rattle.standard.specs.Meaning.{start_rows, retain}
use Rattle.standard.specs.Tables.{rows_numbers, timing_numbers, state_of, state_numbers, in_form}
use Rattle.standard.specs.Calls.{Lent, over, has_room, accept, decline, decode, Kept, zeros, renewed, programme_start, reset, gap}
use Rattle.standard.specs.Journal.{Record, payload, gap_notice, reset_notice, start_notice, reply_to}
use Rattle.standard.specs.Events.{after}
use Rattle.standard.proofs.Small.{and_left, and_right}
use Rattle.standard.proofs.RowsOfFrame.{last-rows-length}
use Rattle.standard.proofs.ReadBack.{block_rows, starts-count, blocks-count}
use Rattle.standard.proofs.Laid.{over-length, rows-length, timings-length, state-length}
use Rattle.standard.proofs.Counts.{Sized}
use Rattle.standard.proofs.Endings.{ends}

pub record SameLengths (l m : Lent) : Type 0 where
  pub retained : length m.retained ≡ length l.retained
  pub start : length m.start ≡ length l.start
  pub blocks : length m.blocks ≡ length l.blocks
  pub timings : length m.timings ≡ length l.timings

-- the needed lengths are there
record Room (l : Lent) : Type 0 where
  retained : retained_length ≤ length l.retained
  start : start_length ≤ length l.start
  blocks : blocks_length ≤ length l.blocks
  timings : timings_length ≤ length l.timings

has_room_lem : (l : Lent) → has_room l ≡ true → Room l
unfolding has_room
has_room_lem l h =
    let a = leb retained_length (length l.retained) in
    let b = leb start_length (length l.start) in
    let c = leb blocks_length (length l.blocks) in
    let d = leb timings_length (length l.timings) in
    let h₃ = and_left (a && b && c) d h in
    let h₂ = and_left (a && b) c h₃ in
    record {
      retained = leb-true _ _ (and_left a b h₂);
      start = leb-true _ _ (and_right a b h₂);
      blocks = leb-true _ _ (and_right (a && b) c h₃);
      timings = leb-true _ _ (and_right (a && b && c) d h);
    }

-- Decode

pub rows_fit : (rs : List Row) → length rs ≤ object_limit → length (rows_numbers rs) ≤ start_length
unfolding start_length row_width object_limit
rows_fit rs h = let e = rows-length rs in omega arith

starts_fit : (st : State) (t : Tree) → Sized t → length (rows_numbers (start_rows st (kinds_of t))) ≤ start_length
starts_fit st t n = rows_fit (start_rows st (kinds_of t)) (let c = starts-count st t in let h = n.objects in omega arith)

blocks-fit : (st : State) (t : Tree) → Sized t → length (rows_numbers (block_rows st t)) ≤ blocks_length
unfolding blocks_length row_width object_limit block_limit
blocks-fit st t n =
    let e = rows-length (block_rows st t) in
    let c = blocks-count st t in
    let h : length t.timings * length t.objects ≤ length t.timings * object_limit = mul-le-mul_left (length t.timings) n.objects in
    let k = n.blocks in
    omega arith

timings-fit : (t : Tree) → Sized t → length (timing_numbers t.timings) ≤ timings_length
unfolding timings_length block_limit
timings-fit t n =
    let e = timings-length t.timings in
    let h = n.blocks in
    omega arith

retained-fit : (st : State) (t : Tree) → Sized t → length (state_numbers (retain st t)) ≤ retained_length
unfolding retain
retained-fit st t n =
    let c = last-rows-length st t in
    let h = n.objects in
    let e = state-length (retain st t) (omega arith) in
    omega arith

module _ {A : Type 0} where
  over-within : (new l : List A) (n : ℕ) → length new ≤ n → n ≤ length l → length (over new l) ≡ length l
  over-within new l n h k = over-length new l (omega arith)

  over-all : (n : ℕ) (a : A) (l : List A) → n ≤ length l → length (over (replicate n a) l) ≡ length l
  over-all n a l k = let e = length-replicate n a in over-length (replicate n a) l (omega arith)

decode-lengths : (s : List ℕ) (l : Lent) → SameLengths l (decode s l).lent
unfolding accept decline
decode-lengths s l =
    ends (λ d. SameLengths l d.lent) s l (λ n x y. record { retained = refl; start = refl; blocks = refl; timings = refl })
    (λ h r b.
    let z = has_room_lem l h.room in
    record {
      retained = refl;
      start = over-all start_length (pos 0) l.start z.start;
      blocks = over-all blocks_length (pos 0) l.blocks z.blocks;
      timings = over-all timings_length 0 l.timings z.timings;
    })
    (λ h t f.
    let z = has_room_lem l h.room in
    let st = state_of l.retained in
    record {
      retained = over-within (state_numbers (retain st t)) l.retained retained_length (retained-fit st t f.sized) z.retained;
      start = over-within (rows_numbers (start_rows st (kinds_of t))) l.start start_length (starts_fit st t f.sized) z.start;
      blocks = over-within (rows_numbers (block_rows st t)) l.blocks blocks_length (blocks-fit st t f.sized) z.blocks;
      timings = over-within (timing_numbers t.timings) l.timings timings_length (timings-fit t f.sized) z.timings;
    })

-- Programme start, reset and gap

renewed-length : (new l : List ℤ) → length new ≡ retained_length → length (renewed new l).retained ≡ length l
unfolding renewed
renewed-length new l e = go (leb retained_length (length l)) refl
  where
    go : (b : Bool) → leb retained_length (length l) ≡ b
        → length (cond {A = Kept} b (record { number = number.accepted; retained = over new l }) (record { number = number.room; retained = l })).retained ≡ length l
    go true h = let k = leb-true retained_length (length l) h in over-length new l (omega arith)
    go false h = refl

start-length : (l : List ℤ) → length (programme_start l).retained ≡ length l
unfolding programme_start
start-length l = renewed-length zeros l (length-replicate retained_length (pos 0))

reset-length : (l : List ℤ) → length (reset l).retained ≡ length l
unfolding reset
reset-length l = renewed-length (set zeros doubt_at (pos 1)) l (length-set zeros doubt_at (pos 1) ∙ length-replicate retained_length (pos 0))

gap_length : (l : List ℤ) → length (gap l).retained ≡ length l
unfolding gap
gap_length l = go (leb retained_length (length l)) (in_form l)
  where
    go : (x y : Bool)
        → length (cond {A = Kept} x (cond y (record { number = number.accepted; retained = set l 1 (pos 1) }) (record { number = number.form; retained = l })) (record { number = number.room; retained = l })).retained ≡ length l
    go true true = length-set l 1 (pos 1)
    go true false = refl
    go false y = refl

-- Every record
pub lengths-stay : (l : Lent) (r : Record) → SameLengths l (after l r)
unfolding after reply_to
lengths-stay l (payload s) = decode-lengths s l
lengths-stay l gap_notice = record { retained = gap_length l.retained; start = refl; blocks = refl; timings = refl }
lengths-stay l reset_notice = record { retained = reset-length l.retained; start = refl; blocks = refl; timings = refl }
lengths-stay l start_notice = record { retained = start-length l.retained; start = refl; blocks = refl; timings = refl }
