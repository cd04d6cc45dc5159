-- Request Q-7, "Ramps over the frame edge": what its calls answer, and what they leave in the lent lists.
use Rattle.std.specs.Prelude.{ℕ, zero, suc, ◌*◌, ◌-◌, Bool, true, cond, ◌&&◌, ◌||◌, List, leb, ltb, eqb, ℤ, length, drop}
use Rattle.std.proofs.Math.Option.{Option, none, some}
use Rattle.standard.specs.Numbers.{row_width, object_limit, block_limit, retained_length, start_length, blocks_length, frame_length}
use Rattle.standard.specs.Numbers as number
use Rattle.standard.specs.Tree.{Timing}
use Rattle.standard.specs.Rows.{Row}
use Rattle.standard.specs.Meaning.{held_rows}
use Rattle.standard.specs.Tables.{rows_of, rows_numbers, timings_of, count_of, state_of, all_shown, in_form}
use Rattle.standard.specs.Ramps.{fraction}
use Rattle.standard.specs.Carried.{Rule, rule1, rule2, rule_of, Carried, nothing, remains, taken_up, timing_by, choice_by, carried_by}
use Rattle.standard.specs.Calls.{over, RampAnswer, no_ramp}

-- The three lent numbers, beside the table of the carried rows

pub record Going : Type 0 where
  pub objects : ℕ
  pub elapsed : ℕ
  pub duration : ℕ

-- nothing is carried
abbrev pub dropped : Going
dropped = record { objects = 0; elapsed = 0; duration = 0 }

unfoldable pub carried_of : Going → List ℤ → Carried
carried_of g l = cond (eqb g.duration 0) nothing (record { rows = rows_of g.objects l; elapsed = g.elapsed; duration = g.duration })

abbrev pub going_of : Carried → Going
going_of c = record { objects = length c.rows; elapsed = c.elapsed; duration = c.duration }

-- Tests of what is lent

module _ {A : Type 0} where
  -- the rule's number, the ranges, the room and the form, in this order
  unfoldable pub tested : Option Rule → Bool → (Rule → Bool) → (Rule → Bool) → (ℕ → A) → (Rule → A) → A
  tested none within room form refuse go = refuse number.unknown_rule
  tested (some r) within room form refuse go =
      cond within (cond (room r) (cond (form r) (go r) (refuse number.form)) (refuse number.room)) (refuse number.query)

abbrev pub counts_within : ℕ → ℕ → Bool
counts_within blocks objects = leb blocks block_limit && leb objects object_limit

-- two numbers per block
abbrev pub timings_room : List ℕ → ℕ → Bool
timings_room timings blocks = leb (2 * blocks) (length timings)

abbrev pub frame_room : List ℕ → ℕ → List ℤ → Bool
frame_room timings blocks start = timings_room timings blocks && leb start_length (length start)

-- rule 1 tests nothing that is carried
unfoldable pub carried_room : List ℤ → Rule → Bool
carried_room l rule1 = true
carried_room l rule2 = leb start_length (length l)

-- nor is it tested where nothing is carried
unfoldable pub going_form : Going → Rule → Bool
going_form g rule1 = true
going_form g rule2 = eqb g.duration 0 || (ltb g.elapsed g.duration && leb g.objects object_limit)

unfoldable pub carried_form : Going → List ℤ → Rule → Bool
carried_form g l rule1 = true
carried_form g l rule2 = going_form g rule2 && (eqb g.duration 0 || all_shown (rows_of g.objects l))

-- Hold: the start rows of a frame without blocks

pub record HoldAnswer : Type 0 where
  pub number : ℕ
  pub objects : ℕ
  pub start : List ℤ

abbrev pub not_held : List ℤ → ℕ → HoldAnswer
not_held start n = record { number = n; objects = 0; start = start }

unfoldable pub hold : List ℤ → List ℤ → HoldAnswer
hold retained start =
    cond (leb retained_length (length retained) && leb start_length (length start))
    (cond (in_form retained)
    (record { number = number.accepted; objects = count_of retained; start = over (rows_numbers (held_rows (state_of retained))) start })
    (not_held start number.form))
    (not_held start number.room)

-- Timing, before a frame

pub record TimingAnswer : Type 0 where
  pub number : ℕ
  pub going : Going

-- 8, 9 and 10 drop the carried ramp
unfoldable pub timed : ℕ → Carried → TimingAnswer
timed n c = record { number = n; going = cond (eqb n number.accepted) (going_of c) dropped }

-- kinds first, then the timings
unfoldable pub timing_under : Rule → List Timing → Carried → List Row → TimingAnswer
timing_under r ts c start =
    let c' = taken_up r c start in
    timed (timing_by r (remains c') ts) c'

unfoldable pub timing_by_rule : ℕ → List ℕ → ℕ → ℕ → List ℤ → List ℤ → Going → TimingAnswer
timing_by_rule rule timings blocks objects start carried g =
    tested (rule_of rule) (counts_within blocks objects)
    (λ r. frame_room timings blocks start && carried_room carried r)
    (carried_form g carried)
    (λ n. record { number = n; going = g })
    (λ r. timing_under r (timings_of blocks timings) (carried_of g carried) (rows_of objects start))

-- Ramp, at a sample

unfoldable pub ramp_under : Rule → List Timing → Going → ℕ → RampAnswer
ramp_under r ts g sample =
    let c = choice_by r g.elapsed g.duration sample ts in
    record { number = number.accepted; choice = c; fraction = fraction c }

unfoldable pub ramp_by_rule : ℕ → List ℕ → ℕ → ℕ → Going → RampAnswer
ramp_by_rule rule timings blocks sample g =
    tested (rule_of rule) (ltb sample frame_length && leb blocks block_limit)
    (λ r. timings_room timings blocks)
    (going_form g)
    no_ramp
    (λ r. ramp_under r (timings_of blocks timings) g sample)

-- Carry, behind a frame

pub record CarryAnswer : Type 0 where
  pub number : ℕ
  pub going : Going
  pub carried : List ℤ

-- rows by number: 0 the start rows, b + 1 those of block b
unfoldable pub table_rows : List ℤ → List ℤ → ℕ → ℕ → List Row
table_rows start blocks objects zero = rows_of objects start
table_rows start blocks objects (suc b) = rows_of objects (drop (b * objects * row_width) blocks)

-- what goes over is written over the head of the table
unfoldable pub carry_under : Rule → List Timing → Carried → List Row → List ℤ → CarryAnswer
carry_under r ts c rows l =
    let n = timing_by r (remains c) ts in
    let c' = carried_by r c rows ts in
    cond (eqb n number.accepted) (record { number = n; going = going_of c'; carried = over (rows_numbers c'.rows) l })
    (record { number = n; going = dropped; carried = l })

unfoldable pub carry : ℕ → List ℕ → ℕ → ℕ → List ℤ → List ℤ → List ℤ → Going → CarryAnswer
carry rule timings blocks objects start block_rows carried g =
    tested (rule_of rule) (counts_within blocks objects)
    (λ r. frame_room timings blocks start && (leb blocks_length (length block_rows) && carried_room carried r))
    (carried_form g carried)
    (λ n. record { number = n; going = g; carried = carried })
    (λ r. carry_under r (timings_of blocks timings) (carried_of g carried) (table_rows start block_rows objects (blocks - 1)) carried)

-- Drop: a gap, a reset, a programme's start

unfoldable pub drop_ramp : Going → Going
drop_ramp g = dropped

-- What computing opens

unfoldable pub computed : Unit {0}
unfolding carried_of tested carried_room going_form carried_form hold timed timing_under timing_by_rule ramp_under ramp_by_rule table_rows carry_under carry drop_ramp
computed = tt
