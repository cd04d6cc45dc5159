-- The specification, section 5, "Calls": what each public call answers, and what it leaves in the lent lists.
use Rattle.std.specs.Prelude.{ℕ, ◌+◌, ◌*◌, Bool, cond, ◌&&◌, List, [], ◌++◌, leb, ltb, eqb, ℤ, pos, Float, length, take, drop, replicate, set}
use Rattle.bits.specs.Parsed.{Parsed, got, refused, Refusal}
use Rattle.standard.specs.Numbers.{doubt_at, row_width, block_limit, retained_length, start_length, blocks_length, timings_length, payload_limit, container_limit, frame_length, alone}
use Rattle.standard.specs.Numbers as number
use Rattle.standard.specs.Tree.{Tree, kinds_of}
use Rattle.standard.specs.Syntax.{syntax}
use Rattle.standard.specs.Rows.{State}
use Rattle.standard.specs.Meaning.{start_rows, frame_rows, last_rows, retain, unsettled_count}
use Rattle.standard.specs.Tables.{row_of, rows_numbers, by_block, timing_numbers, timings_of, state_of, state_numbers, shown_form, in_form}
use Rattle.standard.specs.Timing.{timing_test}
use Rattle.standard.specs.Floats.{nought}
use Rattle.standard.specs.Ramps.{Choice, choice, fraction}
use Rattle.standard.specs.Shown.{Shown, shown, nothing_shown}
use Rattle.standard.specs.Container.{container}

module _ {A : Type 0} where
  -- the list l with `new` written over its head
  abbrev pub over : List A → List A → List A
  over new l = new ++ drop (length new) l

-- Decode

pub record Lent : Type 0 where
  pub retained : List ℤ
  pub start : List ℤ
  pub blocks : List ℤ
  pub timings : List ℕ

pub record Answer : Type 0 where
  pub verdict : Refusal  -- number 0 on acceptance
  pub objects : ℕ
  pub blocks : ℕ
  pub unsettled : ℕ

pub record Done : Type 0 where
  pub answer : Answer
  pub lent : Lent

-- a refusal has no objects, blocks or unsettled rows
abbrev pub refusal : Refusal → Answer
refusal r = record { verdict = r; objects = 0; blocks = 0; unsettled = 0 }

-- refused before the payload is read: nothing changes
abbrev pub unchanged : Lent → ℕ → Done
unchanged l n = record { answer = refusal (alone n); lent = l }

unfoldable pub has_room : Lent → Bool
has_room l =
    leb retained_length (length l.retained) && leb start_length (length l.start)
    && leb blocks_length (length l.blocks) && leb timings_length (length l.timings)

-- the rows and timings of the frame are written, and all retained numbers; what lies behind stays
unfoldable pub accept : Lent → State → Tree → Done
accept l st t =
    let n = length t.objects in
    let b = length t.timings in
    record {
      answer = record { verdict = alone number.accepted; objects = n; blocks = b; unsettled = unsettled_count (last_rows st t) };
      lent = record {
        retained = over (state_numbers (retain st t)) l.retained;
        start = over (rows_numbers (start_rows st (kinds_of t))) l.start;
        blocks = over (rows_numbers (by_block b 0 (frame_rows st t))) l.blocks;
        timings = over (timing_numbers t.timings) l.timings;
      };
    }

-- the frame tables become 0 as far as they are needed; the retained table stays
unfoldable pub decline : Lent → Refusal → Done
decline l r =
    record {
      answer = refusal r;
      lent = record {
        retained = l.retained;
        start = over (replicate start_length (pos 0)) l.start;
        blocks = over (replicate blocks_length (pos 0)) l.blocks;
        timings = over (replicate timings_length 0) l.timings;
      };
    }

unfoldable pub settle : Lent → Parsed Tree → Done
settle l (got t p) = accept l (state_of l.retained) t
settle l (refused r) = decline l r

-- room, form and size (5, 6, 7) come before the payload
unfoldable pub decode : List ℕ → Lent → Done
decode s l =
    cond (has_room l)
    (cond (in_form l.retained)
    (cond (leb (length s) payload_limit) (settle l (syntax s)) (unchanged l number.size))
    (unchanged l number.form))
    (unchanged l number.room)

-- Programme start, reset and gap

pub record Kept : Type 0 where
  pub number : ℕ
  pub retained : List ℤ

-- the retained numbers of a fresh decoder: no objects, no doubt
abbrev pub zeros : List ℤ
zeros = replicate retained_length (pos 0)

-- all retained numbers are written anew, whatever stood there; what lies behind stays
unfoldable pub renewed : List ℤ → List ℤ → Kept
renewed new l =
    cond (leb retained_length (length l)) (record { number = number.accepted; retained = over new l })
    (record { number = number.room; retained = l })

unfoldable pub programme_start : List ℤ → Kept
programme_start l = renewed zeros l

-- the same but for the doubt
unfoldable pub reset : List ℤ → Kept
reset l = renewed (set zeros doubt_at (pos 1)) l

-- the doubt alone changes
unfoldable pub gap : List ℤ → Kept
gap l =
    cond (leb retained_length (length l))
    (cond (in_form l) (record { number = number.accepted; retained = set l doubt_at (pos 1) }) (record { number = number.form; retained = l }))
    (record { number = number.room; retained = l })

-- Timing and ramp: two numbers per block

unfoldable pub timing_call : List ℕ → ℕ → ℕ
timing_call l blocks =
    cond (leb blocks block_limit)
    (cond (leb (2 * blocks) (length l)) (timing_test (timings_of blocks l)) number.room)
    number.query

pub record RampAnswer : Type 0 where
  pub number : ℕ
  pub choice : Choice
  pub fraction : Float

abbrev pub no_ramp : ℕ → RampAnswer
no_ramp n = record { number = n; choice = record { from = 0; to = 0; elapsed = 0; duration = 0 }; fraction = nought }

unfoldable pub ramp_call : List ℕ → ℕ → ℕ → RampAnswer
ramp_call l blocks sample =
    let c = choice sample (timings_of blocks l) in
    cond (ltb sample frame_length && leb blocks block_limit)
    (cond (leb (2 * blocks) (length l)) (record { number = number.accepted; choice = c; fraction = fraction c }) (no_ramp number.room))
    (no_ramp number.query)

-- A row of a table: its part, and what is shown of it

-- the numbers of row i
unfoldable pub row_part : List ℤ → ℕ → List ℤ
row_part l i = take row_width (drop (i * row_width) l)

-- outside its table, then out of form
unfoldable pub row_number : List ℤ → ℕ → ℕ
row_number l i =
    cond (leb ((i + 1) * row_width) (length l)) (cond (shown_form (row_of (row_part l i))) number.accepted number.form) number.index

pub record PartAnswer : Type 0 where
  pub number : ℕ
  pub part : List ℤ

unfoldable pub part_call : List ℤ → ℕ → PartAnswer
part_call l i =
    let n = row_number l i in
    record { number = n; part = cond (eqb n number.accepted) (row_part l i) [] }

pub record ShownAnswer : Type 0 where
  pub number : ℕ
  pub shown : Shown

unfoldable pub shown_call : List ℤ → ℕ → ShownAnswer
shown_call l i =
    let n = row_number l i in
    record { number = n; shown = cond (eqb n number.accepted) (shown (row_of (row_part l i))) nothing_shown }

-- Containers: the first object payload's bytes, at the front of a lent buffer

pub record Taken : Type 0 where
  pub number : ℕ
  pub length : ℕ
  pub buffer : List ℕ

-- refused: the buffer stays
abbrev pub untaken : List ℕ → ℕ → Taken
untaken b n = record { number = n; length = 0; buffer = b }

unfoldable pub taken : List ℕ → Parsed (List ℕ) → Taken
taken b (got bytes p) = record { number = number.accepted; length = length bytes; buffer = over bytes b }
taken b (refused r) = untaken b r.number

-- room and size (5, 7) come before the container
unfoldable pub emdf_call : List ℕ → List ℕ → Taken
emdf_call s b =
    cond (leb payload_limit (length b))
    (cond (leb (length s) container_limit) (taken b (container s (length s * 8) 0)) (untaken b number.size))
    (untaken b number.room)

-- What computing opens

unfoldable pub computed : Unit {0}
unfolding has_room accept decline settle decode renewed programme_start reset gap timing_call ramp_call row_part row_number part_call shown_call taken emdf_call
computed = tt
