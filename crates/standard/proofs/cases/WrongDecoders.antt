-- Wrong decoders, each shown to break the promise of decode on a payload: those that the specification names under demands 2 and 3, and its easy errors.
use Prim.Native.Nat.{ℕ, ◌+◌, ◌*◌}
use mathlib.Core.Path.{◌≡◌, refl, sym, ◌∙◌, ap}
use mathlib.Core.Logic.{◌≢◌}
use mathlib.Core.Bool.{Bool, true, false, cond, not, ◌&&◌, true≢false}
use mathlib.Core.List.{List, [], ◌∷◌, ◌++◌, map, flatten}
use native.Mathlib.Omega.{arith}
use lib.Dec.{eqb}
use lib.IntN.{ℤ, pos, neg_ℤ, nat_abs}
use lib.ListN.{get_or, take, drop, replicate}
use Rattle.bits.specs.Parsed.{truncated}
use Rattle.standard.specs.Numbers.{retained_head, retained_length, start_length, blocks_length, timings_length, kind_at, x_at, z_at, mark_at}
use Rattle.standard.specs.Contexts as context
use Rattle.standard.specs.Rows.{Picture, Row, default_picture, its_lock, eqℤ, is}
use Rattle.standard.specs.Marks.{unsettled, bit_of, marked, bits_of}
use Rattle.standard.specs.Tables.{rows_numbers, rows_of, count_of}
use Rattle.standard.specs.Calls.{Lent, Done, over, decline, decode, timing_call}
use Rattle.standard.specs.Journal.{with_retained, reply_to, fresh_tables}
use Rattle.standard.specs.Events as events
use Rattle.standard.specs.Events.{run}
use Rattle.standard.proofs.MarkLaws.{none-differs}
use Rattle.standard.proofs.MarksOnCalls.{FrameSettled}
use Rattle.standard.proofs.Threaded.{no-gap-threaded}
use Rattle.standard.proofs.FromZeros.{Lengths, Sufficient, zero_tables, zeros-roomy}
use Rattle.standard.proofs.cases.Writer.{◌⊳◌, bytes, dynamic_only, said, block, timed, blocks, off, unity, place, first, rest_one, moved_one, written}

abbrev pub Decoder : Type 0
Decoder = List ℕ → Lent → Done

-- what a decoder promises
abbrev pub Keeps : Decoder → Type 0
Keeps f = (s : List ℕ) (l : Lent) → f s l ≡ decode s l

-- the promise broken on a payload and lent tables
abbrev pub Breaks : Decoder → List ℕ → Lent → Type 0
Breaks f s l = f s l ≢ decode s l

-- one broken promise is enough
pub wrong : (f : Decoder) (s : List ℕ) (l : Lent) → Breaks f s l → Keeps f → ⊥
wrong f s l h k = h (k s l)

-- a test that tells the two apart
pub tells : {a b : Done} (test : Done → Bool) → test a ≡ true → test b ≡ false → a ≢ b
tells test x y e = true≢false (sym x ∙ ap test e ∙ y)

-- What the tests look at

-- number i of the block table, of the retained table
abbrev pub block_is : ℕ → ℤ → Done → Bool
block_is i v d = eqℤ (get_or d.lent.blocks i (pos 0)) v

abbrev retained_is : ℕ → ℤ → Done → Bool
retained_is i v d = eqℤ (get_or d.lent.retained i (pos 0)) v

abbrev number_is : ℕ → Done → Bool
number_is n d = eqb d.answer.verdict.number n

-- Payloads in a row

-- the tables that a payload leaves, beginning fresh
abbrev pub after : List ℕ → Lent
after s = (decode s fresh_tables).lent

-- Demand 2

-- only refuses
unfoldable pub refusing : Decoder
refusing s l = decline l (truncated context.version 0 2 0)

pub only-refuses : Breaks refusing rest_one fresh_tables
unfolding written refusing
only-refuses = tells (number_is 1) refl refl

-- repeats one answer, that of a payload at rest
unfoldable pub repeating : Decoder
repeating s l = decode rest_one l

pub repeats-one-answer : Breaks repeating [] fresh_tables
unfolding written repeating
repeats-one-answer = tells (number_is 0) refl refl

-- answers truly and writes nothing
unfoldable pub idle : Decoder
idle s l = record { answer = (decode s l).answer; lent = l }

pub writes_nothing : Breaks idle rest_one fresh_tables
unfolding written idle
writes_nothing = tells (block_is kind_at (pos 0)) refl refl

-- Decodes one payload and from then on repeats its rows: where rows are retained, they are the frame, whatever the payload says

unfoldable pub copying : Decoder
copying s l =
    let d = decode s l in
    let rows = rows_of (count_of l.retained) (drop retained_head l.retained) in
    let frame : Done = record {
      answer = d.answer;
      lent = record {
        retained = l.retained;
        start = over (rows_numbers rows) l.start;
        blocks = over (rows_numbers (flatten (replicate d.answer.blocks rows))) l.blocks;
        timings = d.lent.timings;
      };
    } in
    cond (eqb (count_of l.retained) 0) d frame

pub first-is-true : copying moved_one fresh_tables ≡ decode moved_one fresh_tables
unfolding written copying
first-is-true = refl

-- the object was at (10, 20, 5), and the second payload moves it to (40, 50, 3)
pub copies-the-first : Breaks copying (said 1 (blocks 1 ++ first unity (place 40 50 1 3))) (after moved_one)
unfolding written copying
copies-the-first = tells (block_is x_at (pos 10)) refl refl

-- Demand 3

-- every row that a decoder writes, changed
unfoldable pub changing : (Row → Row) → Decoder
changing f s l =
    let d = decode s l in
    let n = d.answer.objects in
    let changed : ℕ → List ℤ → List ℤ = λ k t. over (rows_numbers (map f (rows_of k t))) t in
    record {
      answer = d.answer;
      lent = record {
        retained = take retained_head d.lent.retained ++ changed n (drop retained_head d.lent.retained);
        start = changed n d.lent.start;
        blocks = changed (d.answer.blocks * n) d.lent.blocks;
        timings = d.lent.timings;
      };
    }

-- the change alone is wrong: with none it gives what decode gives
pub changes-alone : changing (λ r. r) moved_one fresh_tables ≡ decode moved_one fresh_tables
unfolding written changing
changes-alone = refl

-- the mark rule, where there was no gap: beginning fresh, no row is unsettled, and none is counted
abbrev pub KeepsMarks : Decoder → Type 0
KeepsMarks f = (s : List ℕ) → FrameSettled (f s fresh_tables)

-- the lengths of fresh tables
abbrev pub exact : Lengths
exact = record { retained = retained_length; start = start_length; blocks = blocks_length; timings = timings_length }

pub exact-suffice : Sufficient exact
exact-suffice = record { retained = omega arith; start = omega arith; blocks = omega arith; timings = omega arith }

-- decode keeps it
pub decode-keeps-marks : KeepsMarks decode
unfolding fresh_tables run events.after reply_to
decode-keeps-marks s = no-gap-threaded (zero_tables exact) [] s (zeros-roomy exact exact-suffice) refl

-- a row with another mark
abbrev pub with_mark : (ℤ → ℤ) → Row → Row
with_mark f r = record { kind = r.kind; active = r.active; gain = r.gain; priority = r.priority; picture = r.picture; mark = f r.mark }

-- marks all unsettled
unfoldable pub unsettling : Row → Row
unsettling r = with_mark (λ m. unsettled) r

pub marks-all-unsettled : Breaks (changing unsettling) rest_one fresh_tables
unfolding written changing unsettling
marks-all-unsettled = tells (block_is mark_at (pos 0)) refl refl

pub unsettling-breaks-the-mark-rule : KeepsMarks (changing unsettling) → ⊥
unfolding written changing unsettling
unsettling-breaks-the-mark-rule h = none-differs (h rest_one).blocks.rows.0

-- marks one group unsettled, the lock: the bits that are left are not all
unfoldable pub unlocking : Row → Row
unlocking r = with_mark (λ m. pos (bits_of (λ g. marked g m && not (marked g (pos (bit_of its_lock)))))) r

pub marks-a-group-unsettled : Breaks (changing unlocking) rest_one fresh_tables
unfolding written changing unlocking
marks-a-group-unsettled = tells (block_is mark_at (pos 15)) refl refl

pub unlocking-breaks-the-mark-rule : KeepsMarks (changing unlocking) → ⊥
unfolding written changing unlocking
unlocking-breaks-the-mark-rule h = let e : ◌≡◌ {A = ℕ} 15 31 = ap nat_abs (h rest_one).blocks.rows.0 in omega arith

-- invents the unsettled count
unfoldable pub inventing : Decoder
inventing s l =
    let d = decode s l in
    let a = d.answer in
    record { answer = record { verdict = a.verdict; objects = a.objects; blocks = a.blocks; unsettled = a.unsettled + 1 }; lent = d.lent }

pub invents-the-count : Breaks inventing rest_one fresh_tables
unfolding written inventing
invents-the-count = tells (λ d. eqb d.answer.unsettled 1) refl refl

pub inventing-breaks-the-mark-rule : KeepsMarks inventing → ⊥
unfolding written inventing
inventing-breaks-the-mark-rule h = let e = (h rest_one).blocks.count in omega arith

-- The specification, section 16, "Easy errors"

-- a second size group that is cut passes for Truncated
unfoldable pub truncating : Decoder
truncating s l =
    let d = decode s l in
    let v = d.answer.verdict in
    cond (eqb v.number 3 && eqb v.context context.element-size) (decline l (truncated context.element-size v.place 4 0)) d

pub calls-a-cut-group-truncated : Breaks truncating (bytes (dynamic_only 1 0 ++ 1 ⊳ 0 ++ 4 ⊳ 1 ++ 4 ⊳ 1 ++ 4 ⊳ 0 ++ 1 ⊳ 1)) fresh_tables
unfolding written truncating
calls-a-cut-group-truncated = tells (number_is 1) refl refl

-- the sign of Z is turned
unfoldable pub mirrored : Row → Row
mirrored r =
    let p = r.picture in
    let q : Picture = record {
      position = record { point = record { x = p.position.point.x; y = p.position.point.y; z = neg_ℤ p.position.point.z }; distance = p.position.distance };
      zone = p.zone;
      size = p.size;
      screen = p.screen;
      lock = p.lock;
    } in
    record { kind = r.kind; active = r.active; gain = r.gain; priority = r.priority; picture = q; mark = r.mark }

pub takes-sign-1-as-negative : Breaks (changing mirrored) moved_one fresh_tables
unfolding written changing mirrored
takes-sign-1-as-negative = tells (block_is z_at (neg_ℤ (pos 5))) refl refl

-- rest loses the picture
unfoldable pub cleared : Row → Row
cleared r =
    record { kind = r.kind; active = r.active; gain = r.gain; priority = r.priority; picture = cond (is 0 r.active) default_picture r.picture; mark = r.mark }

pub clears-the-picture : Breaks (changing cleared) rest_one (after moved_one)
unfolding written changing cleared
clears-the-picture = tells (block_is x_at (pos 31)) refl refl

-- a frame whose timings are refused is not retained
unfoldable pub undoing : Decoder
undoing s l =
    let d = decode s l in
    cond (eqb (timing_call d.lent.timings d.answer.blocks) 0) d (record { answer = d.answer; lent = with_retained d.lent l.retained })

pub undoes-retention : Breaks undoing (said 1 (timed (2 ⊳ 0) (block 49 (2 ⊳ 0) ∷ []) ++ off)) fresh_tables
unfolding written undoing
undoes-retention = tells (retained_is 0 (pos 0)) refl refl
