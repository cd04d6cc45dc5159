-- The specification, section 12, "Journal", in three layers: the bytes are cut into records, each record has a reply, each reply is a line.
use Rattle.std.specs.Prelude.{ℕ, zero, suc, ◌+◌, ◌*◌, ◌/◌, ◌%◌, true, false, cond, ◌&&◌, List, [], ◌∷◌, ◌++◌, eqb, leb, ltb, ℤ, pos, length, take, drop, replicate}
use Rattle.standard.specs.Numbers.{start_length, blocks_length, timings_length, accepted}
use Rattle.standard.specs.Calls.{Lent, Answer, decode, zeros, programme_start, reset, gap}

-- Bytes to records

pub data Record : Type 0 where
  payload : List ℕ → Record
  gap_notice reset_notice start_notice : Record

-- What stands at the head of the bytes that have arrived
pub data Step : Type 0 where
  whole : Record → ℕ → Step  -- a record of so many bytes
  more : Step  -- a record that has not arrived whole
  unknown : Step  -- a mark that no record has

-- behind the mark: a length in two bytes, the higher first, and so many bytes
unfoldable pub payload_step : List ℕ → Step
payload_step [] = more
payload_step (high ∷ []) = more
payload_step (high ∷ low ∷ s) =
    let n = high * 256 + low in
    cond (leb n (length s)) (whole (payload (take n s)) (n + 4)) more

-- 50 4C is a payload, 47 50 a gap, 52 53 a reset, 50 53 a programme start
unfoldable pub step : List ℕ → Step
step [] = more
step (a ∷ []) = more
step (a ∷ b ∷ s) =
    cond (eqb a 0x50 && eqb b 0x4c) (payload_step s)
    (cond (eqb a 0x47 && eqb b 0x50) (whole gap_notice 2)
    (cond (eqb a 0x52 && eqb b 0x53) (whole reset_notice 2)
    (cond (eqb a 0x50 && eqb b 0x53) (whole start_notice 2) unknown)))

pub data Ending : Type 0 where
  complete : Ending
  torn : ℕ → Ending  -- at this offset
  bad_mark : ℕ → Ending

-- a record and the byte offset where it begins
pub record Entry : Type 0 where
  pub what : Record
  pub offset : ℕ

pub record Journal : Type 0 where
  pub entries : List Entry
  pub ending : Ending

abbrev pub ended : Ending → Journal
ended e = record { entries = []; ending = e }

abbrev pub entered : Entry → Journal → Journal
entered x j = record { entries = x ∷ j.entries; ending = j.ending }

-- no whole record is left: any bytes that are, even one, are torn
unfoldable pub rest : ℕ → List ℕ → Ending
rest at [] = complete
rest at (a ∷ s) = torn at

-- the journal from offset `at`; a record has 2 bytes at least, so as many turns as bytes suffice
unfoldable pub journal_from : ℕ → ℕ → List ℕ → Journal
journal_from zero at s = ended (rest at s)
journal_from (suc n) at s = elim (step s) [
  | whole r k ↦ entered (record { what = r; offset = at }) (journal_from n (at + k) (drop k s))
  | more ↦ ended (rest at s)
  | unknown ↦ ended (bad_mark at)
]

unfoldable pub journal : List ℕ → Journal
journal s = journal_from (length s) 0 s

-- Records to replies

pub data Reply : Type 0 where
  answered : Answer → Reply
  noted : Reply
  cleared : Reply
  started : Reply

pub record Replied : Type 0 where
  pub reply : Reply
  pub lent : Lent

abbrev pub with_retained : Lent → List ℤ → Lent
with_retained l r = record { retained = r; start = l.start; blocks = l.blocks; timings = l.timings }

unfoldable pub reply_to : Lent → Record → Replied
reply_to l (payload s) = let d = decode s l in record { reply = answered d.answer; lent = d.lent }
reply_to l gap_notice = record { reply = noted; lent = with_retained l (gap l.retained).retained }
reply_to l reset_notice = record { reply = cleared; lent = with_retained l (reset l.retained).retained }
reply_to l start_notice = record { reply = started; lent = with_retained l (programme_start l.retained).retained }

-- the program's own tables: all zeros, and then begun with a programme start
unfoldable pub fresh_tables : Lent
fresh_tables =
    record {
      retained = (programme_start zeros).retained;
      start = replicate start_length (pos 0);
      blocks = replicate blocks_length (pos 0);
      timings = replicate timings_length 0;
    }

-- Replies to lines, in ASCII

unfoldable pub digits_of : ℕ → ℕ → List ℕ → List ℕ
digits_of zero v tail = tail
digits_of (suc n) v tail = elim (ltb v 10) [
  | true ↦ (48 + v) ∷ tail
  | false ↦ digits_of n (v / 10) ((48 + v % 10) ∷ tail)
]

-- a number has no more digits than its value and one
unfoldable pub decimal : ℕ → List ℕ
decimal v = digits_of (suc v) v []

-- each behind a space
unfoldable pub spaced : List ℕ → List ℕ
spaced [] = []
spaced (v ∷ vs) = 32 ∷ decimal v ++ spaced vs

-- `ok` with objects, blocks, unsettled; or `no` with number, context, place, missing bits
unfoldable pub answer_text : Answer → List ℕ
answer_text a =
    let v = a.verdict in
    cond (eqb v.number accepted)
    (111 ∷ 107 ∷ spaced (a.objects ∷ a.blocks ∷ a.unsettled ∷ []))
    (110 ∷ 111 ∷ spaced (v.number ∷ v.context ∷ v.place ∷ v.missing ∷ []))

-- or `gap`, `reset`, `start`
unfoldable pub reply_text : Reply → List ℕ
reply_text (answered a) = answer_text a
reply_text noted = 103 ∷ 97 ∷ 112 ∷ []
reply_text cleared = 114 ∷ 101 ∷ 115 ∷ 101 ∷ 116 ∷ []
reply_text started = 115 ∷ 116 ∷ 97 ∷ 114 ∷ 116 ∷ []

-- record number, byte offset, reply
unfoldable pub line : ℕ → ℕ → Reply → List ℕ
line number offset r = decimal number ++ spaced (offset ∷ []) ++ 32 ∷ reply_text r ++ 10 ∷ []

-- `end` records, `torn` offset, `mark` offset
unfoldable pub last_line : ℕ → Ending → List ℕ
last_line records complete = 101 ∷ 110 ∷ 100 ∷ spaced (records ∷ []) ++ 10 ∷ []
last_line records (torn offset) = 116 ∷ 111 ∷ 114 ∷ 110 ∷ spaced (offset ∷ []) ++ 10 ∷ []
last_line records (bad_mark offset) = 109 ∷ 97 ∷ 114 ∷ 107 ∷ spaced (offset ∷ []) ++ 10 ∷ []

-- n records were printed before
unfoldable pub lines_from : ℕ → Lent → List Entry → Ending → List ℕ
lines_from n l [] e = last_line n e
lines_from n l (x ∷ xs) e =
    let r = reply_to l x.what in
    line (suc n) x.offset r.reply ++ lines_from (suc n) r.lent xs e

-- what the journal program prints
unfoldable pub printed : List ℕ → List ℕ
printed s = let j = journal s in lines_from 0 fresh_tables j.entries j.ending

-- What computing opens

unfoldable pub computed : Unit {0}
unfolding payload_step step rest journal_from journal reply_to fresh_tables digits_of decimal spaced answer_text reply_text line last_line lines_from printed
computed = tt
