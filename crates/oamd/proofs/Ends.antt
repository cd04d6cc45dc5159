-- The ways that decode can end, and what each leaves.
use Rattle.std.proofs.Common.{◌≡◌, ℕ, zero, suc, ◌+◌, ◌*◌, ◌-◌, ◌≤◌, ◌<◌, refl, sym, ◌∙◌, ap, subst, List, [], ◌∷◌, ◌++◌, map, ℤ, pos, length, get_or, take, drop, replicate, Result, Ok, Err, arith}
use native.Mathlib.Nat.{suc-mul}
use Rattle.std.proofs.lemmas.List.{length-replicate, take-append-drop}
use Rattle.std.proofs.lemmas.Bool.{le-leb}
use Rattle.std.proofs.lemmas.Bool.Decides.{nat_tests}
use Rattle.bits.specs.Parsed.{Parsed, got, refused}
use Rattle.bits.specs.Say as bits
use Rattle.bits.specs.declared.refusals.Fault.{Fault}
use Rattle.bits.specs.declared.refusals.Refusal.{Refusal}
use Rattle.bits.proofs.Always.{All}
use Rattle.standard.specs.Numbers.{row_width, retained_length, start_length, blocks_length, timings_length, payload_limit}
use Rattle.standard.specs.Tree.{Object, Tree, kinds_of}
use Rattle.standard.specs.Rows.{Row, State, no_row}
use Rattle.standard.specs.Meaning.{start_rows, object_rows, all_rows, gain_of, frame_rows, last_rows, retain}
use Rattle.standard.specs.Syntax.{syntax}
use Rattle.standard.specs.Tables.{rows_numbers, rows_of, by_block, state_of}
use Rattle.standard.specs.Calls.{Lent, Done, over, has_room, accept, decline, settle, decode}
use Rattle.standard.proofs.RowsOfFrame.{object-rows-length, frame-rows-length, last-rows-length}
use Rattle.standard.proofs.Retention.{last-numbers}
use Rattle.standard.proofs.Counts.{Sized}
use Rattle.objects.proofs.Parts.{fit}
use Rattle.rows.proofs.Written.{over-same}
use Rattle.rows.proofs.Rows.{rows_back}
use Rattle.oamd.specs.Whole.{Whole, Lending, payload_in, whole_of}
use Rattle.oamd.specs.Ends.{Readable, Unreadable, last_of, Retainable, Retained}
use Rattle.oamd.specs.Tables.{Kept, Cleared}
use Rattle.oamd.specs.Telling.{said_whole}
use Rattle.oamd.specs.Promises.{Left}
use Rattle.oamd.specs.declared.decoder.Frame.{Frame}
use Rattle.oamd.specs.declared.decoder.DecodeError.{DecodeError}
use Rattle.oamd.specs.declared.decoder.DecodeError.TheVariants.{Refused, Unread}
use Rattle.oamd.specs.declared.payload.Counts.{Counts}
use Rattle.oamd.specs.declared.tables.BlockTables.{BlockTables}
use Rattle.oamd.proofs.Telling.{Tells, frame-told, refusal-told, sized-tree}

-- The tests before the payload

pub unread : {s : List ℕ} {l : Lent} {f : Fault} → Unreadable s l f → Left (decode s l) (Err (Unread f)) l.retained l.start l.blocks l.timings
unread u = rw u.stays (record { answer = refl; its_case = u.few; retained = refl; start = refl; blocks = refl; timings = refl })

module _ {s : List ℕ} {l : Lent} (r : Readable s l) where
  taken-up : decode s l ≡ settle l (syntax s)
  unfolding decode
  taken-up = rw (r.room, r.form, le-leb (length s) payload_limit r.near) refl

  pub room-retained : retained_length ≤ length l.retained
  unfolding has_room
  room-retained = let h = r.room in grind (arith, nat_tests)

  pub room-start : start_length ≤ length l.start
  unfolding has_room
  room-start = let h = r.room in grind (arith, nat_tests)

  pub room-blocks : blocks_length ≤ length l.blocks
  unfolding has_room
  room-blocks = let h = r.room in grind (arith, nat_tests)

  pub room-timings : timings_length ≤ length l.timings
  unfolding has_room
  room-timings = let h = r.room in grind (arith, nat_tests)

-- The last block, as it lies in the table

pub last-place : (m n : ℕ) → 0 < m → (m - 1) * n * row_width + n * row_width ≡ m * n * row_width
unfolding row_width
last-place zero n h = absurd (omega arith)
last-place (suc m) n h =
    let e : suc m - 1 ≡ m = omega arith in
    let f : suc m * n ≡ m * n + n = suc-mul m n in
    rw (e, f) (omega arith)

rows_taken : (n : ℕ) (rs : List Row) (l : List ℤ) → length rs ≡ n → take (n * row_width) l ≡ rows_numbers rs → rows_of n l ≡ rs
rows_taken n rs l e h =
    ap (rows_of n) (sym (take-append-drop (n * row_width) l) ∙ ap (λ (z : List ℤ). z ++ drop (n * row_width) l) h)
    ∙ rw (← e) (rows_back rs _)

rows-full : (n : ℕ) (os : List Object) (rs : List Row) (gs : List ℤ) → All (λ (o : Object). length o.updates ≡ n) os → All (λ (q : List Row). length q ≡ n) (all_rows os rs gs)
unfolding all_rows
rows-full n [] rs gs h = tt
rows-full n (o ∷ os) rs gs h =
    let r = get_or rs 0 no_row in
    (object-rows-length o.kind o.updates gs r ∙ h.0, rows-full n os (drop 1 rs) (map gain_of (object_rows o.kind r o.updates gs)) h.1)

last-rows : (st : State) (t : Tree) (b : List ℤ) → Sized t
    → last_of (length t.objects) (length t.timings) (over (rows_numbers (by_block (length t.timings) 0 (frame_rows st t))) b) ≡ last_rows st t
unfolding last_rows frame_rows
last-rows st t b z =
    let m = length t.timings in
    let n = length t.objects in
    let written = rows_numbers (by_block m 0 (frame_rows st t)) in
    let e : m ≡ suc (m - 1) = omega (arith, z.first) in
    let full = rw e at (rows-full m t.objects (start_rows st (kinds_of t)) [] z.full) in
    rows_taken n (last_rows st t) (drop ((m - 1) * n * row_width) (over written b)) (last-rows-length st t)
    (rw (frame-rows-length st t, ← e) at (last-numbers (m - 1) (frame_rows st t) (drop (length written) b) full))

-- The payload was read

abbrev pub lends : Lent → Lending
lends l = record { start = l.start; blocks = l.blocks; timings = l.timings }

-- as a whole, from its first bit
abbrev pub read_of : List ℕ → Lent → Parsed Whole
read_of s l = payload_in (state_of l.retained) (lends l) s (length s * 8) 0

module _ {s : List ℕ} {l : Lent} (read : Readable s l) (counts : Counts) (s' : List ℤ) (b : BlockTables) {p : ℕ} (there : got (said_whole s' b counts) p ≡ read_of s l) where
  told : Tells (state_of l.retained) (lends l) s (said_whole s' b counts)
  told = frame-told (state_of l.retained) (lends l) s there

  pub retainable : Retainable counts l.retained b.blocks.now
  unfolding whole_of
  retainable =
      let t = told in
      let z = sized-tree s read.near t.said in
      let n = ap (λ (v : Whole). v.objects) t.leaves in
      let m = ap (λ (v : Whole). v.count) t.leaves in
      let f = fit counts.blocks counts.objects (omega (arith, z.blocks, m)) (omega (arith, z.objects, n)) in
      let room = b.for_blocks in
      record { few = omega (arith, z.objects, n); some = omega (arith, z.first, m); long = room-retained read; there = omega arith }

  kept_by : Whole → Frame → List ℤ → Type 0
  kept_by v f r' = Retained (record { objects = v.objects; blocks = v.count }) v.blocks f l.retained r' → Left (accept l (state_of l.retained) told.tree) (Ok f) r' v.start v.blocks v.timings

  pub accepted : {f : Frame} {r' : List ℤ} → Retained counts b.blocks.now f l.retained r' → Left (decode s l) (Ok f) r' s' b.blocks.now b.timings.now
  unfolding settle whole_of accept retain kept_by
  accepted {f} {r'} k = rw (taken-up read, told.said) (subst (λ v. kept_by v f r') told.leaves go k)
    where
      go : kept_by (whole_of (state_of l.retained) (lends l) told.tree) f r'
      go h =
          let last = last-rows (state_of l.retained) told.tree l.blocks (sized-tree s read.near told.said) in
          record {
            answer = rw (h.counts, last) refl;
            its_case = tt;
            retained = rw last at h.kept;
            start = refl;
            blocks = refl;
            timings = refl;
          }

-- The payload was refused

cleared-same : {A : Type 0} (a : A) (n : ℕ) (l m : List A) → drop n l ≡ drop n m → over (replicate n a) l ≡ over (replicate n a) m
cleared-same a n l m e = over-same (replicate n a) l m n (length-replicate n a) e

module _ {s : List ℕ} {l : Lent} (read : Readable s l) {z : Refusal} (there : refused (bits.refusal z) ≡ read_of s l) where
  pub declined : (s' : List ℤ) {a b d : BlockTables} → drop start_length s' ≡ drop start_length l.start → a.blocks.now ≡ l.blocks → a.timings.now ≡ l.timings → Kept a b → Cleared b d
      → Left (decode s l) (Err (Refused z)) l.retained (over (replicate start_length (pos 0)) s') d.blocks.now d.timings.now
  unfolding settle decline
  declined s' {b = b} rest eb et k c =
      rw (taken-up read, refusal-told (state_of l.retained) (lends l) s there) (record {
        answer = refl;
        its_case = tt;
        retained = refl;
        start = cleared-same (pos 0) start_length s' l.start rest;
        blocks = c.its_blocks ∙ cleared-same (pos 0) blocks_length b.blocks.now l.blocks (k.blocks_rest ∙ ap (drop blocks_length) eb);
        timings = c.its_timings ∙ cleared-same 0 timings_length b.timings.now l.timings (k.timings_rest ∙ ap (drop timings_length) et);
      })

-- what the caller finds in its tables
pub settled : {d : Done} {a : Result Frame DecodeError} {r s b : List ℤ} {t : List ℕ} (f : BlockTables) → b ≡ f.blocks.now → t ≡ f.timings.now → Left d a r s f.blocks.now f.timings.now → Left d a r s b t
settled f e g h = rw (e, g) h
