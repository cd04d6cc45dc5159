-- Demand 1, by number: what each number of decode says of its answer and of the four lists, for every payload and whatever is lent.
use Prim.Native.Nat.{ℕ, ◌*◌, ◌≤◌}
use mathlib.Core.Path.{◌≡◌, refl, ◌∙◌, ap}
use mathlib.Core.List.{List}
use native.Mathlib.Omega.{arith}
use borrow.Author.Tests.{leb-true}
use lib.Dec.{leb}
use lib.IntN.{pos}
use lib.ListN.{length, drop, replicate}
use Rattle.standard.specs.Numbers.{row_width, retained_length, start_length, blocks_length, timings_length, payload_limit, accepted, room, size, alone}
use Rattle.standard.specs.Contexts.{context_count}
use Rattle.standard.specs.Tree.{Tree, kinds_of}
use Rattle.standard.specs.Rows.{State}
use Rattle.standard.specs.Meaning.{start_rows, retain}
use Rattle.standard.specs.Tables.{rows_numbers, timing_numbers, state_of, state_numbers}
use Rattle.standard.specs.Calls.{Lent, Done, over, refusal, accept, decline, decode}
use Rattle.standard.proofs.Small.{and_left, and_right}
use Rattle.standard.proofs.RowsOfFrame.{last-rows-length}
use Rattle.standard.proofs.ReadBack.{block_rows, starts-count, blocks-count}
use Rattle.standard.proofs.Laid.{over-rest, rows-length, timings-length, state-length}
use Rattle.standard.proofs.Endings.{Fit, ends}

-- 0: what lies behind the rows and timings of the frame, and behind the retained numbers, is as it was
pub record Accepted (l : Lent) (d : Done) : Type 0 where
  pub verdict : d.answer.verdict ≡ alone accepted  -- context 0, place 0, missing 0
  pub retained : drop retained_length d.lent.retained ≡ drop retained_length l.retained
  pub start : drop (d.answer.objects * row_width) d.lent.start ≡ drop (d.answer.objects * row_width) l.start
  pub blocks : drop (d.answer.blocks * d.answer.objects * row_width) d.lent.blocks ≡ drop (d.answer.blocks * d.answer.objects * row_width) l.blocks
  pub timings : drop (2 * d.answer.blocks) d.lent.timings ≡ drop (2 * d.answer.blocks) l.timings

-- 1 to 4: the payload is refused; the retained table stays, and the others are 0 as far as they are needed
pub record Refused (s : List ℕ) (l : Lent) (d : Done) : Type 0 where
  pub answer : d.answer ≡ refusal d.answer.verdict  -- no objects, blocks or unsettled rows
  pub context-from : 1 ≤ d.answer.verdict.context
  pub context-to : d.answer.verdict.context ≤ context_count
  pub place : d.answer.verdict.place ≤ length s * 8
  pub missing : d.answer.verdict.number ≡ 1 → 1 ≤ d.answer.verdict.missing
  pub whole : (d.answer.verdict.number ≡ 1 → ⊥) → d.answer.verdict.missing ≡ 0
  pub long : length s ≤ payload_limit
  pub retained : d.lent.retained ≡ l.retained
  pub start : d.lent.start ≡ over (replicate start_length (pos 0)) l.start
  pub blocks : d.lent.blocks ≡ over (replicate blocks_length (pos 0)) l.blocks
  pub timings : d.lent.timings ≡ over (replicate timings_length 0) l.timings

-- 5 to 7: refused before the payload is read; nothing changes
pub record Unread (l : Lent) (d : Done) : Type 0 where
  pub answer : d.answer ≡ refusal (alone d.answer.verdict.number)  -- context 0, place 0, missing 0
  pub lent : d.lent ≡ l

pub record Outcome (s : List ℕ) (l : Lent) (d : Done) : Type 0 where
  pub known : d.answer.verdict.number ≤ size
  pub acceptance : d.answer.verdict.number ≡ accepted → Accepted l d
  pub refused : 1 ≤ d.answer.verdict.number → d.answer.verdict.number ≤ 4 → Refused s l d
  pub unread : room ≤ d.answer.verdict.number → Unread l d

accept-leaves : (l : Lent) (st : State) (t : Tree) → Fit t → Accepted l (accept l st t)
unfolding accept retain
accept-leaves l st t f =
    let n = f.sized.objects in
    let c = last-rows-length st t in
    record {
      verdict = refl;
      retained = over-rest (state_numbers (retain st t)) l.retained retained_length (state-length (retain st t) (omega arith));
      start = over-rest (rows_numbers (start_rows st (kinds_of t))) l.start (length t.objects * row_width) (rows-length (start_rows st (kinds_of t)) ∙ ap (λ k. k * row_width) (starts-count st t));
      blocks = over-rest (rows_numbers (block_rows st t)) l.blocks (length t.timings * length t.objects * row_width) (rows-length (block_rows st t) ∙ ap (λ k. k * row_width) (blocks-count st t));
      timings = over-rest (timing_numbers t.timings) l.timings (2 * length t.timings) (timings-length t.timings);
    }

-- For every payload and whatever is lent, the number is one of 0 to 7, and what it says is so.
pub outcome : (s : List ℕ) (l : Lent) → Outcome s l (decode s l)
unfolding accept decline
outcome s l =
    ends (Outcome s l) s l
    (λ n low high. record {
      known = high;
      acceptance = λ e. absurd (omega arith);
      refused = λ a b. absurd (omega arith);
      unread = λ a. record { answer = refl; lent = refl };
    })
    (λ h r b.
    let above = b.above in
    let below = b.below in
    record {
      known = omega arith;
      acceptance = λ e. absurd (omega arith);
      refused = λ a c. record {
        answer = refl;
        context-from = leb-true _ _ (and_left (leb 1 r.context) _ b.context);
        context-to = leb-true _ _ (and_right (leb 1 r.context) _ b.context);
        place = b.place;
        missing = b.cut;
        whole = b.uncut;
        long = h.size;
        retained = refl;
        start = refl;
        blocks = refl;
        timings = refl;
      };
      unread = λ a. absurd (omega arith);
    })
    (λ h t f. record {
      known = omega arith;
      acceptance = λ e. accept-leaves l (state_of l.retained) t f;
      refused = λ a b. absurd (omega arith);
      unread = λ a. absurd (omega arith);
    })
