-- The object element in two parts: what stands before the objects, and the objects.
use Rattle.std.proofs.Common.{◌≡◌, ℕ, zero, suc, ◌+◌, ◌*◌, ◌-◌, ◌<◌, ◌≤◌, List, [], length, ℤ, Result, Ok, Err, refl, sym, ◌∙◌, ap, arith}
use native.Mathlib.Nat.{mul-le-mul_right}
use Rattle.bits.specs.Parsed.{Parsed, Parser, got, refused, and_then, map_parsed, ◌>>=◌, ◌>>◌, map_p, pure, times, each}
use Rattle.bits.specs.Reads.{read}
use Rattle.bits.specs.Say.{refusal, said_by, ReadsAs}
use Rattle.bits.specs.declared.cursor.BitCursor.{BitCursor}
use Rattle.bits.specs.declared.refusals.Refusal.{Refusal}
use Rattle.bits.proofs.Always.{Always, after, bind, next, given, mapped-such, times-length}
use Rattle.bits.proofs.ParsedLaws.{then-got, map-then, then_map, map-map, then-then, then-pure, then-such}
use Rattle.bits.proofs.Fields.{read-lt}
use Rattle.standard.specs.Contexts as context
use Rattle.standard.specs.Numbers.{row_width, object_limit, block_limit, blocks_length, timings_length}
use Rattle.standard.specs.Tree.{Kind, Timing, Tree}
use Rattle.standard.specs.Updates.{object}
use Rattle.standard.specs.Rows.{Row}
use Rattle.standard.specs.Meaning.{all_rows}
use Rattle.standard.specs.Syntax.{sample_offset, timing, reserved, object_element}
use Rattle.standard.specs.Tables.{timing_numbers, rows_numbers, rows_of, by_block}
use Rattle.standard.specs.Calls.{over}
use Rattle.objects.specs.Walk.{objects_from}
use Rattle.objects.specs.Element.{Timed, block_timings, timed_by, timings_after, blocks_after, ReadElement}
use Rattle.objects.specs.Fills.{Filled}
use Rattle.objects.proofs.Walked.{walk_is}

-- How many blocks

abbrev pub Few : List Timing → Type 0
Few ts = (0 < length ts) × (length ts ≤ block_limit)

pub few-blocks : Always Few block_timings
unfolding block_timings block_limit
few-blocks =
    after _ _ λ offset. bind _ (read-lt 3 _) λ m h. bind _ (times-length (m + 1) _) λ ts l. next _ (given _ (omega arith, omega arith))

pub few-timed : (t : List ℕ) → Always (λ h. h.count ≤ block_limit) (map_p (timed_by t) block_timings)
few-timed t = mapped-such _ few-blocks (λ ts h. h.1)

-- so many rows of so many objects fit the blocks' table
pub fit : (m n : ℕ) → m ≤ block_limit → n ≤ object_limit → m * n * row_width ≤ blocks_length
unfolding block_limit object_limit row_width blocks_length
fit m n h k = let l : m * n ≤ block_limit * n = mul-le-mul_right n h in omega arith

-- What stands before the objects, with its table

unfoldable pub head : List ℕ → Parser Timed
head t = do
  offset ← sample_offset
  m ← read 3 context.update-block-count
  t' ← map_p (λ ts. over (timing_numbers ts) t) (times (m + 1) (timing offset))
  reserved >>= λ u. pure (record { count = m + 1; table = t' })

pub head_read : (t : List ℕ) (s : List ℕ) (e p : ℕ) → map_p (timed_by t) block_timings s e p ≡ head t s e p
unfolding block_timings head ◌>>=◌ ◌>>◌ pure map_p
head_read t s e p =
    then_map (sample_offset s e p) _ _ ∙ then-got (sample_offset s e p) _ _ (λ offset q.
    then_map (read 3 _ s e q) _ _ ∙ then-got (read 3 _ s e q) _ _ (λ m q.
    let x = times (m + 1) (timing offset) s e q in
    then_map x _ _
    ∙ then-such _ x _ _ ((times-length (m + 1) (timing offset)).ok s e q) (λ ts q l. then_map (reserved s e q) _ _ ∙ rw l)
    ∙ sym (map-then x _ _)))

-- The whole element

-- the number of an element's blocks, and the two tables as they are left
pub data Left : Type 0 where
  left : ℕ → List ℕ → List ℤ → Left

abbrev pub left_by : List Row → List ℕ → List ℤ → Tree → Left
left_by starts timings blocks t = left (length t.timings) (timings_after t timings) (blocks_after starts t blocks)

module _ (s : List ℕ) (e : ℕ) where
  element-split : (ks : List Kind) (p : ℕ) → object_element ks s e p
      ≡ and_then (block_timings s e p) (λ ts q. map_parsed (λ os. record { timings = ts; objects = os }) (each (object (length ts - 1)) ks s e q))
  unfolding object_element block_timings ◌>>=◌ ◌>>◌ pure
  element-split ks p =
      then-got (sample_offset s e p) _ _ (λ offset q.
      then-got (read 3 _ s e q) _ _ (λ m q.
      let x = times (m + 1) (timing offset) s e q in
      then-such _ x _ _ ((times-length (m + 1) (timing offset)).ok s e q) (λ ts q l.
      let k : length ts - 1 ≡ m = omega arith in
      then-got (reserved s e q) _ _ (λ u q. rw k (then-pure (each (object m) ks s e q) _)) ∙ sym (then-then (reserved s e q) _ _))
      ∙ sym (then-then x _ _))
      ∙ sym (then-then (read 3 _ s e q) _ _))
      ∙ sym (then-then (sample_offset s e p) _ _)

  walked : (n : ℕ) (start : List ℤ) (ks : List Kind) (t : List ℤ) (p c : ℕ) → 0 < c → length ks ≡ n → c * n * row_width ≤ length t
      → objects_from n c start 0 ks t s e p ≡ map_parsed (λ os. over (rows_numbers (by_block c 0 (all_rows os (rows_of n start) []))) t) (each (object (c - 1)) ks s e p)
  walked n start ks t p zero h l u = absurd (omega arith)
  walked n start ks t p (suc m) h l u = let i : suc m - 1 ≡ m = omega arith in rw i (walk_is n m start s e ks t p l u)

  -- what is read of the objects, over the table of block rows
  pub element-read : (n : ℕ) (ks : List Kind) (start blocks : List ℤ) (timings : List ℕ) (p : ℕ) → length ks ≡ n → n ≤ object_limit → blocks_length ≤ length blocks
      → map_p (left_by (rows_of n start) timings blocks) (object_element ks) s e p
      ≡ (map_p (timed_by timings) block_timings >>= λ h. map_p (left h.count h.table) (objects_from n h.count start 0 ks blocks)) s e p
  unfolding map_p ◌>>=◌
  element-read n ks start blocks timings p l k u =
      ap (map_parsed (left_by (rows_of n start) timings blocks)) (element-split ks p)
      ∙ then_map (block_timings s e p) _ _
      ∙ then-such Few (block_timings s e p) _ _ (few-blocks.ok s e p) (λ ts q h.
      let v = fit (length ts) n h.1 k in
      map-map (each (object (length ts - 1)) ks s e q) _ _
      ∙ sym (ap (map_parsed _) (walked n start ks blocks q (length ts) h.0 l (omega arith)) ∙ map-map (each (object (length ts - 1)) ks s e q) _ _))
      ∙ sym (map-then (block_timings s e p) _ _)

module _ (f : Tree → ℕ) (g : Tree → List ℕ) (h : Tree → List ℤ) (timings : List ℕ) (blocks : List ℤ) where
  tables : (m : Parsed Tree) (a : Parsed ℕ) → map_parsed (λ t. left (f t) (g t) (h t)) m ≡ map_parsed (λ n. left n timings blocks) a
      → (a ≡ map_parsed f m) × ((t : Tree) (q : ℕ) → m ≡ got t q → (timings ≡ g t) × (blocks ≡ h t))
  tables (got t q) (got n q') e = (cc, λ t' q'' x. (cc, cc))
  tables (got t q) (refused z) e = let i : ◌≡◌ {A = ℕ} 0 1 = cc in absurd (omega arith)
  tables (refused z) (got n q') e = let i : ◌≡◌ {A = ℕ} 0 1 = cc in absurd (omega arith)
  tables (refused z) (refused z') e = (cc, λ t q x. let i : ◌≡◌ {A = ℕ} 0 1 = cc in absurd (omega arith))

pub element-left : {ks : List Kind} {starts : List Row} {c c' : BitCursor} (r : Result ℕ Refusal) {timings timings' : List ℕ} {blocks blocks' : List ℤ}
    → ReadsAs (λ n. left n timings' blocks') (map_p (left_by starts timings blocks) (object_element ks)) c r c'
    → Filled blocks_length blocks blocks' → Filled timings_length timings timings' → ReadElement ks starts c r c' blocks blocks' timings timings'
unfolding map_p
element-left {ks} {starts} {c} {c'} r {timings} {timings'} {blocks} {blocks'} h b t =
    let k = tables _ _ _ timings' blocks' (object_element ks c.payload.now c.limit.0 c.position.0) (said_by (λ n. n) refusal r c'.position.0) (sym (same r ∙ h.answer)) in
    record {
      reads = record { answer = k.0; bytes = h.bytes; end = h.end };
      its_blocks = λ t q e. (k.1 t q e).1;
      its_timings = λ t q e. (k.1 t q e).0;
      its_table = b;
      timed = t;
    }
  where
    same : (r : Result ℕ Refusal) → map_parsed (λ n. left n timings' blocks') (said_by (λ n. n) refusal r c'.position.0) ≡ said_by (λ n. left n timings' blocks') refusal r c'.position.0
    same (Ok n) = refl
    same (Err e) = refl
