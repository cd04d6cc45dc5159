-- Within a frame the bits of marks only rise, from the start rows on and block by block: nothing that is read unsettles.
use Prim.Native.Nat.{ℕ, zero, suc, ◌*◌, ◌<◌}
use mathlib.Core.Path.{◌≡◌, refl}
use mathlib.Core.Bool.{true}
use mathlib.Core.List.{List, [], ◌∷◌, map}
use native.Mathlib.Omega.{arith}
use lib.IntN.{ℤ, pos}
use lib.ListN.{length, get_or, drop}
use Rattle.bits.proofs.Always.{All}
use Rattle.standard.specs.Numbers.{row_width}
use Rattle.standard.specs.Tree.{Kind, kept, Update, inactive, active, Object, Tree, kinds_of}
use Rattle.standard.specs.Rows.{Row, State, Group, no_row}
use Rattle.standard.specs.Marks.{marked}
use Rattle.standard.specs.Meaning.{start_rows, updated, object_rows, all_rows, gain_of, frame_rows}
use Rattle.standard.specs.Tables.{rows_of, in_block, state_of}
use Rattle.standard.specs.Calls.{Lent, Done, accept, decline, decode}
use Rattle.standard.proofs.Small.{Pairs}
use Rattle.standard.proofs.Starts.{start-any}
use Rattle.standard.proofs.MarkLaws.{mark-rises}
use Rattle.standard.proofs.Counts.{Sized}
use Rattle.standard.proofs.ReadBack.{starts-written, block_written, frame-full}
use Rattle.standard.proofs.Endings.{ends}

-- every group that is settled in the row before is settled in the row behind it
abbrev pub Rises : Row → Row → Type 0
Rises a b = (g : Group) → marked g a.mark ≡ true → marked g b.mark ≡ true

update-rises : (k : Kind) (g : ℤ) (u : Update) (r : Row) → Rises r (updated k g u r)
unfolding updated
update-rises k g (inactive at) r i h = mark-rises i k kept r.mark h
update-rises k g (active b n) r i h = mark-rises i k n r.mark h

-- The rows of an object: one after the other

abbrev Climbs : Row → List Row → Type 0
Climbs r [] = Unit {0}
Climbs r (q ∷ qs) = Rises r q × Climbs q qs

object-climbs : (k : Kind) (r : Row) (us : List Update) (gs : List ℤ) → Climbs r (object_rows k r us gs)
unfolding object_rows
object-climbs k r [] gs = tt
object-climbs k r (u ∷ us) gs = let g = get_or gs 0 (pos 0) in (update-rises k g u r, object-climbs k (updated k g u r) us (drop 1 gs))

-- as many start rows as objects
abbrev Beside : List Object → List Row → Type 0
Beside os rs = Pairs (λ k r. Unit {0}) (map (λ (o : Object). o.kind) os) rs

all-climb : (os : List Object) (rs : List Row) (gs : List ℤ) → Beside os rs → Pairs Climbs rs (all_rows os rs gs)
unfolding all_rows
all-climb [] [] gs h = tt
all-climb [] (r ∷ rs) gs h = absurd h
all-climb (o ∷ os) [] gs h = absurd h
all-climb (o ∷ os) (r ∷ rs) gs h =
    (object-climbs o.kind r o.updates gs, all-climb os rs (map gain_of (object_rows o.kind r o.updates gs)) h.1)

frame-climbs : (st : State) (t : Tree) → Pairs Climbs (start_rows st (kinds_of t)) (frame_rows st t)
unfolding frame_rows
frame-climbs st t =
    let any : Kind → Row → Type 0 = λ k r. Unit {0} in
    all-climb t.objects (start_rows st (kinds_of t)) [] (start-any any st (kinds_of t) (λ k. tt) (λ k r e. tt))

-- The rows of two blocks

climb-at : (r : Row) (rs : List Row) (b : ℕ) → suc b < length rs → Climbs r rs → Rises (get_or rs b no_row) (get_or rs (suc b) no_row)
climb-at r [] b n h = absurd (omega arith)
climb-at r (q ∷ []) b n h = absurd (omega arith)
climb-at r (q ∷ p ∷ rs) zero n h = h.1.0
climb-at r (q ∷ p ∷ rs) (suc b) n h = climb-at q (p ∷ rs) b (omega arith) h.1

module _ (m : ℕ) where
  later-rise : (rs : List Row) (qs : List (List Row)) (b : ℕ) → suc b < m → All (λ (q : List Row). length q ≡ m) qs → Pairs Climbs rs qs
      → Pairs Rises (in_block b qs) (in_block (suc b) qs)
  later-rise [] [] b n f h = tt
  later-rise [] (q ∷ qs) b n f h = absurd h
  later-rise (r ∷ rs) [] b n f h = absurd h
  later-rise (r ∷ rs) (q ∷ qs) b n f h = let e = f.0 in (climb-at r q b (omega arith) h.0, later-rise rs qs b n f.1 h.1)

  first-rise : (rs : List Row) (qs : List (List Row)) → 0 < m → All (λ (q : List Row). length q ≡ m) qs → Pairs Climbs rs qs → Pairs Rises rs (in_block 0 qs)
  first-rise [] [] n f h = tt
  first-rise [] (q ∷ qs) n f h = absurd h
  first-rise (r ∷ rs) [] n f h = absurd h
  first-rise (r ∷ rs) ([] ∷ qs) n f h = let e = f.0 in absurd (omega arith)
  first-rise (r ∷ rs) ((p ∷ q) ∷ qs) n f h = (h.0.0, first-rise rs qs n f.1 h.1)

-- On calls

-- the rows of block b that a call wrote
abbrev pub block_of : Done → ℕ → List Row
block_of d b = let n = d.answer.objects in rows_of n (drop (b * n * row_width) d.lent.blocks)

pub record MarksRise (d : Done) : Type 0 where
  pub first : Pairs Rises (rows_of d.answer.objects d.lent.start) (block_of d 0)
  pub later : (b : ℕ) → suc b < d.answer.blocks → Pairs Rises (block_of d b) (block_of d (suc b))

accept-rises : (l : Lent) (st : State) (t : Tree) → Sized t → MarksRise (accept l st t)
unfolding accept
accept-rises l st t s =
    let m = length t.timings in
    let starts = start_rows st (kinds_of t) in
    let h = frame-climbs st t in
    let f = frame-full st t s in
    record {
      first = rw (starts-written l st t, block_written l st t 0 s.first) (first-rise m starts (frame_rows st t) s.first f h);
      later = λ b n. rw (block_written l st t b (omega arith), block_written l st t (suc b) n) (later-rise m starts (frame_rows st t) b n f h);
    }

nothing-rises : (d : Done) → d.answer.objects ≡ 0 → d.answer.blocks ≡ 0 → MarksRise d
unfolding rows_of
nothing-rises d n m = record { first = rw n tt; later = λ b h. absurd (omega arith) }

-- For every payload and whatever is lent.
pub marks-rise : (s : List ℕ) (l : Lent) → MarksRise (decode s l)
unfolding decline
marks-rise s l = ends MarksRise s l (λ n x y. nothing-rises _ refl refl) (λ p r b. nothing-rises _ refl refl) (λ p t f. accept-rises l (state_of l.retained) t f.sized)
