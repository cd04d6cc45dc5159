-- The rows of a frame by number: all are of the payload's kinds, and the last are retained.
use Prim.Native.Nat.{ℕ, zero, suc, ◌≤◌, ◌<◌}
use mathlib.Core.Path.{◌≡◌, refl, sym}
use mathlib.Core.Bool.{true}
use mathlib.Core.List.{List, [], ◌∷◌, map}
use mathlib.Core.Option.{some}
use native.Mathlib.Omega.{arith}
use borrow.Author.Tests.{eq-eqb}
use lib.IntN.{ℤ, pos}
use lib.ListN.{length, get_or, drop}
use Rattle.bits.proofs.Always.{All}
use Rattle.standard.specs.Tree.{Kind, kind_code, Update, Object, Tree, kinds_of}
use Rattle.standard.specs.Rows.{Row, State, no_row, eqℤ}
use Rattle.standard.specs.Meaning.{updated, start_rows, object_rows, all_rows, gain_of, frame_rows, last_rows}
use Rattle.standard.specs.Tables.{in_block}
use Rattle.standard.specs.Carried.{kinds_agree}
use Rattle.standard.proofs.Small.{both, Pairs}
use Rattle.standard.proofs.Counts.{Sized}
use Rattle.standard.proofs.Related.{start-kinds}
use Rattle.standard.proofs.FormKept.{update-kind}
use Rattle.standard.proofs.ReadBack.{frame-full}
use Rattle.standard.proofs.Retention.{last_block}
use Rattle.programmes.specs.Programmes.{frame_of, numbered}

abbrev pub OfKind : Kind → Row → Type 0
OfKind k r = r.kind ≡ pos (kind_code k)

pub kinds-agree : (ks : List Kind) (xs ys : List Row) → Pairs OfKind ks xs → Pairs OfKind ks ys → kinds_agree xs ys ≡ true
unfolding kinds_agree
kinds-agree [] [] [] h k = refl
kinds-agree [] [] (y ∷ ys) h k = absurd k
kinds-agree [] (x ∷ xs) ys h k = absurd h
kinds-agree (c ∷ ks) [] ys h k = absurd h
kinds-agree (c ∷ ks) (x ∷ xs) [] h k = absurd k
kinds-agree (c ∷ ks) (x ∷ xs) (y ∷ ys) h k =
    both (eqℤ x.kind y.kind) (kinds_agree xs ys) (rw (h.0, k.0) (eq-eqb (kind_code c) (kind_code c) refl)) (kinds-agree ks xs ys h.1 k.1)

object-kind : (k : Kind) (us : List Update) (gs : List ℤ) (r : Row) (b : ℕ) → b < length us → OfKind k (get_or (object_rows k r us gs) b no_row)
unfolding object_rows
object-kind k [] gs r b h = absurd (omega arith)
object-kind k (u ∷ us) gs r zero h = update-kind k (get_or gs 0 (pos 0)) u r
object-kind k (u ∷ us) gs r (suc b) h = object-kind k us (drop 1 gs) (updated k (get_or gs 0 (pos 0)) u r) b (omega arith)

block-kinds : (m : ℕ) (os : List Object) (rs : List Row) (gs : List ℤ) (b : ℕ) → All (λ (o : Object). length o.updates ≡ m) os → b < m
    → Pairs OfKind (map (λ (o : Object). o.kind) os) (in_block b (all_rows os rs gs))
unfolding all_rows
block-kinds m [] rs gs b h l = tt
block-kinds m (o ∷ os) rs gs b h l =
    let r = get_or rs 0 no_row in
    let e = h.0 in (
      object-kind o.kind o.updates gs r b (omega arith),
      block-kinds m os (drop 1 rs) (map gain_of (object_rows o.kind r o.updates gs)) b h.1 l,
    )

pub numbered-kinds : (st : State) (t : Tree) → Sized t → (n : ℕ) → n ≤ length t.timings → Pairs OfKind (kinds_of t) (numbered (frame_of st (some t)) n)
unfolding numbered frame_of frame_rows
numbered-kinds st t z zero h = start-kinds st (kinds_of t)
numbered-kinds st t z (suc b) h = block-kinds (length t.timings) t.objects (start_rows st (kinds_of t)) [] b z.full (omega arith)

-- what is retained: the rows of the last number
pub last-numbered : (st : State) (t : Tree) (m : ℕ) → Sized t → length t.timings ≡ suc m → last_rows st t ≡ numbered (frame_of st (some t)) (suc m)
unfolding numbered frame_of last_rows
last-numbered st t m z e = sym (last_block m (frame_rows st t) (rw e at (frame-full st t z)))
