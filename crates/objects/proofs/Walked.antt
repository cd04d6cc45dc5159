-- The walk through the table does what the two layers do: it writes the rows of the frame, block by block, over the table's head.
use Prim.Native.Nat.{ℕ, zero, suc, ◌*◌, ◌≤◌}
use mathlib.Core.Path.{◌≡◌, refl, ◌∙◌, ap}
use mathlib.Core.List.{List, [], ◌∷◌, map}
use native.Mathlib.Nat.{zero-mul}
use native.Mathlib.Omega.{arith}
use lib.IntN.{ℤ, pos}
use lib.ListN.{length, get_or, drop, replicate}
use Rattle.bits.specs.Parsed.{map_parsed, each}
use Rattle.bits.proofs.Always.{All, at_each, as_many, together}
use Rattle.bits.proofs.ParsedLaws.{map-such}
use Rattle.standard.specs.Numbers.{row_width}
use Rattle.standard.specs.Tree.{Kind, Update, Object}
use Rattle.standard.specs.Updates.{object}
use Rattle.standard.specs.Rows.{Row, no_row}
use Rattle.standard.specs.Meaning.{updated, object_rows, all_rows, gain_of}
use Rattle.standard.specs.Tables.{rows_numbers, rows_of, by_block}
use Rattle.standard.specs.Calls.{over}
use Rattle.standard.proofs.Counts.{object-length}
use Rattle.standard.proofs.RowsOfFrame.{object-rows-length, all-rows-length}
use Rattle.objects.specs.Walk.{gain_before, objects_from}
use Rattle.objects.proofs.Columns.{gains_from}
use Rattle.objects.proofs.Bridge.{all-columns}
use Rattle.objects.proofs.Transposed.{Full, columns-blocks}

-- No object precedes the first

no-gains : (n left b : ℕ) (t : List ℤ) → gains_from n 0 left b t ≡ replicate left (pos 0)
unfolding gains_from gain_before
no-gains n zero b t = refl
no-gains n (suc left) b t = ap (λ gs. pos 0 ∷ gs) (no-gains n left (suc b) t)

rows-alone : (k : Kind) (r : Row) (us : List Update) (n : ℕ) → object_rows k r us (replicate n (pos 0)) ≡ object_rows k r us []
unfolding object_rows
rows-alone k r [] n = refl
rows-alone k r (u ∷ us) zero = refl
rows-alone k r (u ∷ us) (suc n) = ap (λ rs. updated k (pos 0) u r ∷ rs) (rows-alone k (updated k (pos 0) u r) us n)

all-alone : (os : List Object) (rs : List Row) (n : ℕ) → all_rows os rs (replicate n (pos 0)) ≡ all_rows os rs []
unfolding all_rows
all-alone [] rs n = refl
all-alone (o ∷ os) rs n = ap (λ rows. rows ∷ all_rows os (drop 1 rs) (map gain_of rows)) (rows-alone o.kind (get_or rs 0 no_row) o.updates n)

-- As many columns as objects, and as many rows as blocks

abbrev Blocks : ℕ → Object → Type 0
Blocks m o = length o.updates ≡ suc m

rows-full : (m : ℕ) (os : List Object) (rs : List Row) (gs : List ℤ) → All (Blocks m) os → Full (suc m) (all_rows os rs gs)
unfolding all_rows
rows-full m [] rs gs h = tt
rows-full m (o ∷ os) rs gs h =
    let r = get_or rs 0 no_row in
    (object-rows-length o.kind o.updates gs r ∙ h.0, rows-full m os (drop 1 rs) (map gain_of (object_rows o.kind r o.updates gs)) h.1)

abbrev All-read : ℕ → List Kind → List Object → Type 0
All-read m ks os = (length os ≡ length ks) × All (Blocks m) os

pub walk_is : (n m : ℕ) (start : List ℤ) (s : List ℕ) (e : ℕ) (ks : List Kind) (t : List ℤ) (p : ℕ) → length ks ≡ n → suc m * n * row_width ≤ length t
    → objects_from n (suc m) start 0 ks t s e p ≡ map_parsed (λ os. over (rows_numbers (by_block (suc m) 0 (all_rows os (rows_of n start) []))) t) (each (object m) ks s e p)
walk_is n m start s e ks t p l u =
    all-columns n m start s e ks 0 t p (omega arith) u
    ∙ map-such (All-read m ks) (each (object m) ks s e p) _ _ ((together (as_many (object m) ks) (at_each ks (object-length m))).ok s e p) (λ os h.
    let a = h.0 in
    rw (zero-mul row_width, no-gains n (suc m) 0 t, all-alone os (rows_of (length ks) start) (suc m), l)
    (columns-blocks n (suc m) (all_rows os (rows_of n start) []) t (all-rows-length os (rows_of n start) [] ∙ a ∙ l) (rows-full m os (rows_of n start) [] h.1) u))
