-- The rows of a frame: how many there are, and what all have, the last ones have.
use Prim.Native.Nat.{suc}
use mathlib.Core.Path.{◌≡◌, refl, ◌∙◌, ap}
use mathlib.Core.List.{List, [], ◌∷◌, map}
use lib.IntN.{ℤ, pos}
use lib.ListN.{length, get_or, drop, length-map}
use Rattle.bits.proofs.Always.{All}
use Rattle.standard.specs.Tree.{Kind, Update, Object, Tree, kinds_of}
use Rattle.standard.specs.Rows.{Row, State, no_row}
use Rattle.standard.specs.Meaning.{updated, object_rows, all_rows, gain_of, frame_rows, last_row, last_rows, start_rows}
use Rattle.standard.proofs.Small.{last-all}
use Rattle.standard.proofs.FirstUpdates.{FirstIn, ObjectForm, TreeForm}

-- an object has a block, and so a last row
module _ (P : Row → Type 0) where
  last_has : (k : Kind) (us : List Update) (r : Row) (gs : List ℤ) → FirstIn k us → All P (object_rows k r us gs) → P (last_row (object_rows k r us gs))
  unfolding object_rows
  last_has k [] r gs f h = absurd f
  last_has k (u ∷ us) r gs f h = last-all P _ _ h

  lasts-have : (os : List Object) (rs : List Row) (gs : List ℤ) → All ObjectForm os → All (All P) (all_rows os rs gs) → All P (map last_row (all_rows os rs gs))
  unfolding all_rows
  lasts-have [] rs gs f h = tt
  lasts-have (o ∷ os) rs gs f h =
      let r = get_or rs 0 no_row in
      (last_has o.kind o.updates r gs f.0 h.0, lasts-have os (drop 1 rs) (map gain_of (object_rows o.kind r o.updates gs)) f.1 h.1)

  pub last-rows-have : (st : State) (t : Tree) → TreeForm t → All (All P) (frame_rows st t) → All P (last_rows st t)
  unfolding last_rows frame_rows
  last-rows-have st t f h = lasts-have t.objects (start_rows st (kinds_of t)) [] f h

-- Lengths

pub object-rows-length : (k : Kind) (us : List Update) (gs : List ℤ) (r : Row) → length (object_rows k r us gs) ≡ length us
unfolding object_rows
object-rows-length k [] gs r = refl
object-rows-length k (u ∷ us) gs r = ap suc (object-rows-length k us (drop 1 gs) (updated k (get_or gs 0 (pos 0)) u r))

pub all-rows-length : (os : List Object) (rs : List Row) (gs : List ℤ) → length (all_rows os rs gs) ≡ length os
unfolding all_rows
all-rows-length [] rs gs = refl
all-rows-length (o ∷ os) rs gs = ap suc (all-rows-length os (drop 1 rs) (map gain_of (object_rows o.kind (get_or rs 0 no_row) o.updates gs)))

pub frame-rows-length : (st : State) (t : Tree) → length (frame_rows st t) ≡ length t.objects
unfolding frame_rows
frame-rows-length st t = all-rows-length t.objects (start_rows st (kinds_of t)) []

pub last-rows-length : (st : State) (t : Tree) → length (last_rows st t) ≡ length t.objects
unfolding last_rows
last-rows-length st t = length-map (frame_rows st t) last_row ∙ frame-rows-length st t
