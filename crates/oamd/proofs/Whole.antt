-- Reading a whole payload and writing the frame tables at once leaves what the paper says that its tree leaves.
use Prim.Native.Nat.{ℕ}
use mathlib.Core.Path.{◌≡◌, refl, ◌∙◌, ap}
use mathlib.Core.Bool.{Bool}
use mathlib.Core.List.{List, [], ◌∷◌, map}
use mathlib.Core.Option.{Option, none, some}
use lib.ListN.{length, length-map}
use Rattle.bits.specs.Parsed.{got, ◌>>=◌, ◌>>◌, pure, refuse, the_end, each}
use Rattle.bits.specs.Reads.{padding}
use Rattle.bits.proofs.Always as always
use Rattle.bits.proofs.Always.{Always, IfSome}
use Rattle.bits.proofs.Makes.{Makes, bind-such, after, next}
use Rattle.standard.specs.Contexts as context
use Rattle.standard.specs.Tree.{Kind, Object, Tree, kinds_of}
use Rattle.standard.specs.Updates.{object}
use Rattle.standard.specs.Rows.{State}
use Rattle.standard.specs.Meaning.{start_rows, frame_rows}
use Rattle.standard.specs.Syntax.{object_element, elements, present, body, payload}
use Rattle.standard.specs.Tables.{rows_numbers}
use Rattle.standard.specs.Calls.{over}
use Rattle.standard.proofs.Counts.{object-kind}
use Rattle.standard.proofs.Payload.{in-elements}
use Rattle.oamd.specs.Frame.{Frame, written_by}
use Rattle.oamd.specs.Whole.{Lending, present_in, finish_in, body_in, payload_in, whole_of}
use Rattle.oamd.proofs.FrameBridge.{frame_of, elements-in}

-- The kinds of a tree are those that it was read with

abbrev Of : List Kind → Tree → Type 0
Of ks t = kinds_of t ≡ ks

objects-kinds : (m : ℕ) (ks : List Kind) → Always (λ os. map (λ (o : Object). o.kind) os ≡ ks) (each (object m) ks)
unfolding each
objects-kinds m [] = always.given _ refl
objects-kinds m (k ∷ ks) =
    always.bind _ (object-kind m k) λ o e. always.bind _ (objects-kinds m ks) λ os h. always.given _ (λ i. e i ∷ h i)

element-kinds : (ks ks' : List Kind) → ks' ≡ ks → Always (Of ks) (object_element ks')
unfolding object_element
element-kinds ks ks' e =
    always.after _ _ λ offset. always.after _ _ λ m. always.after _ _ λ ts. always.next _ (always.bind _ (objects-kinds m ks') λ os h. always.given _ (h ∙ e))

elements-kinds : (n : ℕ) (alternated : Bool) (ks : List Kind) → Always (IfSome (Of ks)) (elements n alternated ks none)
elements-kinds n alternated ks = in-elements (λ ks'. ks' ≡ ks) (Of ks) (element-kinds ks) n alternated ks none refl tt

-- What is left

module _ (st : State) (l : Lending) where
  abbrev lent : Frame
  lent = record { found = none; blocks = l.blocks; timings = l.timings }

  tree-left : (ks : List Kind) (t : Tree) → Of ks t → record { objects = length ks; count = length t.timings; start = over (rows_numbers (start_rows st ks)) l.start; blocks = (written_by (start_rows st ks) lent t).blocks; timings = (written_by (start_rows st ks) lent t).timings } ≡ whole_of st l t
  unfolding whole_of written_by frame_rows
  tree-left ks t h = rw (← h, length-map t.objects (λ (o : Object). o.kind))

  finish-in : (ks : List Kind) (o : Option Tree) → IfSome (Of ks) o → Makes (whole_of st l) (padding context.payload-padding >> present o) (finish_in (length ks) (over (rows_numbers (start_rows st ks)) l.start) (frame_of (start_rows st ks) lent o))
  unfolding present present_in finish_in frame_of written_by ◌>>=◌ pure the_end refuse
  finish-in ks none h = next _ (record { makes = λ s e p. refl })
  finish-in ks (some t) h = next _ (record { makes = λ s e p. ap (λ w. got w p) (tree-left ks t h) })

  body-in : (ks : List Kind) → Makes (whole_of st l) (body ks) (body_in st l ks)
  unfolding body body_in frame_of
  body-in ks =
      after _ _ _ λ alternated. after _ _ _ λ n.
      bind-such _ _ (elements-kinds n alternated ks) (elements-in (start_rows st ks) ks lent refl n alternated none) λ o h. finish-in ks o h

  pub payload-in : Makes (whole_of st l) payload (payload_in st l)
  unfolding payload payload_in
  payload-in = next _ (after _ _ _ λ ks. body-in ks)
