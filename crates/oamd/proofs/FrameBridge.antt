-- Reading the elements and writing the frame tables at once does what the two layers do.
use Prim.Native.Nat.{ℕ, zero, suc, ◌+◌, ◌*◌, ◌-◌}
use mathlib.Core.Path.{◌≡◌, refl, sym, ◌∙◌}
use mathlib.Core.Bool.{Bool}
use mathlib.Core.List.{List}
use mathlib.Core.Option.{Option, none, some}
use lib.Dec.{leb, eqb}
use Rattle.bits.specs.Parsed.{Parser, ◌>>=◌, ◌>>◌, map_p, pure, within, here, the_end, go_to, require, truncated}
use Rattle.bits.specs.Reads.{read, flag}
use Rattle.bits.proofs.ParsedLaws.{then-got, then-then}
use Rattle.bits.proofs.Makes.{Makes, given, choose, bind, after, next, mapped, none_made, inside}
use Rattle.standard.specs.Tree.{Kind, Tree}
use Rattle.standard.specs.Rows.{Row}
use Rattle.standard.specs.Contexts as context
use Rattle.standard.specs.Syntax.{object_element, element_size, alternate, once, content, element, elements}
use Rattle.oamd.specs.Head.{Head, element_end, enter, element_head}
use Rattle.oamd.specs.Frame.{Frame, written_by, once_in, end_in, object_in, trim_in, content_in, element_in, elements_in}

-- the frame tables after the object element, if one was found
unfoldable pub frame_of : List Row → Frame → Option Tree → Frame
frame_of starts f none = f
frame_of starts f (some t) = written_by starts f t

-- An element, its content c of the head: in the paper's order, and after its head

module _ {A : Type 0} (alternated : Bool) (c : Head → Parser A) where
  abbrev in_order : Parser A
  in_order = do
    at ← here
    id ← read 4 context.element-id
    bytes ← element_size
    start ← here
    end ← the_end
    require (leb (start + bytes * 8) end) (truncated context.element start (bytes * 8) (end - start))
    a ← within (start + bytes * 8) do
      alternate alternated
      flag context.discard-unknown-element-flag
      c (record { at = at; id = id; end = start + bytes * 8 })
    go_to (start + bytes * 8)
    pure a

  abbrev after_head : Parser A
  after_head = do
    h ← element_head alternated
    a ← within h.end (c h)
    go_to h.end
    pure a

  head_first : (s : List ℕ) (e p : ℕ) → after_head s e p ≡ in_order s e p
  unfolding element_head element_end enter ◌>>=◌ ◌>>◌ pure within here the_end go_to
  head_first s e p =
      let id-read = read 4 context.element-id s e p in
      then-then id-read _ _ ∙ then-got id-read _ _ λ id q.
      then-then (element_end s e q) _ _ ∙ then-then (element_size s e q) _ _ ∙ then-got (element_size s e q) _ _ λ bytes start.
      let end = start + bytes * 8 in
      let test = require (leb end e) (truncated context.element start (bytes * 8) (e - start)) s e start in
      then-then test _ _ ∙ then-got test _ _ λ u q.
      then-then (enter alternated s end q) _ _ ∙ then-then (alternate alternated s end q) _ _
      ∙ then-got (alternate alternated s end q) _ _ (λ v q'. let discard = flag context.discard-unknown-element-flag s end q' in then-then discard _ _ ∙ sym (then-then discard _ _))
      ∙ sym (then-then (alternate alternated s end q) _ _)

module _ (starts : List Row) (kinds : List Kind) (f : Frame) where
  abbrev after-tree : Option Tree → Frame
  after-tree o = frame_of starts f o

  once-in : f.found ≡ none → (at : ℕ) (o : Option Tree) → Makes after-tree (once at o (object_element kinds)) (once_in starts kinds at (after-tree o).found (after-tree o))
  unfolding once once_in frame_of map_p written_by
  once-in z at none = rw z (mapped some {m = object_element kinds} (record { makes = λ s e p. refl }))
  once-in z at (some t) = none_made _

  content-in : f.found ≡ none → (h : Head) (o : Option Tree) → Makes after-tree (content kinds h.at h.id o) (content_in starts kinds h (after-tree o))
  unfolding content content_in object_in trim_in end_in
  content-in z h o =
      choose (eqb h.id 1) (bind _ _ (once-in z h.at o) λ o'. next _ (given o')) (choose (eqb h.id 2) (next _ (next _ (given o))) (given o))

  element-in : f.found ≡ none → (alternated : Bool) (o : Option Tree) → Makes after-tree (element alternated kinds o) (element_in starts alternated kinds (after-tree o))
  unfolding element element_in
  element-in z alternated o = record { makes = λ s e p. head_first alternated _ s e p ∙ ordered.makes s e p }
    where
      ordered : Makes after-tree (in_order alternated (λ h. content kinds h.at h.id o)) (in_order alternated (λ h. content_in starts kinds h (after-tree o)))
      ordered =
          after _ _ _ λ at. after _ _ _ λ id. after _ _ _ λ bytes. after _ _ _ λ start. after _ _ _ λ end.
          next _ (bind _ _ (inside _ (next _ (next _ (content-in z _ o)))) λ o'. next _ (given o'))

  pub elements-in : f.found ≡ none → (n : ℕ) (alternated : Bool) (o : Option Tree) → Makes after-tree (elements n alternated kinds o) (elements_in starts n alternated kinds (after-tree o))
  unfolding elements elements_in
  elements-in z zero alternated o = given o
  elements-in z (suc n) alternated o = bind _ _ (element-in z alternated o) λ o'. elements-in z n alternated o'
