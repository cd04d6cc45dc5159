-- What the syntax says of a first block: an active object's gain and priority are set, and a Dynamic's picture is settled.
use Prim.Native.Nat.{ℕ}
use mathlib.Core.Path.{◌≡◌, refl}
use mathlib.Core.Bool.{Bool, true, false, cond, not, ◌&&◌, ◌||◌}
use mathlib.Core.List.{List, [], ◌∷◌}
use Rattle.bits.specs.Bits.{is_set}
use Rattle.bits.specs.Parsed.{◌>>=◌, pure, here}
use Rattle.bits.proofs.Always.{Ok, Always, bind, after, next, choose, given, from-pure, from_some, from-some-such, mapped-such, at_place}
use Rattle.standard.specs.Contexts as context
use Rattle.standard.specs.Tree.{Kind, is_dynamic, Render, kept, Update, inactive, active, Object, Tree}
use Rattle.standard.specs.Updates.{levels, parts, basic, absolutely, position_word, groups, render, status, render_of, active_update, update, object}
use Rattle.standard.specs.Marks.{is_some, is_absolute, settles}
use Rattle.standard.specs.Meaning.{taken}
use Rattle.standard.proofs.Small.{both}
use Rattle.standard.proofs.MarkLaws.{settles_all}
use Rattle.standard.proofs.Payload.{InTree, in-objects}

abbrev pub first_form : Kind → Update → Bool
first_form k (inactive at) = true
first_form k (active b r) = is_some b.gain && is_some b.priority && (not (is_dynamic k) || settles_all r)

abbrev pub FirstIn : Kind → List Update → Type 0
FirstIn k [] = ⊥
FirstIn k (u ∷ us) = first_form k u ≡ true

abbrev pub ObjectForm : Object → Type 0
ObjectForm o = FirstIn o.kind o.updates

basic-first : (at : ℕ) → Always (λ b. (is_some b.gain && is_some b.priority) ≡ true) (basic at 1)
unfolding basic parts levels is_set
basic-first at = from-pure _ _ (from_some _ _ λ g. from_some _ _ λ n. given _ refl)

position_first : Always (λ w. is_absolute w.point ≡ true) (position_word true)
unfolding position_word absolutely
position_first = from-pure _ _ (bind _ (after _ _ λ x. after _ _ λ y. after _ _ λ up. after _ _ λ z. given _ refl) λ w h. after _ _ λ n. given _ h)

-- every group is said, and the position in full
groups-first : Always (λ w. settles_all (Render.given w) ≡ true) (groups true 15)
unfolding groups is_set settles
groups-first =
    from-some-such _ (at_place position_first) λ p h. from_some _ _ λ z. from_some _ _ λ n. from_some _ _ λ s. after _ _ λ l. given _ (rw h)

render-first : (at : ℕ) → Always (λ r. settles_all r ≡ true) (render true at 1)
unfolding render parts
render-first at = from-pure _ _ (mapped-such Render.given groups-first λ w h. h)

active-first : (k : Kind) → Always (λ u. first_form k u ≡ true) (active_update k true)
unfolding active_update render_of status
active-first k = after _ _ λ at. from-pure _ _ (bind _ (basic-first at) λ b hb. bind _ (rendered (is_dynamic k)) λ r hr. given _ (both _ _ hb hr))
  where
    rendered : (d : Bool) → Always (λ r. (not d || settles_all r) ≡ true) (cond d (here >>= λ at. status true context.render-info-status >>= render true at) (pure kept))
    rendered true = after _ _ λ at. from-pure _ _ (render-first at)
    rendered false = given _ refl

update-first : (k : Kind) → Always (λ u. first_form k u ≡ true) (update k true)
unfolding update
update-first k = after _ _ λ at. after _ _ λ off. bind _ (choose off (given _ refl) (active-first k)) λ u h. next _ (given _ h)

object-first : (m : ℕ) (k : Kind) → Always ObjectForm (object m k)
unfolding object
object-first m k = bind _ (update-first k) λ u h. after _ _ λ later. given _ h

abbrev pub TreeForm : Tree → Type 0
TreeForm t = InTree ObjectForm t

pub first_block : (s : List ℕ) → Ok TreeForm (taken s)
first_block = in-objects ObjectForm object-first
