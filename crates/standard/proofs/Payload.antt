-- What every object of a payload has, every accepted payload's tree has.
use Prim.Native.Nat.{ℕ, zero, suc}
use mathlib.Core.Bool.{Bool, true, false, cond}
use mathlib.Core.List.{List}
use mathlib.Core.Option.{Option, none, some}
use lib.Dec.{eqb, leb}
use lib.ListN.{length}
use Rattle.bits.specs.Parsed.{refused, ◌>>=◌}
use Rattle.bits.proofs.Always.{Ok, Always, All, IfSome, bind, after, next, mapped-such, choose, given, none-given, inside, at_each, anything}
use Rattle.standard.specs.Numbers.{payload_limit, size, alone}
use Rattle.standard.specs.Tree.{Kind, Object, Tree}
use Rattle.standard.specs.Assignment.{object_count, assignment}
use Rattle.standard.specs.Updates.{object}
use Rattle.standard.specs.Syntax.{object_element, once, content, element, elements, present, body, payload, syntax}
use Rattle.standard.specs.Meaning.{taken}

-- P holds of what an object element says over kinds that have K
module _ (K : List Kind → Type 0) (P : Tree → Type 0) (h : (ks : List Kind) → K ks → Always P (object_element ks)) where
  in-once : (at : ℕ) (found : Option Tree) (ks : List Kind) → K ks → Always (IfSome P) (once at found (object_element ks))
  unfolding once
  in-once at none ks hk' = mapped-such some (h ks hk') (λ t g. g)
  in-once at (some t) ks hk' = none-given _

  in-content : (ks : List Kind) (at id : ℕ) (found : Option Tree) → K ks → IfSome P found → Always (IfSome P) (content ks at id found)
  unfolding content
  in-content ks at id found hk' g =
      choose (eqb id 1) (bind _ (in-once at found ks hk') λ t g'. next _ (given _ g')) (choose (eqb id 2) (next _ (next _ (given _ g))) (given _ g))

  in-element : (alternated : Bool) (ks : List Kind) (found : Option Tree) → K ks → IfSome P found → Always (IfSome P) (element alternated ks found)
  unfolding element
  in-element alternated ks found hk' g =
      after _ _ λ at. after _ _ λ id. after _ _ λ bytes. after _ _ λ start. after _ _ λ end.
      next _ (bind _ (inside _ (next _ (next _ (in-content ks at id found hk' g)))) λ t g'. next _ (given _ g'))

  pub in-elements : (n : ℕ) (alternated : Bool) (ks : List Kind) (found : Option Tree) → K ks → IfSome P found → Always (IfSome P) (elements n alternated ks found)
  unfolding elements
  in-elements zero alternated ks found hk' g = given _ g
  in-elements (suc n) alternated ks found hk' g = bind _ (in-element alternated ks found hk' g) λ t g'. in-elements n alternated ks t hk' g'

  in-present : (t : Option Tree) → IfSome P t → Always P (present t)
  unfolding present
  in-present none g = after _ _ λ end. none-given _
  in-present (some t) g = given _ g

  in_body : (ks : List Kind) → K ks → Always P (body ks)
  unfolding body
  in_body ks hk' = after _ _ λ alternated. after _ _ λ n. bind _ (in-elements n alternated ks none hk' tt) λ t g. next _ (in-present t g)

  -- where the kinds of every payload have K: of what is read, and so of what is taken
  in-payload : Always K (object_count >>= assignment) → Always P payload
  unfolding payload
  in-payload hk = next _ (bind _ hk in_body)

  pub in_taken : Always K (object_count >>= assignment) → (s : List ℕ) → Ok P (taken s)
  unfolding taken syntax
  in_taken hk s = go (leb (length s) payload_limit)
    where
      go : (b : Bool) → Ok P (cond b (syntax s) (refused (alone size)))
      go true = (in-payload hk).ok s _ 0
      go false = tt

-- what every object has
abbrev pub InTree : (Object → Type 0) → Tree → Type 0
InTree P t = All P t.objects

pub in-objects : (P : Object → Type 0) → ((m : ℕ) (k : Kind) → Always P (object m k)) → (s : List ℕ) → Ok (InTree P) (taken s)
unfolding object_element
in-objects P h =
    in_taken (λ ks. Unit {0}) (InTree P)
    (λ ks hk. after _ _ λ offset. after _ _ λ m. after _ _ λ ts. next _ (bind _ (at_each ks (h m)) λ os g. given _ g))
    (anything _)
