-- What a payload that was read at once tells of the paper's tree.
use Rattle.std.proofs.Common.{◌≡◌, ℕ, ◌*◌, ◌≤◌, List, length, refl, ◌∙◌, ap}
use Rattle.std.proofs.lemmas.Bool.{le-leb}
use Rattle.bits.specs.Parsed.{Refusal, Parsed, got, refused, map_parsed}
use Rattle.standard.specs.Numbers.{payload_limit}
use Rattle.standard.specs.Tree.{Tree}
use Rattle.standard.specs.Rows.{State}
use Rattle.standard.specs.Meaning.{taken}
use Rattle.standard.specs.Syntax.{syntax}
use Rattle.standard.proofs.Counts.{Sized, sized}
use Rattle.oamd.specs.Whole.{Whole, Lending, payload_in, whole_of}
use Rattle.oamd.proofs.Whole.{payload-in}

pub record Tells (st : State) (l : Lending) (s : List ℕ) (w : Whole) : Type 0 where
  pub tree : Tree
  pub place : ℕ
  pub said : syntax s ≡ got tree place
  pub leaves : whole_of st l tree ≡ w

module _ (st : State) (l : Lending) (s : List ℕ) where
  at_once : payload_in st l s (length s * 8) 0 ≡ map_parsed (whole_of st l) (syntax s)
  unfolding syntax
  at_once = (payload-in st l).makes s (length s * 8) 0

  pub frame-told : {w : Whole} {p : ℕ} → got w p ≡ payload_in st l s (length s * 8) 0 → Tells st l s w
  frame-told {w} {p} h = go (syntax s) refl
    where
      go : (m : Parsed Tree) → syntax s ≡ m → Tells st l s w
      go (got t q) e =
          let f : got w p ≡ got (whole_of st l t) q = h ∙ at_once ∙ ap (map_parsed (whole_of st l)) e in
          record { tree = t; place = q; said = e; leaves = cc }
      go (refused r) e =
          let f : got w p ≡ refused r = h ∙ at_once ∙ ap (map_parsed (whole_of st l)) e in
          cc

  pub refusal-told : {r : Refusal} → refused r ≡ payload_in st l s (length s * 8) 0 → syntax s ≡ refused r
  refusal-told {r} h = go (syntax s) refl
    where
      go : (m : Parsed Tree) → syntax s ≡ m → syntax s ≡ refused r
      go (got t q) e =
          let f : refused r ≡ got (whole_of st l t) q = h ∙ at_once ∙ ap (map_parsed (whole_of st l)) e in
          cc
      go (refused r') e =
          let f : ◌≡◌ {A = Parsed Whole} (refused r) (refused r') = h ∙ at_once ∙ ap (map_parsed (whole_of st l)) e in
          let same : r ≡ r' = cc in
          rw same e

pub sized-tree : (s : List ℕ) {t : Tree} {q : ℕ} → length s ≤ payload_limit → syntax s ≡ got t q → Sized t
unfolding taken
sized-tree s h e = rw (le-leb (length s) payload_limit h, e) at (sized s)
