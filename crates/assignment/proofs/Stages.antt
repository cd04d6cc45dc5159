-- The definitions in the stages in which the code reads them.
use Rattle.std.proofs.Common.{◌≡◌, ℕ, suc, List, ◌∷◌, sym, ◌∙◌, refl}
use Rattle.bits.specs.Parsed.{Parsed, Parser, got, refused, and_then, map_parsed, ◌>>=◌, ◌>>◌, map_p, pure, times}
use Rattle.bits.specs.Reads.{flag}
use Rattle.bits.proofs.ParsedLaws.{then-got, then_map, then-then}
use Rattle.standard.specs.Contexts as context
use Rattle.standard.specs.Tree.{Kind}
use Rattle.standard.specs.Assignment.{one_bed, joined, beds}
use Rattle.assignment.specs.Kinds.{Table, extend, onto}
use Rattle.assignment.specs.Parts.{bed_count}
use Rattle.assignment.proofs.Filling.{extend-append}

-- n beds, and how they come after those of a table
abbrev pub some_beds : ℕ → Parser (List Kind)
some_beds n = map_p joined (times n one_bed)

module _ (s : List ℕ) (e p : ℕ) where
  -- the bed count is read before the beds
  pub counted-beds : beds s e p ≡ (flag context.bed-channel-distribution-flag >> (bed_count >>= some_beds)) s e p
  unfolding beds bed_count ◌>>=◌ ◌>>◌
  counted-beds = then-got (flag context.bed-channel-distribution-flag s e p) _ _ λ d q. sym (then-then (flag context.multiple-bed-instances-flag s e q) _ _)

module _ (t : Table) where
  onto-joined : (b : List Kind) (m : Parsed (List (List Kind))) →
      map_parsed (λ ks. extend ks t) (map_parsed joined (and_then m (λ rest q. got (b ∷ rest) q))) ≡ map_parsed (λ ks. extend ks (extend b t)) (map_parsed joined m)
  unfolding joined
  onto-joined b (got rest q) = rw extend-append
  onto-joined b (refused r) = refl

  onto-first : (m : Parsed (List Kind)) (f : List Kind → ℕ → Parsed (List Kind)) (g : Table → ℕ → Parsed Table) → ((ks : List Kind) (q : ℕ) → map_parsed (λ ks. extend ks t) (f ks q) ≡ g (extend ks t) q) →
      map_parsed (λ ks. extend ks t) (and_then m f) ≡ and_then (map_parsed (λ ks. extend ks t) m) g
  onto-first (got ks q) f g h = h ks q
  onto-first (refused r) f g h = refl

  module _ (s : List ℕ) (e p : ℕ) where
    pub onto-counted : onto t beds s e p ≡ (flag context.bed-channel-distribution-flag >>= λ d. bed_count >>= λ n. onto t (some_beds n)) s e p
    unfolding map_p ◌>>=◌ ◌>>◌
    onto-counted =
        rw counted-beds (then_map (flag context.bed-channel-distribution-flag s e p) _ _ ∙ then-got (flag context.bed-channel-distribution-flag s e p) _ _ λ d q. then_map (bed_count s e q) _ _)

    pub onto-more : (n : ℕ) → onto t (some_beds (suc n)) s e p ≡ (onto t one_bed >>= λ t'. onto t' (some_beds n)) s e p
    unfolding map_p times ◌>>=◌ pure
    onto-more n = rw then_map (onto-first (one_bed s e p) _ _ λ ks q. onto-joined ks (times n one_bed s e q))

    pub onto-none : onto t (some_beds 0) s e p ≡ pure t s e p
    unfolding map_p times pure joined extend
    onto-none = refl
