-- Variable bits without a limit on groups: a group, and then the rest.
use Prim.Native.Nat.{ℕ, suc, ◌+◌, ◌*◌, ◌-◌, ◌^◌, ◌≤◌, ◌<◌}
use mathlib.Core.Path.{◌≡◌, refl, ◌∙◌, ap}
use mathlib.Core.Bool.{Bool, true, false}
use mathlib.Core.List.{List}
use native.Mathlib.Omega.{arith}
use Rattle.bits.specs.Parsed.{Parsed, got, refused, and_then, instead_of, ◌>>=◌, refused_as, here, limit}
use Rattle.bits.specs.Reads as reads
use Rattle.bits.specs.Reads.{later_groups}
use Rattle.bits.proofs.Groups as groups
use Rattle.bits.proofs.Groups.{later-groups}
use Rattle.bits.proofs.ParsedLaws.{then-got, instead-then, instead-twice}
use Rattle.standard.specs.Container.{or_ends_early, bits, flag, variable}
use Rattle.emdf.proofs.Turns.{Turns, enough, turn-then}
use Rattle.emdf.proofs.Cuts.{cut, Whole, cut-past, bits-tells, flag-whole}

-- what a group g of w bits makes of the value so far
abbrev pub grown : ℕ → ℕ → ℕ → ℕ
grown w v g = v * 2 ^ w + 2 ^ w + g

-- of groups of w bits, of the number that begins at `first`
module _ (w first : ℕ) (s : List ℕ) (e : ℕ) where
  -- n more groups at most, of the value v
  abbrev pub up_to : ℕ → ℕ → ℕ → Parsed ℕ
  up_to n v p = instead_of cut (later_groups w 0 first n v s e p)

  -- as many as there are bits
  abbrev pub rest : ℕ → ℕ → Parsed ℕ
  rest v p = up_to (e - p) v p

  -- a flag that is set asks for a group, and `then` goes on from the value grown
  abbrev pub after_flag : (ℕ → ℕ → Parsed ℕ) → ℕ → Bool → ℕ → Parsed ℕ
  after_flag then v true q = and_then (bits w s e q) (λ g q'. then (grown w v g) q')
  after_flag then v false q = got v q

  one-group : (n v p : ℕ) → up_to (suc n) v p ≡ and_then (flag s e p) (after_flag (up_to n) v)
  unfolding flag bits or_ends_early refused_as
  one-group n v p =
      ap (instead_of cut) (later-groups w 0 first v s e (suc n) p)
      ∙ instead-then cut (reads.flag 0 s e p) (groups.after_flag w 0 first v s e (suc n))
      ∙ then-got (instead_of cut (reads.flag 0 s e p)) _ _ go
    where
      go : (more : Bool) (q : ℕ) → instead_of cut (groups.after_flag w 0 first v s e (suc n) more q) ≡ after_flag (up_to n) v more q
      go true q =
          instead-then cut (instead_of (limit 0 first) (reads.read w 0 s e q)) _
          ∙ ap (λ x. and_then x (λ g q'. up_to n (grown w v g) q')) (instead-twice cut (limit 0 first) (reads.read w 0 s e q))
      go false q = refl

  none_left : (n v p : ℕ) → e ≤ p → up_to n v p ≡ refused cut
  unfolding flag or_ends_early refused_as
  none_left n v p l =
      ap (instead_of cut) (later-groups w 0 first v s e n p)
      ∙ instead-then cut (reads.flag 0 s e p) (groups.after_flag w 0 first v s e n)
      ∙ ap (λ x. and_then x (λ more q. instead_of cut (groups.after_flag w 0 first v s e n more q))) (cut-past 1 flag-whole s e p (omega arith))

  -- what follows a group may be said in two ways that are the same further on
  module _ (f g : ℕ → ℕ → Parsed ℕ) (p : ℕ) (same : (v q : ℕ) → p < q → q ≤ e → f v q ≡ g v q) where
    after-group : (v q : ℕ) (x : Parsed ℕ) → p < q → Whole w s e q x → and_then x (λ d q'. f (grown w v d) q') ≡ and_then x (λ d q'. g (grown w v d) q')
    after-group v q (got d q') l (k, j) = same (grown w v d) q' (omega arith) j
    after-group v q (refused r) l k = refl

    after-flag : (v : ℕ) (x : Parsed Bool) → Whole 1 s e p x → and_then x (after_flag f v) ≡ and_then x (after_flag g v)
    after-flag v (got true q) (k, j) = after-group v q (bits w s e q) (omega arith) ((bits-tells w).tells s e q)
    after-flag v (got false q) k = refl
    after-flag v (refused r) k = refl

  abbrev one : (ℕ → ℕ → Parsed ℕ) → ℕ → ℕ → Parsed ℕ
  one then v p = and_then (flag s e p) (after_flag then v)

  turns : Turns e up_to one
  turns = record {
    first = one-group;
    none = none_left;
    cut-turn = λ then v p l. ap (λ x. and_then x (after_flag then v)) (cut-past 1 flag-whole s e p (omega arith));
    later = λ f g v p same. after-flag f g p same v (flag s e p) (flag-whole.tells s e p);
  }

  -- a group, and then the rest
  pub group-then : (v p : ℕ) → rest v p ≡ and_then (flag s e p) (after_flag rest v)
  group-then v p = turn-then turns v p

-- the first group, and then the rest
pub first_then : (w : ℕ) (s : List ℕ) (e p : ℕ) → variable w s e p ≡ and_then (bits w s e p) (rest w p s e)
unfolding variable bits or_ends_early refused_as reads.variable_bits ◌>>=◌ here
first_then w s e p = instead-then cut (reads.read w 0 s e p) _ ∙ go (bits w s e p) ((bits-tells w).tells s e p)
  where
    go : (x : Parsed ℕ) → Whole w s e p x → and_then x (λ v q. up_to w p s e (e - p) v q) ≡ and_then x (rest w p s e)
    go (got v q) (k, l) = enough (turns w p s e) (e - p) (e - q) v q (omega arith) (omega arith)
    go (refused r) k = refl
