-- A number that passes every limit may stand for a larger one: it is read, tested and passed over alike.
use Prim.Native.Nat.{ℕ, zero, suc, ◌+◌, ◌-◌, ◌≤◌, ◌<◌, min}
use mathlib.Core.Path.{◌≡◌, refl, ap, sym, ◌∙◌}
use mathlib.Core.Bool.{Bool, true, false}
use mathlib.Core.List.{List}
use native.Mathlib.Nat.{min-eq_left, min-eq_right, min-le_right, mul-le-mul_left}
use native.Mathlib.Omega.{arith}
use lib.Dec.{leb, eqb}
use lib.Pow.{pow_pos}
use borrow.Author.Tests.{leb-true, leb-false, ne_eqb}
use Rattle.bits.specs.Parsed.{Parsed, got, refused, Parser, and_then, map_parsed}
use Rattle.bits.proofs.Always.{Always, Ok}
use Rattle.bits.proofs.ParsedLaws.{then_map}
use Rattle.standard.specs.Container.{bits, flag, variable}
use Rattle.emdf.specs.Say.{large, near}
use Rattle.emdf.proofs.Cuts.{Whole, bits-tells, flag-whole}
use Rattle.emdf.proofs.GroupLaws.{rest, grown, after_flag, group-then, first_then}

-- two values that are read alike: equal, or both past every limit
pub data Alike (v v' : ℕ) : Type 0 where
  same : v ≡ v' → Alike v v'
  past : large ≤ v → large ≤ v' → Alike v v'

pub min-small : (n : ℕ) → n ≤ large → min n large ≡ n
min-small n h = min-eq_left h

pub alike : {v v' : ℕ} → Alike v v' → min v large ≡ min v' large
alike (same e) = ap (λ x. min x large) e
alike (past h l) = min-eq_right h ∙ sym (min-eq_right l)

pub alike-min : (v : ℕ) → Alike v (min v large)
alike-min v = go (leb v large) refl
  where
    go : (b : Bool) → leb v large ≡ b → Alike v (min v large)
    go true t = same (sym (min-small v (leb-true v large t)))
    go false t = let h = leb-false v large t in let k : large ≤ v = omega arith in rw (min-eq_right k) (past k (omega arith))

-- Groups: a value grows by each, so past the limits it stays there

grown-le : (w v g : ℕ) → v ≤ grown w v g
grown-le w v g = omega (arith, mul-le-mul_left v (pow_pos w))

alike-grown : (w g : ℕ) {v v' : ℕ} → Alike v v' → Alike (grown w v g) (grown w v' g)
alike-grown w g (same e) = same (ap (λ x. grown w x g) e)
alike-grown w g {v} {v'} (past h l) = past (omega (arith, grown-le w v g)) (omega (arith, grown-le w v' g))

module _ (w first : ℕ) (s : List ℕ) (e : ℕ) where
  abbrev left : ℕ → ℕ → Parsed ℕ
  left v p = rest w first s e v p

  abbrev Near : ℕ → Type 0
  Near n = (v v' p : ℕ) → e - p < n → Alike v v' → near (left v p) ≡ near (left v' p)

  after-group : (n : ℕ) → Near n → (v v' p q : ℕ) → e - p < suc n → p < q → Alike v v' → (x : Parsed ℕ) → Whole w s e q x
      → near (and_then x (λ g q'. left (grown w v g) q')) ≡ near (and_then x (λ g q'. left (grown w v' g) q'))
  after-group n ih v v' p q h l a (got g q') (k, j) = ih (grown w v g) (grown w v' g) q' (omega arith) (alike-grown w g a)
  after-group n ih v v' p q h l a (refused r) k = refl

  after-flag : (n : ℕ) → Near n → (v v' p : ℕ) → e - p < suc n → Alike v v' → (x : Parsed Bool) → Whole 1 s e p x
      → near (and_then x (after_flag w first s e left v)) ≡ near (and_then x (after_flag w first s e left v'))
  after-flag n ih v v' p h a (got true q) (k, j) = after-group n ih v v' p q h (omega arith) a (bits w s e q) ((bits-tells w).tells s e q)
  after-flag n ih v v' p h a (got false q) k = ap (λ (m : ℕ). got m q) (alike a)
  after-flag n ih v v' p h a (refused r) k = refl

  near-rest : (n : ℕ) → Near n
  near-rest zero v v' p h a = absurd (omega arith)
  near-rest (suc n) v v' p h a =
      rw (group-then w first s e v p, group-then w first s e v' p)
      (after-flag n (near-rest n) v v' p h a (flag s e p) (flag-whole.tells s e p))

  -- what is kept of the value is enough for the rest
  pub kept : (v p : ℕ) → near (left v p) ≡ near (left (min v large) p)
  kept v p = near-rest (suc (e - p)) v (min v large) p (omega arith) (alike-min v)

  abbrev pub near_rest : ℕ → ℕ → Parsed ℕ
  near_rest v p = near (left v p)

  -- a group, and then the rest of what is kept
  pub near-group : (v p : ℕ) → v ≤ large → near_rest v p ≡ and_then (flag s e p) (after_flag w first s e (λ v' q. near_rest (min v' large) q) v)
  near-group v p l = rw (group-then w first s e v p) (go (flag s e p))
    where
      on : (x : Parsed ℕ) → near (and_then x (λ g q'. left (grown w v g) q')) ≡ and_then x (λ g q'. near_rest (min (grown w v g) large) q')
      on (got g q) = kept (grown w v g) q
      on (refused r) = refl

      go : (x : Parsed Bool) → near (and_then x (after_flag w first s e left v)) ≡ and_then x (after_flag w first s e (λ v' q. near_rest (min v' large) q) v)
      go (got true q) = on (bits w s e q)
      go (got false q) = ap (λ (m : ℕ). got m q) (min-small v l)
      go (refused r) = refl

-- of a first group of few bits nothing is lost
pub near-variable : (w : ℕ) → (s : List ℕ) (e p : ℕ) → near (variable w s e p) ≡ and_then (bits w s e p) (near_rest w p s e)
near-variable w s e p = rw (first_then w s e p) (then_map (bits w s e p) (rest w p s e) (λ n. min n large))

-- What is made of a number

pub near_le : (m : Parser ℕ) → Always (λ n. n ≤ large) (λ s e p. near (m s e p))
near_le m = record { ok = λ s e p. go (m s e p) }
  where
    go : (x : Parsed ℕ) → Ok (λ n. n ≤ large) (near x)
    go (got n q) = min-le_right n large
    go (refused r) = tt

pub near-passed : (x : Parsed ℕ) → map_parsed (λ n. tt {0}) x ≡ map_parsed (λ n. tt {0}) (near x)
near-passed (got n q) = refl
near-passed (refused r) = refl

alike-add : (k : ℕ) {v v' : ℕ} → Alike v v' → Alike (k + v) (k + v')
alike-add k (same e) = same (ap (λ x. k + x) e)
alike-add k (past h l) = past (omega arith) (omega arith)

pub near-added : (k : ℕ) (x : Parsed ℕ) → near (map_parsed (λ n. k + n) x) ≡ map_parsed (λ n. min (k + n) large) (near x)
near-added k (got n q) = ap (λ (m : ℕ). got m q) (alike (alike-add k (alike-min n)))
near-added k (refused r) = refl

pub near-is : (n k : ℕ) → k < large → eqb n k ≡ eqb (min n large) k
near-is n k h = go (alike-min n)
  where
    go : Alike n (min n large) → eqb n k ≡ eqb (min n large) k
    go (same e) = ap (λ x. eqb x k) e
    go (past a b) = ne_eqb n k (λ e. absurd (omega arith)) ∙ sym (ne_eqb (min n large) k (λ e. absurd (omega arith)))
