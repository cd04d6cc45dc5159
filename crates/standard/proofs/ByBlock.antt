-- Rows by object, laid block by block: how many there are, and what holds of each or of each pair.
use Prim.Native.Nat.{ℕ, zero, suc, ◌+◌, ◌*◌, ◌≤◌, ◌<◌}
use mathlib.Core.Path.{◌≡◌, sym}
use mathlib.Core.List.{List, [], ◌∷◌, ◌++◌}
use native.Mathlib.Nat.{zero-mul, suc-mul}
use native.Mathlib.Omega.{arith}
use lib.ListN.{length, get_or, length-append, length-map}
use Rattle.bits.proofs.Always.{All}
use Rattle.standard.specs.Rows.{Row, no_row}
use Rattle.standard.specs.Tables.{in_block, by_block}
use Rattle.standard.proofs.Small.{Pairs}

pub blocks-length : (n b : ℕ) (rs : List (List Row)) → length (by_block n b rs) ≡ n * length rs
unfolding by_block
blocks-length zero b rs = sym (zero-mul (length rs))
blocks-length (suc n) b rs =
    let e = blocks-length n (suc b) rs in
    let m = length-map rs (λ (r : List Row). get_or r b no_row) in
    rw suc-mul (simp length-append (omega arith))

-- Of each

all_append : {A : Type 0} (P : A → Type 0) (xs ys : List A) → All P xs → All P ys → All P (xs ++ ys)
all_append P [] ys h k = k
all_append P (x ∷ xs) ys h k = (h.0, all_append P xs ys h.1 k)

pub all-at : {A : Type 0} (P : A → Type 0) (xs : List A) (d : A) (i : ℕ) → i < length xs → All P xs → P (get_or xs i d)
all-at P [] d i l h = absurd (omega arith)
all-at P (x ∷ xs) d zero l h = h.0
all-at P (x ∷ xs) d (suc i) l h = all-at P xs d i (omega arith) h.1

-- rows that reach n blocks from block b
abbrev pub Reach : ℕ → List Row → Type 0
Reach n r = n ≤ length r

module _ (P : Row → Type 0) where
  pub block-all : (b : ℕ) (rs : List (List Row)) → All (All P) rs → All (Reach (suc b)) rs → All P (in_block b rs)
  block-all b [] h l = tt
  block-all b (r ∷ rs) h l = (all-at P r no_row b l.0 h.0, block-all b rs h.1 l.1)

  shorter : (m n : ℕ) (rs : List (List Row)) → m ≤ n → All (Reach n) rs → All (Reach m) rs
  shorter m n [] h l = tt
  shorter m n (r ∷ rs) h l = let k = l.0 in (omega arith, shorter m n rs h l.1)

  pub blocks-all : (n b : ℕ) (rs : List (List Row)) → All (All P) rs → All (Reach (b + n)) rs → All P (by_block n b rs)
  unfolding by_block
  blocks-all zero b rs h l = tt
  blocks-all (suc n) b rs h l =
      all_append P (in_block b rs) (by_block n (suc b) rs) (block-all b rs h (shorter (suc b) (b + suc n) rs (omega arith) l)) (blocks-all n (suc b) rs h (shorter (suc b + n) (b + suc n) rs (omega arith) l))

-- Of each pair

module _ (R : Row → Row → Type 0) (none : R no_row no_row) where
  pair-at : (xs ys : List Row) (i : ℕ) → Pairs R xs ys → R (get_or xs i no_row) (get_or ys i no_row)
  pair-at [] [] i h = none
  pair-at [] (y ∷ ys) i h = absurd h
  pair-at (x ∷ xs) [] i h = absurd h
  pair-at (x ∷ xs) (y ∷ ys) zero h = h.0
  pair-at (x ∷ xs) (y ∷ ys) (suc i) h = pair-at xs ys i h.1

  block-pairs : (b : ℕ) (xs ys : List (List Row)) → Pairs (Pairs R) xs ys → Pairs R (in_block b xs) (in_block b ys)
  block-pairs b [] [] h = tt
  block-pairs b [] (y ∷ ys) h = absurd h
  block-pairs b (x ∷ xs) [] h = absurd h
  block-pairs b (x ∷ xs) (y ∷ ys) h = (pair-at x y b h.0, block-pairs b xs ys h.1)

  pairs-append : (xs ys vs ws : List Row) → Pairs R xs ys → Pairs R vs ws → Pairs R (xs ++ vs) (ys ++ ws)
  pairs-append [] [] vs ws h k = k
  pairs-append [] (y ∷ ys) vs ws h k = absurd h
  pairs-append (x ∷ xs) [] vs ws h k = absurd h
  pairs-append (x ∷ xs) (y ∷ ys) vs ws h k = (h.0, pairs-append xs ys vs ws h.1 k)

  pub blocks-pairs : (n b : ℕ) (xs ys : List (List Row)) → Pairs (Pairs R) xs ys → Pairs R (by_block n b xs) (by_block n b ys)
  unfolding by_block
  blocks-pairs zero b xs ys h = tt
  blocks-pairs (suc n) b xs ys h = pairs-append (in_block b xs) (in_block b ys) (by_block n (suc b) xs) (by_block n (suc b) ys) (block-pairs b xs ys h) (blocks-pairs n (suc b) xs ys h)
