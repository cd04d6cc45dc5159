-- The two tests of blocks by the walk that both are.
use Prim.Native.Nat.{ℕ, ◌<◌}
use mathlib.Core.Path.{◌≡◌, refl}
use mathlib.Core.Bool.{Bool, true, false, ◌||◌}
use mathlib.Core.List.{List, [], ◌∷◌}
use native.Mathlib.Omega.{arith}
use borrow.Author.Tests.{ltb-true, lt-ltb}
use lib.Dec.{ltb}
use Rattle.standard.specs.Numbers.{frame_length}
use Rattle.standard.specs.Tree.{Timing}
use Rattle.standard.specs.Timing.{end_of, apart}
use Rattle.standard.specs.Carried.{following}
use Rattle.timing.specs.Blocks.{spaced}

-- a block that starts past the frame ends past it
crossing : (t : Timing) → (ltb frame_length t.start || ltb frame_length (end_of t)) ≡ ltb frame_length (end_of t)
crossing t = go (ltb frame_length t.start) (ltb-true _ _)
  where
    go : (b : Bool) → (b ≡ true → frame_length < t.start) → (b || ltb frame_length (end_of t)) ≡ ltb frame_length (end_of t)
    go true h = rw (lt-ltb frame_length (end_of t) (omega (arith, h refl)))
    go false h = refl

pub apart-ends : (n : ℕ) (ts : List Timing) → spaced end_of n ts ≡ apart n ts
unfolding spaced apart
apart-ends n [] = refl
apart-ends n (t ∷ ts) = rw (crossing t, apart-ends (end_of t) ts)

pub following-starts : (n : ℕ) (ts : List Timing) → spaced (λ t. t.start) n ts ≡ following n ts
unfolding spaced following
following-starts n [] = refl
following-starts n (t ∷ ts) = rw (following-starts (end_of t) ts)
