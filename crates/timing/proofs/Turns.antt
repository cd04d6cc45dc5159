-- A loop over a frame's blocks: what a rule says of all blocks is what it says of those left.
use Prim.Native.Nat.{ℕ, ◌+◌, ◌≤◌, ◌<◌}
use mathlib.Core.Path.{◌≡◌, refl, ◌∙◌}
use mathlib.Core.List.{List, [], ◌∷◌, map}
use native.Mathlib.Numerals.{add-one}
use native.Mathlib.Omega.{arith}
use lib.ListN.{length, get_or, drop}
use lib.Seq.{drop-cons}
use Rattle.std.proofs.lemmas.List.{drop_all}
use Rattle.standard.specs.Tree.{Timing}
use Rattle.timing.specs.Blocks.{timing_of}

-- the timings of the blocks from block i on
abbrev left : List (List ℕ) → ℕ → List Timing
left l i = map timing_of (drop i l)

-- a rule that began with the number m has come to the number k and to block i
pub record Reached {R : Type 0} (rule : ℕ → List Timing → R) (m : ℕ) (l : List (List ℕ)) (k i : ℕ) : Type 0 where
  pub within : i ≤ length l
  pub same : rule m (map timing_of l) ≡ rule k (left l i)

module _ {R : Type 0} {rule : ℕ → List Timing → R} where
  pub begin : (m : ℕ) (l : List (List ℕ)) → Reached rule m l m 0
  begin m l = record { within = omega arith; same = refl }

  module _ {m : ℕ} {l : List (List ℕ)} {k i : ℕ} (h : Reached rule m l k i) where
    -- at block i the rule decides
    pub decided : {t : Timing} → t ≡ timing_of (get_or l i []) → i < length l → {r : R} → rule k (t ∷ left l (i + 1)) ≡ r → rule m (map timing_of l) ≡ r
    decided e more d = h.same ∙ rw (drop-cons l i [] more, ← e) (rw (add-one i) at d)

    pub onward : {t : Timing} → t ≡ timing_of (get_or l i []) → i < length l → {k' : ℕ} → rule k (t ∷ left l (i + 1)) ≡ rule k' (left l (i + 1)) → Reached rule m l k' (i + 1)
    onward e more d = record { within = omega arith; same = decided e more d }

    pub ended : length l ≤ i → rule m (map timing_of l) ≡ rule k []
    ended none = h.same ∙ rw (drop_all i l none)
