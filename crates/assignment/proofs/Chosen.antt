-- The channels that an assignment chooses, a bit at a time.
use Rattle.std.proofs.Common.{◌≡◌, ℕ, ◌+◌, ◌/◌, ◌^◌, ◌≤◌, ◌<◌, cond, List, [], ◌++◌, length, get_or, drop, replicate, add-one, drop-cons}
use native.Mathlib.Nat.{pow-suc, div-one, div-div-eq-div-mul}
use lib.ListN.{drop_of_length-le}
use Rattle.bits.specs.Bits.{is_set}
use Rattle.standard.specs.Tree.{Kind}
use Rattle.standard.specs.Assignment.{chosen}
use Rattle.assignment.specs.Parts.{channel_kind, channels}

-- the channels that are chosen from bit i on
unfoldable pub kinds_from : ℕ → ℕ → List ℕ → ℕ → List Kind
kinds_from second i ws v = chosen (channels second i (drop i ws)) (v / 2 ^ i)

lowest : (i v : ℕ) → is_set 0 (v / 2 ^ i) ≡ is_set i v
unfolding is_set
lowest i v = rw (div-one (v / 2 ^ i))

module _ (second : ℕ) (ws : List ℕ) (v : ℕ) where
  pub chosen-all : kinds_from second 0 ws v ≡ chosen (channels second 0 ws) v
  unfolding kinds_from
  chosen-all = rw (div-one v)

  pub chosen_none : (i : ℕ) → length ws ≤ i → kinds_from second i ws v ≡ []
  unfolding kinds_from channels chosen
  chosen_none i h = rw (drop_of_length-le ws h)

  pub chosen_more : (i : ℕ) → i < length ws → kinds_from second i ws v ≡ cond (is_set i v) (replicate (get_or ws i 0) (channel_kind second i)) [] ++ kinds_from second (i + 1) ws v
  unfolding kinds_from channels chosen
  chosen_more i h =
      rw (drop-cons ws i 0, lowest, div-div-eq-div-mul, add-one, pow-suc)
