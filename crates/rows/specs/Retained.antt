-- The retained table, as the code takes it.
use Rattle.std.specs.Prelude.{ℕ, ◌+◌, ◌*◌, ◌≤◌, ◌<◌, ◌≡◌, true, List, ℤ, pos, length, get_or}
use Rattle.standard.specs.Numbers.{row_width, object_limit, retained_length}
use Rattle.standard.specs.Tables.{between, count_of}

pub record Countable (l : List ℤ) : Type 0 where
  pub there : 0 < length l
  pub in_range : between (pos 0) (pos object_limit) (get_or l 0 (pos 0)) ≡ true

pub record Counted (l : List ℤ) (n : ℕ) : Type 0 where
  pub same : n ≡ count_of l
  pub few : n ≤ object_limit

-- n rows of b, from `first` on, can be kept in l
pub record Keepable (l b : List ℤ) (first n : ℕ) : Type 0 where
  pub room : retained_length ≤ length l
  pub few : n ≤ object_limit
  pub there : first + n * row_width ≤ length b
