-- Lines that wait to be written.
use Rattle.std.specs.Prelude.{◌≡◌, ◌⊎◌, ℕ, List, [], ◌++◌}

-- what was handed to write, and what waits then, is what waited and the text behind it; the text waits whole, behind all or none of what waited
pub record Emits (waited text waits : List ℕ) : Type 0 where
  pub handed : List ℕ
  pub same : handed ++ waits ≡ waited ++ text
  pub before : List ℕ
  pub all_or_none : (before ≡ waited) ⊎ (before ≡ [])
  pub whole : waits ≡ before ++ text
