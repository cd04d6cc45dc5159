-- What a read leaves.
use Rattle.std.specs.Prelude.{◌≡◌, ℕ, List, ◌++◌, length, Result, Ok, Err}
use Rattle.std.specs.declared.io.Error.{Error}

-- what had arrived stays, and behind it stand as many bytes more as the answer says
abbrev pub Arrives : List ℕ → Result ℕ Error → List ℕ → Type 0
Arrives before (Ok n) after = (part : List ℕ) × (after ≡ before ++ part) × (length part ≡ n)
Arrives before (Err e) after = after ≡ before
