-- What a frame's payload says, if anything is heard, is fit.
use Prim.Native.Nat.{ℕ}
use mathlib.Core.Path.{◌≡◌}
use mathlib.Core.List.{List}
use mathlib.Core.Option.{Option, none, some}
use Rattle.bits.specs.Parsed.{Parsed, got, refused}
use Rattle.bits.proofs.Always.{Ok}
use Rattle.standard.specs.Tree.{Tree}
use Rattle.standard.specs.Meaning.{taken}
use Rattle.standard.proofs.Endings.{Fit, fit}
use Rattle.programmes.specs.Programmes.{tree_of, said}

abbrev pub FitIf : Option Tree → Type 0
FitIf none = Unit {0}
FitIf (some t) = Fit t

pub said-fit : (s : Option (List ℕ)) → FitIf (said s)
unfolding said tree_of
said-fit none = tt
said-fit (some s) = go (taken s) (fit s)
  where
    go : (p : Parsed Tree) → Ok Fit p → FitIf (tree_of p)
    go (got t q) h = h
    go (refused r) h = tt

pub heard-fit : (s : Option (List ℕ)) (t : Tree) → said s ≡ some t → Fit t
heard-fit s t e = rw e at (said-fit s)
