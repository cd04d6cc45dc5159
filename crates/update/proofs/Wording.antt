-- A word that may be said, in the code and in the paper.
use Rattle.std.proofs.Common.{◌≡◌, refl}
use Rattle.std.specs.Prelude as code
use Rattle.standard.specs.Meaning.{or_before}
use Rattle.update.specs.declared.words.Placed.{Placed}
use Rattle.update.specs.Say.{asked_said, word_or}

module _ {A B : Type 0} (say : A → B) where
  pub word-before : (o : code.Option (Placed A)) (a : A) → say (word_or o a) ≡ or_before (asked_said say o) (say a)
  word-before code.None a = refl
  word-before (code.Some w) a = refl
