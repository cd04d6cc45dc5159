-- What a call answers and leaves that writes what it reads into a lent table.
use Rattle.std.specs.Prelude.{ℕ, ◌≡◌, List, [], ◌∷◌, length, drop, Result}
use Rattle.bits.specs.Parsed.{Parser}
use Rattle.bits.specs.Say.{ReadsAs}
use Rattle.bits.specs.declared.cursor.BitCursor.{BitCursor}
use Rattle.bits.specs.declared.refusals.Refusal.{Refusal}
use Rattle.standard.specs.Tree.{Timing}
use Rattle.rows.specs.Places.{written}

-- The table t₀ has become t: as long as it was, and the same behind its first n numbers.
pub record Filled {A : Type 0} (n : ℕ) (t₀ t : List A) : Type 0 where
  pub long : length t ≡ length t₀
  pub rest : drop n t ≡ drop n t₀

-- The call answers what the reading m does; where m gives a table, that one is left.
pub record Fills {A : Type 0} (n : ℕ) (m : Parser (List A)) (c : BitCursor) (t₀ : List A) (r : Result (Unit {0}) Refusal) (c' : BitCursor) (t : List A) : Type 0 where
  pub reads : ReadsAs (λ u. t) m c r c'
  pub filled : Filled n t₀ t

-- a timing's two numbers in the table t, from place i on
abbrev pub put_timing : List ℕ → ℕ → Timing → List ℕ
put_timing t i x = written t i (x.start ∷ x.ramp ∷ [])
