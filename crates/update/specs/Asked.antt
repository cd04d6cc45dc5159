-- A word that a flag asks for: what is read of it, by what the reading of the word itself gives.
use Rattle.std.specs.Prelude.{◌≡◌, Bool, true, false, Option, None, Some, Result, Ok, Err}
use Rattle.bits.specs.declared.refusals.Refusal.{Refusal}
use Rattle.bits.specs.declared.cursor.BitCursor.{BitCursor}
use Rattle.update.specs.declared.words.Placed.{Placed}

-- P: from a cursor an answer, and the cursor after it. The word stands where its reading begins
module _ {A : Type 0} where
  abbrev pub Told : (BitCursor → Result A Refusal → BitCursor → Type 0) → Bool → BitCursor → Result (Option (Placed A)) Refusal → BitCursor → Type 0
  Told P false c r c' = (r ≡ Ok None) × (c' ≡ c)
  Told P true c (Ok None) c' = ⊥
  Told P true c (Ok (Some w)) c' = P c (Ok w.word) c' × (w.at ≡ c.position)
  Told P true c (Err e) c' = P c (Err e) c'

  pub record Asked (P : BitCursor → Result A Refusal → BitCursor → Type 0) (b : Bool) (c : BitCursor) (r : Result (Option (Placed A)) Refusal) (c' : BitCursor) : Type 0 where
    pub told : Told P b c r c'
