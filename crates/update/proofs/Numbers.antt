-- Fields as numbers of 16 bits.
use Rattle.std.proofs.Common.{◌≡◌, ℕ, ◌^◌, ◌<◌, ◌≤◌, Bool, true, false, cond, Ok, ℤ, pos, refl, ◌∙◌, arith}
use lib.Signed.{mag}
use lib.Pow.{pow_mono}
use mir.Syntax.{w16}
use mir.Val.{to_z, of_z, bool_byte}
use mir.Facts.{to_z_pos}
use Rattle.bits.specs.Reads.{read}
use Rattle.bits.specs.Say.{Reads}
use Rattle.bits.specs.declared.cursor.BitCursor.{BitCursor}
use Rattle.standard.specs.Updates.{bit}
use Rattle.rows.proofs.Tests.{back}
use Rattle.bits.proofs.Fields.{read-lt}
use Rattle.bits.proofs.Reading.{has}

-- a small number is the same with a sign
pub up : {n : ℕ} → n < 32768 → to_z w16 n ≡ pos n
up h = to_z_pos w16 h

module _ (w x : ℕ) {n : ℕ} {c c' : BitCursor} where
  pub below : Reads (read w x) c (Ok n) c' → n < 2 ^ w
  below h = has (read-lt w x) h

  pub narrow : w ≤ 15 → Reads (read w x) c (Ok n) c' → to_z w16 n ≡ pos n
  narrow le h = up (omega (arith, below h, pow_mono le))

-- the number of a flag, as `From` gives it
pub flag-bit : (b : Bool) {z : ℤ} → z ≡ pos (bool_byte b) → mag z < 32768 → to_z w16 (of_z w16 z) ≡ bit b
unfolding bit
flag-bit b is fits = back fits ∙ is ∙ go b
  where
    go : (b : Bool) → pos (bool_byte b) ≡ cond b (pos 1) (pos 0)
    go true = refl
    go false = refl
