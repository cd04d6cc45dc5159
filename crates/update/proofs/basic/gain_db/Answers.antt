use Rattle.std.proofs.Common.{◌≡◌, ◌+◌, ℕ, ◌≤◌, Bool, true, false, refl, pos, arith}
use Rattle.std.proofs.lemmas.Bool.{le-leb, lt-leb}
use Rattle.std.proofs.lemmas.Int.{ints}
use lib.Dec.{ltb}
use lib.IntN.{sub_ℕ}
use lib.Signed.{mag}
use mir.Syntax.{w16}
use mir.Val.{to_z}
use Rattle.bits.proofs.Signs.{minus}
use Rattle.standard.specs.Updates.{decibels}
use Rattle.rows.proofs.Tests.{back}
use Rattle.update.proofs.Numbers.{up}
use Rattle.update.proofs.basic.gain_db.Goals as goal

-- how large a difference of two naturals is
mag-minus : (a b : ℕ) → mag (sub_ℕ a b) ≤ a + b
mag-minus a b = go (ltb a b) refl
  where
    go : (t : Bool) → ltb a b ≡ t → mag (sub_ℕ a b) ≤ a + b
    go true e = rw e (omega arith)
    go false e = rw e (omega arith)

pub returns-then-number-lt-HIGHEST_GAIN : goal.returns-then-number-lt-HIGHEST_GAIN
unfolding decibels
returns-then-number-lt-HIGHEST_GAIN c =
    let n : to_z w16 c.args.word ≡ pos c.args.word = up (omega arith) in
    let low = rw n at c.if-number-lt-HIGHEST_GAIN.true in
    rw (n, minus, le-leb c.args.word 14 (omega (arith, ints, low))) (back (omega (arith, mag-minus 15 c.args.word)))

pub returns-else-number-lt-HIGHEST_GAIN : goal.returns-else-number-lt-HIGHEST_GAIN
unfolding decibels
returns-else-number-lt-HIGHEST_GAIN c =
    let n : to_z w16 c.args.word ≡ pos c.args.word = up (omega arith) in
    let high = rw n at c.if-number-lt-HIGHEST_GAIN.false in
    rw (n, minus, lt-leb c.args.word 14 (omega (arith, ints, high))) (back (omega (arith, mag-minus 14 c.args.word)))
