-- A reset by its programme start: the same number, and doubt where that was accepted.
use Prim.Native.Nat.{◌<◌}
use mathlib.Core.Path.{◌≡◌, refl, sym}
use mathlib.Core.Bool.{Bool, true, false, cond}
use mathlib.Core.List.{List}
use native.Mathlib.Omega.{arith}
use borrow.Author.Tests.{leb-true}
use lib.Dec.{leb}
use lib.IntN.{ℤ, pos}
use lib.ListN.{length, set}
use Rattle.standard.specs.Numbers.{doubt_at, retained_length, accepted, room}
use Rattle.standard.specs.Calls.{Kept, over, zeros, renewed, programme_start, reset}
use Rattle.standard.proofs.Tabled.{set-over, start-holds}

module _ (l : List ℤ) where
  abbrev ends : List ℤ → Bool → Kept
  ends new b = cond b (record { number = accepted; retained = over new l }) (record { number = room; retained = l })

  pub same-number : (reset l).number ≡ (programme_start l).number
  unfolding programme_start reset renewed
  same-number = go (leb retained_length (length l))
    where
      go : (b : Bool) → (ends (set zeros doubt_at (pos 1)) b).number ≡ (ends zeros b).number
      go true = refl
      go false = refl

  pub then-doubted : (programme_start l).number ≡ accepted → (reset l).retained ≡ set (programme_start l).retained doubt_at (pos 1)
  unfolding programme_start reset renewed
  then-doubted = go (leb retained_length (length l))
    where
      go : (b : Bool) → (ends zeros b).number ≡ accepted → (ends (set zeros doubt_at (pos 1)) b).retained ≡ set (ends zeros b).retained doubt_at (pos 1)
      go true e = sym (set-over l)
      go false e = absurd (omega (arith, e))

  pub else-kept : accepted < (programme_start l).number → (reset l).retained ≡ (programme_start l).retained
  unfolding programme_start reset renewed
  else-kept = go (leb retained_length (length l))
    where
      go : (b : Bool) → accepted < (ends zeros b).number → (ends (set zeros doubt_at (pos 1)) b).retained ≡ (ends zeros b).retained
      go true h = absurd (omega (arith, h))
      go false h = refl

  roomy : (programme_start l).number ≡ accepted → leb retained_length (length l) ≡ true
  unfolding programme_start renewed
  roomy = go (leb retained_length (length l))
    where
      go : (b : Bool) → (ends zeros b).number ≡ accepted → b ≡ true
      go true e = refl
      go false e = absurd (omega (arith, e))

  pub doubt-there : (programme_start l).number ≡ accepted → doubt_at < length (programme_start l).retained
  unfolding retained_length
  doubt-there e = let n = leb-true retained_length _ (start-holds l (roomy e)).good.long in omega (arith, n)

pub ruleset resets = (same-number, then-doubted, else-kept, doubt-there)
