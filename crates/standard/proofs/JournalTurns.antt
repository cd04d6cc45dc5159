-- A record has 2 bytes at least, so that as many turns as bytes suffice for a journal.
use Prim.Native.Nat.{ℕ, zero, suc, ◌+◌, ◌*◌, ◌≤◌}
use mathlib.Core.Path.{◌≡◌, refl, ap}
use mathlib.Core.Bool.{Bool, true, false, cond, ◌&&◌}
use mathlib.Core.List.{List, [], ◌∷◌}
use native.Mathlib.Omega.{arith}
use lib.Dec.{leb, eqb}
use lib.ListN.{length, take, drop, length-drop}
use Rattle.standard.specs.Journal.{Record, payload, gap_notice, reset_notice, start_notice, Step, whole, more, unknown, payload_step, step, entered, journal_from}

-- a whole record has 2 bytes at least
abbrev pub Sized : Step → Type 0
Sized (whole r k) = 2 ≤ k
Sized more = Unit {0}
Sized unknown = Unit {0}

payload-sized : (s : List ℕ) → Sized (payload_step s)
unfolding payload_step
payload-sized [] = tt
payload-sized (high ∷ []) = tt
payload-sized (high ∷ low ∷ s) = go (leb (high * 256 + low) (length s))
  where
    go : (b : Bool) → Sized (cond b (whole (payload (take (high * 256 + low) s)) (high * 256 + low + 4)) more)
    go true = omega arith
    go false = tt

-- behind two bytes: a payload, a record that is its mark alone, or no record
pub by-mark : (P : Step → Type 0) (a b : ℕ) (s : List ℕ) → P (payload_step s) → ((r : Record) → P (whole r 2)) → P unknown → P (step (a ∷ b ∷ s))
unfolding step
by-mark P a b s p bare u = go (eqb a 0x50 && eqb b 0x4c) (eqb a 0x47 && eqb b 0x50) (eqb a 0x52 && eqb b 0x53) (eqb a 0x50 && eqb b 0x53)
  where
    go : (is_payload is_gap is_reset is_start : Bool)
        → P (cond is_payload (payload_step s) (cond is_gap (whole gap_notice 2) (cond is_reset (whole reset_notice 2) (cond is_start (whole start_notice 2) unknown))))
    go true is_gap is_reset is_start = p
    go false true is_reset is_start = bare gap_notice
    go false false true is_start = bare reset_notice
    go false false false true = bare start_notice
    go false false false false = u

pub step-sized : (s : List ℕ) → Sized (step s)
unfolding step
step-sized [] = tt
step-sized (a ∷ []) = tt
step-sized (a ∷ b ∷ s) = by-mark Sized a b s (payload-sized s) (λ r. omega arith) tt

enough : (m n at : ℕ) (s : List ℕ) → length s ≤ m → length s ≤ n → journal_from m at s ≡ journal_from n at s
unfolding journal_from step
enough zero zero at s h k = refl
enough zero (suc n) at [] h k = refl
enough zero (suc n) at (a ∷ s) h k = absurd (omega arith)
enough (suc m) zero at [] h k = refl
enough (suc m) zero at (a ∷ s) h k = absurd (omega arith)
enough (suc m) (suc n) at s h k = go (step s) refl (step-sized s) (λ j. enough m n (at + j) (drop j s))
  where
    go : (x : Step) → step s ≡ x → Sized x
        → ((j : ℕ) → length (drop j s) ≤ m → length (drop j s) ≤ n → journal_from m (at + j) (drop j s) ≡ journal_from n (at + j) (drop j s))
        → journal_from (suc m) at s ≡ journal_from (suc n) at s
    go (whole r j) e l f = let d = length-drop j s in rw (e, journal_from) (ap (entered _) (f j (omega arith) (omega arith)))
    go more e l f = rw (e, journal_from)
    go unknown e l f = rw (e, journal_from)

-- as many turns as bytes suffice: more change nothing
pub turns-suffice : (n at : ℕ) (s : List ℕ) → length s ≤ n → journal_from n at s ≡ journal_from (length s) at s
turns-suffice n at s h = enough n (length s) at s h (omega arith)
