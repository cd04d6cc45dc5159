-- What the fields of a container tell of places, and that of a cut one nothing is said but that.
use Prim.Native.Nat.{ℕ, ◌+◌, ◌^◌, ◌≤◌, ◌<◌}
use mathlib.Core.Path.{◌≡◌, refl}
use mathlib.Core.List.{List}
use native.Mathlib.Omega.{arith}
use Rattle.bits.specs.Parsed.{Refusal, Parsed, got, refused, Parser, instead_of, refused_as}
use Rattle.bits.specs.Reads.{read}
use Rattle.bits.proofs.Always.{Always, Ok}
use Rattle.bits.proofs.Fields.{read-lt}
use Rattle.bits.proofs.Tells.{About, Tells, Run, read-tells, flag-tells, skip-tells}
use Rattle.standard.specs.Numbers.{ends_early, alone}
use Rattle.standard.specs.Container.{or_ends_early, bits, flag, pass}

abbrev pub cut : Refusal
cut = alone ends_early

-- w bits were there and are passed, or the end cut them
module _ {A : Type 0} where
  abbrev pub Whole : ℕ → About A
  Whole w s e p (got a q) = (q ≡ p + w) × (q ≤ e)
  Whole w s e p (refused r) = (r ≡ cut) × (e < p + w)

  whole : (w c : ℕ) {m : Parser A} → Tells (Run w c) m → Tells (Whole w) (or_ends_early m)
  unfolding or_ends_early refused_as
  whole w c {m} h = record { tells = λ s e p. go s e p (m s e p) (h.tells s e p) }
    where
      go : (s : List ℕ) (e p : ℕ) (x : Parsed A) → Run w c s e p x → Whole w s e p (instead_of cut x)
      go s e p (got a q) k = k
      go s e p (refused r) (k, l) = (refl, l)

  pub cut-past : (w : ℕ) {m : Parser A} → Tells (Whole w) m → (s : List ℕ) (e p : ℕ) → e < p + w → m s e p ≡ refused cut
  cut-past w {m} h s e p l = go (m s e p) (h.tells s e p)
    where
      go : (x : Parsed A) → Whole w s e p x → x ≡ refused cut
      go (got a q) (k, j) = absurd (omega arith)
      go (refused r) (k, j) = rw k

pub bits-tells : (w : ℕ) → Tells (Whole w) (bits w)
unfolding bits
bits-tells w = whole w 0 (read-tells w 0)

pub bits-lt : (w : ℕ) → Always (λ v. v < 2 ^ w) (bits w)
unfolding bits or_ends_early refused_as
bits-lt w = record { ok = λ s e p. go (read w 0 s e p) ((read-lt w 0).ok s e p) }
  where
    go : (x : Parsed ℕ) → Ok (λ v. v < 2 ^ w) x → Ok (λ v. v < 2 ^ w) (instead_of cut x)
    go (got v q) h = h
    go (refused r) h = tt

pub flag-whole : Tells (Whole 1) flag
unfolding flag
flag-whole = whole 1 0 (flag-tells 0)

pub pass-tells : (w : ℕ) → Tells (Whole w) (pass w)
unfolding pass
pass-tells w = whole w 0 (skip-tells w 0)
