-- Tables that are filled as they are read.
use Rattle.std.proofs.Common.{◌≡◌, ℕ, ◌+◌, ◌-◌, ◌≤◌, List, drop, refl, ◌∙◌, arith}
use lib.Seq.{drop-drop}
use Rattle.objects.specs.Fills.{Filled}

module _ {A : Type 0} where
  -- what stays behind k numbers stays behind n
  pub behind : (k n : ℕ) (t u : List A) → k ≤ n → drop k t ≡ drop k u → drop n t ≡ drop n u
  behind k n t u h e =
      let j : k + (n - k) ≡ n = omega arith in
      rw (← j, ← drop-drop (n - k) k t, ← drop-drop (n - k) k u, e)

  pub untouched : {n : ℕ} {t : List A} → Filled n t t
  untouched = record { long = refl; rest = refl }

  pub further : {n k : ℕ} {t₀ t t' : List A} → Filled n t₀ t → Filled k t t' → k ≤ n → Filled n t₀ t'
  further {n} {k} {t₀} {t} {t'} h g l = record { long = g.long ∙ h.long; rest = behind k n t' t l g.rest ∙ h.rest }
