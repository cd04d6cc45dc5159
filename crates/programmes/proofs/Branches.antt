-- What holds on both sides of a test holds of what the test chooses.
use Prim.Native.Nat.{ℕ, ◌≤◌, ◌<◌}
use mathlib.Core.Path.{◌≡◌, refl}
use mathlib.Core.Bool.{Bool, true, false, cond}
use borrow.Author.Tests.{ltb-true, ltb-false}
use lib.Dec.{ltb}

module _ {A : Type 0} where
  pub by-test : (b : Bool) → (b ≡ true → A) → (b ≡ false → A) → A
  by-test true f g = f refl
  by-test false f g = g refl

  pub by_end : (n d : ℕ) → (n < d → A) → (d ≤ n → A) → A
  by_end n d f g = by-test (ltb n d) (λ e. f (ltb-true n d e)) (λ e. g (ltb-false n d e))

  pub either : (P : A → Type 0) (b : Bool) {x y : A} → (b ≡ true → P x) → (b ≡ false → P y) → P (cond b x y)
  either P true f g = f refl
  either P false f g = g refl

  pub same-either : (b : Bool) (a : A) → cond b a a ≡ a
  same-either b a = either (λ x. x ≡ a) b (λ e. refl) (λ e. refl)
