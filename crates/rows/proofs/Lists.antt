-- Two lists are equal, one element after the other.
use mathlib.Core.Path.{◌≡◌, refl}
use mathlib.Core.List.{List, [], ◌∷◌}

module _ {A : Type 0} where
  infixr 20 ◌and◌
  pub ◌and◌ : {a b : A} {l m : List A} → a ≡ b → l ≡ m → (a ∷ l) ≡ (b ∷ m)
  p and q = λ i. p i ∷ q i

  pub no_more : ◌≡◌ {A = List A} [] []
  no_more = refl
