-- What a reading gives: a value and the place after it, or a refusal. Readings in a row are written with `do`.
use Rattle.std.specs.Prelude.{ℕ, zero, suc, ◌-◌, Bool, true, false, cond, List, [], ◌∷◌}
use Rattle.std.proofs.Math.Option.{Option, none, some}

-- the specification, section 4, "Numbers given back"
pub record Refusal : Type 0 where
  pub number : ℕ
  pub context : ℕ
  pub place : ℕ
  pub missing : ℕ

-- The four ways in which a payload is refused, of a context and a place.
-- A truncation is told the bits that were wanted and those that remained before the end; nothing else misses any.
abbrev pub truncated : ℕ → ℕ → ℕ → ℕ → Refusal
truncated c p wanted remained = record { number = 1; context = c; place = p; missing = wanted - remained }

abbrev pub invalid : ℕ → ℕ → Refusal
invalid c p = record { number = 2; context = c; place = p; missing = 0 }

abbrev pub limit : ℕ → ℕ → Refusal
limit c p = record { number = 3; context = c; place = p; missing = 0 }

abbrev pub unsupported : ℕ → ℕ → Refusal
unsupported c p = record { number = 4; context = c; place = p; missing = 0 }

pub data Parsed (A : Type 0) : Type 0 where
  got : A → ℕ → Parsed A
  refused : Refusal → Parsed A

module _ {A B : Type 0} where
  abbrev pub and_then : Parsed A → (A → ℕ → Parsed B) → Parsed B
  and_then (got a p) k = k a p
  and_then (refused r) k = refused r

  abbrev pub map_parsed : (A → B) → Parsed A → Parsed B
  map_parsed f (got a p) = got (f a) p
  map_parsed f (refused r) = refused r

-- of the bytes, the end that cuts the reads, and the place
abbrev pub Parser : Type 0 → Type 0
Parser A = List ℕ → ℕ → ℕ → Parsed A

infixl 20 ◌>>=◌
infixl 20 ◌>>◌
module _ {A B : Type 0} where
  unfoldable pub ◌>>=◌ : Parser A → (A → Parser B) → Parser B
  ◌>>=◌ m f = λ s e p. and_then (m s e p) (λ a q. f a s e q)

  unfoldable pub ◌>>◌ : Parser A → Parser B → Parser B
  ◌>>◌ m n = λ s e p. and_then (m s e p) (λ a q. n s e q)

  unfoldable pub map_p : (A → B) → Parser A → Parser B
  map_p f m = λ s e p. map_parsed f (m s e p)

module _ {A : Type 0} where
  unfoldable pub pure : A → Parser A
  pure a = λ s e p. got a p

  unfoldable pub refuse : Refusal → Parser A
  refuse r = λ s e p. refused r

  -- m inside a stretch that ends at e'
  unfoldable pub within : ℕ → Parser A → Parser A
  within e' m = λ s e p. m s e' p

  abbrev pub instead_of : Refusal → Parsed A → Parsed A
  instead_of r (got a p) = got a p
  instead_of r (refused r') = refused r

  -- a refusal of m is given as r
  unfoldable pub refused_as : Refusal → Parser A → Parser A
  refused_as r m = λ s e p. instead_of r (m s e p)

module _ {A : Type 0} where
  -- m so many times
  unfoldable pub times : ℕ → Parser A → Parser (List A)
  times zero m = pure []
  times (suc n) m = do
    a ← m
    rest ← times n m
    pure (a ∷ rest)

  -- m where the flag is set
  unfoldable pub optional : Bool → Parser A → Parser (Option A)
  optional true m = map_p some m
  optional false m = pure none

module _ {K A : Type 0} where
  -- m at each of a list
  unfoldable pub each : (K → Parser A) → List K → Parser (List A)
  each m [] = pure []
  each m (k ∷ ks) = do
    a ← m k
    rest ← each m ks
    pure (a ∷ rest)

unfoldable pub here : Parser ℕ
here = λ s e p. got p p

unfoldable pub the_end : Parser ℕ
the_end = λ s e p. got e p

unfoldable pub go_to : ℕ → Parser (Unit {0})
go_to p' = λ s e p. got tt p'

-- the test passes, or the refusal
unfoldable pub require : Bool → Refusal → Parser (Unit {0})
require b r = cond b (pure tt) (refuse r)

-- What was read, with the bit place where its reading began.
pub record Placed (A : Type 0) : Type 0 where
  pub word : A
  pub at : ℕ

module _ {A : Type 0} where
  abbrev pub placed_at : ℕ → A → Placed A
  placed_at p a = record { word = a; at = p }

  unfoldable pub placed : Parser A → Parser (Placed A)
  placed m = λ s e p. map_parsed (placed_at p) (m s e p)

-- What computing opens

unfoldable pub computed : Unit {0}
unfolding ◌>>=◌ ◌>>◌ map_p pure refuse within refused_as times optional each here the_end go_to require placed
computed = tt
