-- What the answer of a reading tells of places, and what its refusal is.
use Prim.Native.Nat.{ℕ, ◌+◌, ◌-◌, ◌≤◌, ◌<◌}
use mathlib.Core.Path.{◌≡◌, refl}
use mathlib.Core.Bool.{Bool, true, false, cond}
use mathlib.Core.List.{List}
use native.Mathlib.Omega.{arith}
use lib.Dec.{leb}
use borrow.Author.Tests.{leb-true, leb-false}
use Rattle.bits.specs.Bits.{field}
use Rattle.bits.specs.Parsed.{Refusal, Parsed, got, refused, Parser, and_then, map_parsed, instead_of, ◌>>=◌, ◌>>◌, map_p, pure, refuse, refused_as, require, truncated}
use Rattle.bits.specs.Reads.{read, flag, skip, read_signed}

-- of the bytes, the end, the place and the answer there
abbrev pub About : Type 0 → Type 1
About A = List ℕ → ℕ → ℕ → Parsed A → Type 0

pub record Tells {A : Type 0} (R : About A) (m : Parser A) : Type 0 where
  pub tells : (s : List ℕ) (e p : ℕ) → R s e p (m s e p)

-- a run of w bits was there and is passed, or it ran past the end
module _ {A : Type 0} where
  abbrev pub Run : ℕ → ℕ → About A
  Run w c s e p (got a q) = (q ≡ p + w) × (q ≤ e)
  Run w c s e p (refused r) = (r ≡ truncated c p w (e - p)) × (e < p + w)

  run : (a : A) (w c : ℕ) (s : List ℕ) (e p : ℕ) → Run w c s e p (cond (leb (p + w) e) (got a (p + w)) (refused (truncated c p w (e - p))))
  run a w c s e p = go (leb (p + w) e) refl
    where
      go : (b : Bool) → leb (p + w) e ≡ b → Run w c s e p (cond b (got a (p + w)) (refused (truncated c p w (e - p))))
      go true h = (refl, leb-true _ _ h)
      go false h = (refl, leb-false _ _ h)

pub skip-tells : (w c : ℕ) → Tells (Run w c) (skip w c)
unfolding skip
skip-tells w c = record { tells = λ s e p. run tt w c s e p }

pub read-tells : (w c : ℕ) → Tells (Run w c) (read w c)
unfolding read
read-tells w c = record { tells = λ s e p. run (field s p w) w c s e p }

module _ {A B : Type 0} (w c : ℕ) where
  mapped : (f : A → B) {m : Parser A} → Tells (Run w c) m → Tells (Run w c) (map_p f m)
  unfolding map_p
  mapped f {m} h = record { tells = λ s e p. go s e p (m s e p) (h.tells s e p) }
    where
      go : (s : List ℕ) (e p : ℕ) (x : Parsed A) → Run w c s e p x → Run w c s e p (map_parsed f x)
      go s e p (got a q) k = k
      go s e p (refused r) k = k

pub flag-tells : (c : ℕ) → Tells (Run 1 c) (flag c)
unfolding flag
flag-tells c = mapped 1 c _ (read-tells 1 c)

pub signed-tells : (w c : ℕ) → Tells (Run w c) (read_signed w c)
unfolding read_signed
signed-tells w c = mapped w c _ (read-tells w c)

-- the next place is not before the place, and not past the end
module _ {A : Type 0} where
  abbrev pub Onward : About A
  Onward s e p (got a q) = (p ≤ q) × (q ≤ e)
  Onward s e p (refused r) = Unit {0}

  -- .. or no further past the end than the place was
  abbrev pub Within : About A
  Within s e p (got a q) = (p ≤ q) × (q - e ≤ p - e)
  Within s e p (refused r) = Unit {0}

  from : (s : List ℕ) (e p q : ℕ) (x : Parsed A) → p ≤ q → q ≤ e → Within s e q x → Onward s e p x
  from s e p q (got a q') l h k = omega arith
  from s e p q (refused r) l h k = tt

  pub onward : (w c : ℕ) {m : Parser A} → Tells (Run w c) m → Tells Onward m
  onward w c {m} h = record { tells = λ s e p. go s e p (m s e p) (h.tells s e p) }
    where
      go : (s : List ℕ) (e p : ℕ) (x : Parsed A) → Run w c s e p x → Onward s e p x
      go s e p (got a q) k = omega arith
      go s e p (refused r) k = tt

  pub within : {m : Parser A} → Tells Onward m → Tells Within m
  within {m} h = record { tells = λ s e p. go s e p (m s e p) (h.tells s e p) }
    where
      go : (s : List ℕ) (e p : ℕ) (x : Parsed A) → Onward s e p x → Within s e p x
      go s e p (got a q) k = omega arith
      go s e p (refused r) k = tt

  pub instead : (r : Refusal) {m : Parser A} → Tells Onward m → Tells Onward (refused_as r m)
  unfolding refused_as
  instead r {m} h = record { tells = λ s e p. go s e p (m s e p) (h.tells s e p) }
    where
      go : (s : List ℕ) (e p : ℕ) (x : Parsed A) → Onward s e p x → Onward s e p (instead_of r x)
      go s e p (got a q) k = k
      go s e p (refused r') k = tt

  pub stays : (a : A) → Tells Within (pure a)
  unfolding pure
  stays a = record { tells = λ s e p. omega arith }

  pub refuses : (r : Refusal) → Tells Within (refuse r)
  unfolding refuse
  refuses r = record { tells = λ s e p. tt }

  pub chosen : (b : Bool) {m n : Parser A} → Tells Within m → Tells Within n → Tells Within (cond b m n)
  chosen true h k = h
  chosen false h k = k

module _ {A B : Type 0} where
  pub follows : {m : Parser A} (f : A → Parser B) → Tells Onward m → ((a : A) → Tells Within (f a)) → Tells Onward (m >>= f)
  unfolding ◌>>=◌
  follows {m} f h g = record { tells = λ s e p. go s e p (m s e p) (h.tells s e p) }
    where
      go : (s : List ℕ) (e p : ℕ) (x : Parsed A) → Onward s e p x → Onward s e p (and_then x (λ a q. f a s e q))
      go s e p (got a q) (l, k) = from s e p q (f a s e q) l k ((g a).tells s e q)
      go s e p (refused r) k = tt

  -- .. or from where no further past the end
  pub along : {m : Parser A} (f : A → Parser B) → Tells Within m → ((a : A) → Tells Within (f a)) → Tells Within (m >>= f)
  unfolding ◌>>=◌
  along {m} f h g = record { tells = λ s e p. go s e p (m s e p) (h.tells s e p) }
    where
      on : (e p q : ℕ) (s : List ℕ) (x : Parsed B) → p ≤ q → q - e ≤ p - e → Within s e q x → Within s e p x
      on e p q s (got b q') l h k = omega arith
      on e p q s (refused r) l h k = tt

      go : (s : List ℕ) (e p : ℕ) (x : Parsed A) → Within s e p x → Within s e p (and_then x (λ a q. f a s e q))
      go s e p (got a q) (l, k) = on e p q s (f a s e q) l k ((g a).tells s e q)
      go s e p (refused r) k = tt

  pub next : {m : Parser A} {n : Parser B} → Tells Within m → Tells Within n → Tells Within (m >> n)
  unfolding ◌>>=◌ ◌>>◌
  next {m} {n} h g = record { tells = (along (λ a. n) h (λ a. g)).tells }

  pub made : (f : A → B) {m : Parser A} → Tells Within m → Tells Within (map_p f m)
  unfolding map_p
  made f {m} h = record { tells = λ s e p. go s e p (m s e p) (h.tells s e p) }
    where
      go : (s : List ℕ) (e p : ℕ) (x : Parsed A) → Within s e p x → Within s e p (map_parsed f x)
      go s e p (got a q) k = k
      go s e p (refused r) k = tt

pub required : (b : Bool) (r : Refusal) → Tells Within (require b r)
unfolding require
required b r = chosen b (stays tt) (refuses r)
