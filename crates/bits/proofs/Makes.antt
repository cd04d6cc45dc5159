-- A reading that makes something of what another reads: one law for each way in which readings are put together.
use Prim.Native.Nat.{ℕ}
use mathlib.Core.Path.{◌≡◌, refl}
use mathlib.Core.Bool.{Bool, true, false, cond}
use mathlib.Core.List.{List}
use Rattle.bits.specs.Parsed.{Parsed, got, refused, Parser, and_then, map_parsed, ◌>>=◌, ◌>>◌, map_p, pure, Refusal, refuse, within}
use Rattle.bits.proofs.Always.{Ok, Always, anything}
use Rattle.bits.proofs.ParsedLaws.{map-map}

-- the pass n gives what f makes of the word that m gives
pub record Makes {A B : Type 0} (f : A → B) (m : Parser A) (n : Parser B) : Type 0 where
  pub makes : (s : List ℕ) (e p : ℕ) → n s e p ≡ map_parsed f (m s e p)

module _ {A B : Type 0} {f : A → B} where
  pub given : (a : A) → Makes f (pure a) (pure (f a))
  unfolding pure
  given a = record { makes = λ s e p. refl }

  pub choose : (b : Bool) {m m' : Parser A} {n n' : Parser B} → Makes f m n → Makes f m' n' → Makes f (cond b m m') (cond b n n')
  choose true x y = x
  choose false x y = y

  pub none_made : (r : Refusal) → Makes f (refuse r) (refuse r)
  unfolding refuse
  none_made r = record { makes = λ s e p. refl }

  pub inside : (e' : ℕ) {m : Parser A} {n : Parser B} → Makes f m n → Makes f (within e' m) (within e' n)
  unfolding within
  inside e' x = record { makes = λ s e p. x.makes s e' p }

pub itself : {A : Type 0} (m : Parser A) → Makes (λ a. a) m m
itself {A} m = record { makes = λ s e p. go (m s e p) }
  where
    go : (x : Parsed A) → x ≡ map_parsed (λ a. a) x
    go (got a q) = refl
    go (refused z) = refl

module _ {A B C : Type 0} (f : A → B) {g : B → C} where
  pub mapped : {m : Parser A} {n : Parser C} → Makes (λ a. g (f a)) m n → Makes g (map_p f m) n
  unfolding map_p
  mapped {m} x = record { makes = λ s e p. rw (x.makes s e p, map-map) }

-- One after the other

module _ {A B C D : Type 0} {P : A → Type 0} {f : A → C} {g : B → D} (k : A → Parser B) (l : C → Parser D) where
  bound : (s : List ℕ) (e : ℕ) (x : Parsed A) → Ok P x → ((a : A) → P a → Makes g (k a) (l (f a))) →
      and_then (map_parsed f x) (λ c q. l c s e q) ≡ map_parsed g (and_then x (λ a q. k a s e q))
  bound s e (got a q) h r = (r a h).makes s e q
  bound s e (refused z) h r = refl

  -- what m always has, the rest goes on from
  pub bind-such : {m : Parser A} {n : Parser C} → Always P m → Makes f m n → ((a : A) → P a → Makes g (k a) (l (f a))) → Makes g (m >>= k) (n >>= l)
  unfolding ◌>>=◌
  bind-such {m} h x r = record { makes = λ s e p. rw (x.makes s e p) (bound s e (m s e p) (h.ok s e p) r) }

module _ {A B C D : Type 0} {f : A → C} {g : B → D} where
  pub bind : {m : Parser A} {n : Parser C} (k : A → Parser B) (l : C → Parser D) → Makes f m n → ((a : A) → Makes g (k a) (l (f a))) → Makes g (m >>= k) (n >>= l)
  bind {m} k l x r = bind-such k l (anything m) x (λ a h. r a)

module _ {A B D : Type 0} {g : B → D} where
  pub after : (m : Parser A) (k : A → Parser B) (l : A → Parser D) → ((a : A) → Makes g (k a) (l a)) → Makes g (m >>= k) (m >>= l)
  after m k l r = bind k l (itself m) r

  pub next : (m : Parser A) {k : Parser B} {l : Parser D} → Makes g k l → Makes g (m >> k) (m >> l)
  unfolding ◌>>=◌ ◌>>◌
  next m {k} {l} r = record { makes = (after m (λ a. k) (λ a. l) (λ a. r)).makes }
