-- A property of every value that a reading can give.
use Prim.Native.Nat.{ℕ, zero, suc}
use mathlib.Core.Path.{◌≡◌, refl, ap}
use lib.ListN.{length}
use mathlib.Core.Bool.{Bool, true, false, cond}
use mathlib.Core.List.{List, [], ◌∷◌}
use mathlib.Core.Option.{Option, none, some}
use Rattle.bits.specs.Parsed.{Refusal, Parsed, got, refused, Parser, and_then, map_parsed, ◌>>=◌, ◌>>◌, map_p, pure, refuse, within, times, each, optional, require, Placed, placed_at, placed}

module _ {A : Type 0} where
  abbrev pub Ok : (A → Type 0) → Parsed A → Type 0
  Ok P (got a p) = P a
  Ok P (refused r) = Unit {0}

  abbrev pub All : (A → Type 0) → List A → Type 0
  All P [] = Unit {0}
  All P (a ∷ l) = P a × All P l

pub record Always {A : Type 0} (P : A → Type 0) (m : Parser A) : Type 0 where
  pub ok : (s : List ℕ) (e p : ℕ) → Ok P (m s e p)

module _ {A B : Type 0} (Q : B → Type 0) where
  ok-then : (P : A → Type 0) (m : Parsed A) (k : A → ℕ → Parsed B) → Ok P m → ((a : A) (q : ℕ) → P a → Ok Q (k a q)) → Ok Q (and_then m k)
  ok-then P (got a q) k h f = f a q h
  ok-then P (refused r) k h f = tt

  ok-after : (m : Parsed A) (k : A → ℕ → Parsed B) → ((a : A) (q : ℕ) → Ok Q (k a q)) → Ok Q (and_then m k)
  ok-after (got a q) k f = f a q
  ok-after (refused r) k f = tt

  ok-map : (f : A → B) (m : Parsed A) → ((a : A) → Q (f a)) → Ok Q (map_parsed f m)
  ok-map f (got a q) h = h a
  ok-map f (refused r) h = tt

module _ {A B : Type 0} {Q : B → Type 0} where
  -- what m always gives, f goes on from
  pub bind : {P : A → Type 0} {m : Parser A} (f : A → Parser B) → Always P m → ((a : A) → P a → Always Q (f a)) → Always Q (m >>= f)
  unfolding ◌>>=◌
  bind {P} {m} f h g = record { ok = λ s e p. ok-then Q P (m s e p) (λ a q. f a s e q) (h.ok s e p) (λ a q pa. (g a pa).ok s e q) }

  -- whatever m gives
  pub after : (m : Parser A) (f : A → Parser B) → ((a : A) → Always Q (f a)) → Always Q (m >>= f)
  unfolding ◌>>=◌
  after m f g = record { ok = λ s e p. ok-after Q (m s e p) (λ a q. f a s e q) (λ a q. (g a).ok s e q) }

  pub next : (m : Parser A) {n : Parser B} → Always Q n → Always Q (m >> n)
  unfolding ◌>>◌
  next m {n} g = record { ok = λ s e p. ok-after Q (m s e p) (λ a q. n s e q) (λ a q. g.ok s e q) }

  pub mapped : (f : A → B) (m : Parser A) → ((a : A) → Q (f a)) → Always Q (map_p f m)
  unfolding map_p
  mapped f m h = record { ok = λ s e p. ok-map Q f (m s e p) h }

  pub from-pure : (a : A) (f : A → Parser B) → Always Q (f a) → Always Q (pure a >>= f)
  unfolding ◌>>=◌ pure
  from-pure a f h = record { ok = λ s e p. h.ok s e p }

module _ {A : Type 0} {P : A → Type 0} where
  pub choose : (b : Bool) {m n : Parser A} → Always P m → Always P n → Always P (cond b m n)
  choose true h k = h
  choose false h k = k

  pub given : (a : A) → P a → Always P (pure a)
  unfolding pure
  given a h = record { ok = λ s e p. h }

  pub none-given : (r : Refusal) → Always P (refuse r)
  unfolding refuse
  none-given r = record { ok = λ s e p. tt }

  pub inside : (e' : ℕ) {m : Parser A} → Always P m → Always P (within e' m)
  unfolding within
  inside e' h = record { ok = λ s e p. h.ok s e' p }

module _ {A B : Type 0} {P : A → Type 0} {Q : B → Type 0} where
  pub mapped-such : (f : A → B) {m : Parser A} → Always P m → ((a : A) → P a → Q (f a)) → Always Q (map_p f m)
  unfolding map_p
  mapped-such f {m} h g = record { ok = λ s e p. go (m s e p) (h.ok s e p) }
    where
      go : (r : Parsed A) → Ok P r → Ok Q (map_parsed f r)
      go (got a q) h' = g a h'
      go (refused r) h' = tt

  pub from-some-such : {m : Parser A} (f : Option A → Parser B) → Always P m → ((a : A) → P a → Always Q (f (some a))) → Always Q (optional true m >>= f)
  unfolding ◌>>=◌ optional map_p
  from-some-such {m} f h g = record { ok = λ s e p. go (m s e p) s e (h.ok s e p) }
    where
      go : (r : Parsed A) (s : List ℕ) (e : ℕ) → Ok P r → Ok Q (and_then (map_parsed some r) (λ a q. f a s e q))
      go (got a q) s e h' = (g a h').ok s e q
      go (refused r) s e h' = tt

-- a reading that a set flag asks for
module _ {A B : Type 0} {Q : B → Type 0} where
  pub from_some : (m : Parser A) (f : Option A → Parser B) → ((a : A) → Always Q (f (some a))) → Always Q (optional true m >>= f)
  unfolding ◌>>=◌ optional map_p
  from_some m f g = record { ok = λ s e p. go (m s e p) s e }
    where
      go : (r : Parsed A) (s : List ℕ) (e : ℕ) → Ok Q (and_then (map_parsed some r) (λ a q. f a s e q))
      go (got a q) s e = (g a).ok s e q
      go (refused r) s e = tt

module _ {A : Type 0} {P : A → Type 0} where
  pub repeated : (n : ℕ) {m : Parser A} → Always P m → Always (All P) (times n m)
  unfolding times
  repeated zero h = given _ tt
  repeated (suc n) h = bind _ h (λ a pa. bind _ (repeated n h) (λ rest pr. given _ (pa, pr)))

module _ {K A : Type 0} {P : A → Type 0} where
  pub at_each : {m : K → Parser A} (ks : List K) → ((k : K) → Always P (m k)) → Always (All P) (each m ks)
  unfolding each
  at_each [] h = given _ tt
  at_each (k ∷ ks) h = bind _ (h k) (λ a pa. bind _ (at_each ks h) (λ rest pr. given _ (pa, pr)))

-- a test that was passed is known
module _ {B : Type 0} {Q : B → Type 0} where
  pub required : (b : Bool) (r : Refusal) {n : Parser B} → (b ≡ true → Always Q n) → Always Q (require b r >> n)
  unfolding require ◌>>◌ pure refuse
  required true r h = record { ok = λ s e p. (h refl).ok s e p }
  required false r h = record { ok = λ s e p. tt }

-- a reading that a flag may ask for
module _ {A : Type 0} where
  abbrev pub IfSome : (A → Type 0) → Option A → Type 0
  IfSome R none = Unit {0}
  IfSome R (some a) = R a

module _ {A : Type 0} {P : A → Type 0} where
  pub if_some : (b : Bool) {m : Parser A} → Always P m → Always (IfSome P) (optional b m)
  unfolding optional
  if_some true h = mapped-such some h (λ a pa. pa)
  if_some false h = given none tt

pub anything : {A : Type 0} (m : Parser A) → Always (λ a. Unit {0}) m
anything {A} m = record { ok = λ s e p. go (m s e p) }
  where
    go : (r : Parsed A) → Ok (λ a. Unit {0}) r
    go (got a q) = tt
    go (refused r) = tt

module _ {A : Type 0} {P Q : A → Type 0} where
  pub weaken : {m : Parser A} → Always P m → ((a : A) → P a → Q a) → Always Q m
  weaken {m} h f = record { ok = λ s e p. go (m s e p) (h.ok s e p) }
    where
      go : (r : Parsed A) → Ok P r → Ok Q r
      go (got a q) k = f a k
      go (refused r) k = tt

module _ {K A : Type 0} where
  pub as_many : (m : K → Parser A) (ks : List K) → Always (λ l. length l ≡ length ks) (each m ks)
  unfolding each
  as_many m [] = given _ refl
  as_many m (k ∷ ks) = after _ _ λ a. bind _ (as_many m ks) λ l e. given _ (ap suc e)

-- a word keeps what its reading has
module _ {A : Type 0} where
  abbrev pub OfWord : (A → Type 0) → Placed A → Type 0
  OfWord P w = P w.word

module _ {A : Type 0} {P : A → Type 0} where
  pub at_place : {m : Parser A} → Always P m → Always (OfWord P) (placed m)
  unfolding placed
  at_place {m} h = record { ok = λ s e p. go p (m s e p) (h.ok s e p) }
    where
      go : (p : ℕ) (r : Parsed A) → Ok P r → Ok (OfWord P) (map_parsed (placed_at p) r)
      go p (got a q) k = k
      go p (refused r) k = tt

-- two properties at once
module _ {A : Type 0} {P Q : A → Type 0} where
  pub together : {m : Parser A} → Always P m → Always Q m → Always (λ a. P a × Q a) m
  together {m} h k = record { ok = λ s e p. go (m s e p) (h.ok s e p) (k.ok s e p) }
    where
      go : (r : Parsed A) → Ok P r → Ok Q r → Ok (λ a. P a × Q a) r
      go (got a q) x y = (x, y)
      go (refused r) x y = tt

  pub all-to : (l : List A) → ((a : A) → P a → Q a) → All P l → All Q l
  all-to [] f h = tt
  all-to (a ∷ l) f h = (f a h.0, all-to l f h.1)

module _ {A : Type 0} where
  pub times-length : (n : ℕ) (m : Parser A) → Always (λ l. length l ≡ n) (times n m)
  unfolding times
  times-length zero m = given _ refl
  times-length (suc n) m = after _ _ λ a. bind _ (times-length n m) λ l e. given _ (ap suc e)
