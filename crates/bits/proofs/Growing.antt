-- Readings where the end lies further on: what is read stays as it is, and what is cut is cut by less or no longer.
use Prim.Native.Nat.{ℕ, zero, suc, ◌+◌, ◌-◌, ◌≤◌, ◌<◌}
use mathlib.Core.Path.{◌≡◌, refl, sym, ◌∙◌, ap}
use mathlib.Core.Bool.{Bool, true, false, cond, true≢false}
use mathlib.Core.List.{List, [], ◌∷◌}
use mathlib.Core.Option.{none, some}
use native.Mathlib.Omega.{arith}
use lib.Dec.{leb, eqb}
use borrow.Author.Tests.{le-leb, leb-true, leb-false}
use Rattle.bits.specs.Bits.{bit_at, field}
use Rattle.bits.specs.Parsed.{Refusal, Parsed, got, refused, Parser, and_then, instead_of, ◌>>=◌, ◌>>◌, map_p, pure, refuse, refused_as, times, optional, each, here, require, placed_at, placed, truncated, invalid}
use Rattle.bits.proofs.ParsedLaws.{then-pure}
use Rattle.bits.proofs.Padding.{FirstSet, Zeros, padding-tells}
use Rattle.bits.specs.Reads.{read, flag, skip, zeros, padding, read_signed}

-- the bits of s before the end e stand in t too
pub record Alike (e : ℕ) (s t : List ℕ) : Type 0 where
  pub same : (i : ℕ) → i < e → bit_at t i ≡ bit_at s i

pub alike-itself : (e : ℕ) (s : List ℕ) → Alike e s s
alike-itself e s = record { same = λ i h. refl }

pub alike-before : {e e' : ℕ} {s t : List ℕ} → e' ≤ e → Alike e s t → Alike e' s t
alike-before l a = record { same = λ i h. a.same i (omega arith) }

pub alike-field : {e : ℕ} {s t : List ℕ} → Alike e s t → (p w : ℕ) → p + w ≤ e → field t p w ≡ field s p w
unfolding field
alike-field a p zero h = refl
alike-field a p (suc w) h = rw (alike-field a p w (omega arith), a.same (p + w) (omega arith))

-- the same refusal, after k of its missing bits have come
abbrev pub less : ℕ → Refusal → Refusal
less k r = record { number = r.number; context = r.context; place = r.place; missing = r.missing - k }

pub less_none : (r : Refusal) (k : ℕ) → k ≡ 0 → less k r ≡ r
less_none r k e =
    let same : r.missing - k ≡ r.missing = omega arith in
    ap (λ m. record { number = r.number; context = r.context; place = r.place; missing = m }) same

module _ {A : Type 0} where
  -- nothing before the place p is cut
  abbrev pub From : ℕ → Parsed A → Type 0
  From p (got a q) = p ≤ q
  From p (refused r) = r.number ≡ 1 → p ≤ r.place

  pub from-earlier : {p q : ℕ} → p ≤ q → (x : Parsed A) → From q x → From p x
  from-earlier l (got a q') h = omega arith
  from-earlier l (refused r) h = λ i. let k = h i in omega arith

  -- the answer with k bits more: as long as they are fewer than were missing the cut stays where it is, and then nothing up to there is cut
  pub record Eased (r : Refusal) (k : ℕ) (x : Parsed A) : Type 0 where
    pub short : k < r.missing → x ≡ refused (less k r)
    pub enough : r.missing ≤ k → From (r.place + 1) x

  -- w bits from p were cut at e; at a later end they are cut too, or y follows
  pub eased : (c p w e e' : ℕ) → p ≤ e → e < p + w → e ≤ e' → (y : Parsed A) → From (p + 1) y
      → Eased (truncated c p w (e - p)) (e' - e) (cond (leb (p + w) e') y (refused (truncated c p w (e' - p))))
  eased c p w e e' l h j y f = go (leb (p + w) e') refl
    where
      go : (b : Bool) → leb (p + w) e' ≡ b → Eased (truncated c p w (e - p)) (e' - e) (cond b y (refused (truncated c p w (e' - p))))
      go true i = let n : p + w ≤ e' = leb-true _ _ i in record { short = λ q. absurd (omega arith); enough = λ q. f }
      go false i =
          let n : e' < p + w = leb-false _ _ i in
          let same : w - (e' - p) ≡ w - (e - p) - (e' - e) = omega arith in
          record { short = λ q. ap (λ m. refused (record { number = 1; context = c; place = p; missing = m })) same; enough = λ q. absurd (omega arith) }

-- A stretch of bits: the contexts of what its end can cut, and what may be cut in it by another end
pub record Stretch : Type 1 where
  pub cuts : ℕ → Bool
  pub Inner : List ℕ → ℕ → Refusal → Type 0

module _ {A : Type 0} (K : Stretch) where
  pub data Cut (m : Parser A) (s : List ℕ) (e p : ℕ) (r : Refusal) : Type 0 where
    at_end : K.cuts r.context ≡ true → 1 ≤ r.missing → ((t : List ℕ) (e' : ℕ) → Alike e s t → e ≤ e' → Eased r (e' - e) (m t e' p)) → Cut m s e p r
    inside : K.Inner s e r → ((t : List ℕ) (e' : ℕ) → Alike e s t → e ≤ e' → m t e' p ≡ refused r) → Cut m s e p r

  -- what is read is read wherever the end lies (b), or where the end is the same
  abbrev pub Grown : Bool → Parser A → List ℕ → ℕ → ℕ → Parsed A → Type 0
  Grown b m s e p (got a q) = (q ≤ e) × ((t : List ℕ) (e' : ℕ) → Alike e s t → e ≤ e' → (b ≡ false → e' ≡ e) → m t e' p ≡ got a q)
  Grown b m s e p (refused r) = r.number ≡ 1 → Cut m s e p r

-- at a place, where the end is e
pub record GrowsAt {A : Type 0} (K : Stretch) (b : Bool) (m : Parser A) (s : List ℕ) (e p : ℕ) : Type 0 where
  pub grown : Grown K b m s e p (m s e p)

-- nothing is cut before the place where the reading begins
pub record Forward {A : Type 0} (m : Parser A) : Type 0 where
  pub from : (s : List ℕ) (e p : ℕ) → From p (m s e p)

pub record Grows {A : Type 0} (K : Stretch) (b : Bool) (m : Parser A) : Type 0 where
  pub forward : Forward m
  pub at : (s : List ℕ) (e p : ℕ) → p ≤ e → GrowsAt K b m s e p

-- One after the other

module _ {A B : Type 0} where
  then-from : (p : ℕ) (x : Parsed A) (k : A → ℕ → Parsed B) → From p x → ((a : A) (q : ℕ) → From q (k a q)) → From p (and_then x k)
  then-from p (got a q) k l f = from-earlier l (k a q) (f a q)
  then-from p (refused r) k l f = l

  then-eased : (r : Refusal) (n : ℕ) (x : Parsed A) (k : A → ℕ → Parsed B) → ((a : A) (q : ℕ) → From q (k a q)) → Eased r n x → Eased r n (and_then x k)
  then-eased r n x k f h = record { short = λ l. rw (h.short l); enough = λ l. then-from (r.place + 1) x k (h.enough l) f }

  pub forwards : {m : Parser A} {f : A → Parser B} → Forward m → ((a : A) → Forward (f a)) → Forward (m >>= f)
  unfolding ◌>>=◌
  forwards {m} {f} h g = record { from = λ s e p. then-from p (m s e p) (λ a q. f a s e q) (h.from s e p) (λ a q. (g a).from s e q) }

-- a reading that goes on as another does
module _ {A : Type 0} {K : Stretch} {b : Bool} {m n : Parser A} {s : List ℕ} {e p q : ℕ} where
  pub carried : ((t : List ℕ) (e' : ℕ) → Alike e s t → e ≤ e' → n t e' p ≡ m t e' q) → GrowsAt K b m s e q → GrowsAt K b n s e p
  carried h g = record { grown = rw (h s e (alike-itself e s) (omega arith)) (go (m s e q) g.grown) }
    where
      cut : (r : Refusal) → Cut K m s e q r → Cut K n s e p r
      cut r (at_end c k f) = at_end c k (λ t e' i j. rw (h t e' i j) (f t e' i j))
      cut r (inside c f) = inside c (λ t e' i j. h t e' i j ∙ f t e' i j)

      go : (x : Parsed A) → Grown K b m s e q x → Grown K b n s e p x
      go (got a q') y = (y.0, λ t e' i j z. h t e' i j ∙ y.1 t e' i j z)
      go (refused r) y = λ i. cut r (y i)

module _ {A : Type 0} {K : Stretch} {b : Bool} {m n : Parser A} where
  pub equal : ((s : List ℕ) (e p : ℕ) → n s e p ≡ m s e p) → Grows K b m → Grows K b n
  equal h g = record {
    forward = record { from = λ s e p. rw (h s e p) (g.forward.from s e p) };
    at = λ s e p l. carried (λ t e' i j. h t e' p) (g.at s e p l);
  }

module _ {A B : Type 0} {K : Stretch} {b : Bool} {m : Parser A} {f : A → Parser B} where
  -- where m gave a, f goes on
  pub bound : {s : List ℕ} {e p : ℕ} → GrowsAt K true m s e p → ((a : A) → Forward (f a)) → ((a : A) (q : ℕ) → m s e p ≡ got a q → q ≤ e → GrowsAt K b (f a) s e q) → GrowsAt K b (m >>= f) s e p
  unfolding ◌>>=◌
  bound {s} {e} {p} h o g = record { grown = go (m s e p) refl h.grown }
    where
      cut : (r : Refusal) → Cut K m s e p r → Cut K (m >>= f) s e p r
      cut r (at_end c n l) = at_end c n (λ t e' i j. then-eased r (e' - e) (m t e' p) (λ a q. f a t e' q) (λ a q. (o a).from t e' q) (l t e' i j))
      cut r (inside c l) = inside c (λ t e' i j. rw (l t e' i j))

      go : (x : Parsed A) → m s e p ≡ x → Grown K true m s e p x → Grown K b (m >>= f) s e p (and_then x (λ a q. f a s e q))
      go (got a q) z k =
          rw (← same_there) (carried {m = f a} {n = m >>= f} {p = p} {q = q} (λ t e' i j. rw (k.1 t e' i j (λ z. absurd (true≢false z)))) (g a q z k.0)).grown
        where
          same_there : (m >>= f) s e p ≡ f a s e q
          same_there = rw z
      go (refused r) z k = λ i. cut r (k i)

  pub bind : Grows K true m → ((a : A) → Grows K b (f a)) → Grows K b (m >>= f)
  bind h g = record { forward = forwards h.forward (λ a. (g a).forward); at = λ s e p l. bound (h.at s e p l) (λ a. (g a).forward) (λ a q z k. (g a).at s e q k) }

module _ {A B : Type 0} {K : Stretch} {b : Bool} where
  pub next : {m : Parser A} {n : Parser B} → Grows K true m → Grows K b n → Grows K b (m >> n)
  unfolding ◌>>=◌ ◌>>◌
  next {m} {n} h g = equal {m = m >>= (λ a. n)} (λ s e p. refl) (bind h (λ a. g))

-- a refusal that is no cut
abbrev pub Uncut : Refusal → Type 0
Uncut r = leb 2 r.number ≡ true

pub never : (r : Refusal) → Uncut r → r.number ≡ 1 → ⊥
never r u e = let l = leb-true 2 r.number u in omega arith

module _ {A : Type 0} {K : Stretch} {b : Bool} where
  pub given : (a : A) → Grows K b (pure a)
  unfolding pure
  given a = record { forward = record { from = λ s e p. omega arith }; at = λ s e p l. record { grown = (l, λ t e' i j z. refl) } }

  pub refusing : (r : Refusal) → Uncut r → Grows {A = A} K b (refuse r)
  unfolding refuse
  refusing r u = record { forward = record { from = λ s e p h. absurd (never r u h) }; at = λ s e p l. record { grown = λ h. absurd (never r u h) } }

  pub recast : (r : Refusal) {m : Parser A} → Uncut r → Grows K b m → Grows K b (refused_as r m)
  unfolding refused_as
  recast r {m} u g = record {
    forward = record { from = λ s e p. before p (m s e p) (g.forward.from s e p) };
    at = λ s e p l. record { grown = go s e p (m s e p) (g.at s e p l).grown };
  }
    where
      before : (p : ℕ) (x : Parsed A) → From p x → From p (instead_of r x)
      before p (got a q) h = h
      before p (refused z) h = λ i. absurd (never r u i)

      go : (s : List ℕ) (e p : ℕ) (x : Parsed A) → Grown K b m s e p x → Grown K b (refused_as r m) s e p (instead_of r x)
      go s e p (got a q) h = (h.0, λ t e' i j z. rw (h.1 t e' i j z))
      go s e p (refused z) h = λ i. absurd (never r u i)

  pub from-here : {f : ℕ → Parser A} → ((at : ℕ) → Grows K b (f at)) → Grows K b (here >>= f)
  unfolding ◌>>=◌ here
  from-here {f} g = record { forward = record { from = λ s e p. (g p).forward.from s e p }; at = λ s e p l. carried {m = f p} (λ t e' i j. refl) ((g p).at s e p l) }

  pub choose : (c : Bool) {m n : Parser A} → Grows K b m → Grows K b n → Grows K b (cond c m n)
  choose true h k = h
  choose false h k = k

module _ {A B : Type 0} {K : Stretch} where
  pub mapped : (f : A → B) {m : Parser A} → Grows K true m → Grows K true (map_p f m)
  unfolding map_p ◌>>=◌ pure
  mapped f {m} g = equal {m = m >>= (λ a. pure (f a))} (λ s e p. sym (then-pure (m s e p) f)) (bind g (λ a. given (f a)))

module _ {K : Stretch} where
  pub placing : {A : Type 0} {m : Parser A} → Grows K true m → Grows K true (placed m)
  unfolding placed map_p ◌>>=◌ here
  placing {A} {m} g = equal {m = here >>= (λ at. map_p (placed_at at) m)} (λ s e p. refl) (from-here λ at. mapped (placed_at at) g)

  pub asked : {A : Type 0} (c : Bool) {m : Parser A} → Grows K true m → Grows K true (optional c m)
  unfolding optional
  asked true g = mapped some g
  asked false g = given none

  pub repeated : {A : Type 0} (n : ℕ) {m : Parser A} → Grows K true m → Grows K true (times n m)
  unfolding times
  repeated zero g = given []
  repeated (suc n) g = bind g λ a. bind (repeated n g) λ rest. given (a ∷ rest)

  pub at_each : {I A : Type 0} {m : I → Parser A} (is : List I) → ((i : I) → Grows K true (m i)) → Grows K true (each m is)
  unfolding each
  at_each [] g = given []
  at_each (i ∷ is) g = bind (g i) λ a. bind (at_each is g) λ rest. given (a ∷ rest)

  pub required : (c : Bool) (r : Refusal) → Uncut r → Grows K true (require c r)
  unfolding require
  required c r u = choose c (given tt) (refusing r u)

-- The reads

module _ {A : Type 0} (w c : ℕ) (v : List ℕ → ℕ → A) where
  run : Parser A
  run = λ s e p. cond (leb (p + w) e) (got (v s p) (p + w)) (refused (truncated c p w (e - p)))

  run-grows : (K : Stretch) → ((e : ℕ) (s t : List ℕ) → Alike e s t → (p : ℕ) → p + w ≤ e → v t p ≡ v s p) → K.cuts c ≡ true → Grows K true run
  unfolding run
  run-grows K local k = record { forward = record { from = λ s e p. before (leb (p + w) e) s e p }; at = λ s e p l. record { grown = go (leb (p + w) e) s e p l refl } }
    where
      before : (z : Bool) (s : List ℕ) (e p : ℕ) → From p (cond z (got (v s p) (p + w)) (refused (truncated c p w (e - p))))
      before true s e p = omega arith
      before false s e p = λ h. omega arith

      go : (z : Bool) (s : List ℕ) (e p : ℕ) → p ≤ e → leb (p + w) e ≡ z → Grown K true run s e p (cond z (got (v s p) (p + w)) (refused (truncated c p w (e - p))))
      go true s e p l h =
          let n : p + w ≤ e = leb-true _ _ h in
          (n, λ t e' i j y. rw (le-leb (p + w) e' (omega arith), local e s t i p n))
      go false s e p l h = let n : e < p + w = leb-false _ _ h in λ y. at_end k (omega arith) (λ t e' i j. eased c p w e e' l n j (got (v t p) (p + w)) (omega arith))

module _ {K : Stretch} where
  pub a-field : (w c : ℕ) → K.cuts c ≡ true → Grows K true (read w c)
  unfolding read run
  a-field w c k = run-grows w c (λ s p. field s p w) K (λ e s t i p h. alike-field i p w h) k

  pub a-run : (w c : ℕ) → K.cuts c ≡ true → Grows K true (skip w c)
  unfolding skip run
  a-run w c k = run-grows w c (λ s p. tt) K (λ e s t i p h. refl) k

  pub a-flag : (c : ℕ) → K.cuts c ≡ true → Grows K true (flag c)
  unfolding flag
  a-flag c k = mapped _ (a-field 1 c k)

  pub a-sign : (w c : ℕ) → K.cuts c ≡ true → Grows K true (read_signed w c)
  unfolding read_signed
  a-sign w c k = mapped _ (a-field w c k)

-- a test that is passed by computing
pub named : true ≡ true
named = refl

pub ruleset growing = (bind, next, mapped, from-here, choose, given, refusing, recast, placing, asked, repeated, at_each, required, a-field, a-run, a-flag, a-sign, named)

-- Zero bits up to the end, and what closes after them

-- it reads nothing, and cuts nothing
pub data Closing {A : Type 0} (n : Parser A) : Type 0 where
  gives : (a : A) → ((s : List ℕ) (e p : ℕ) → n s e p ≡ got a p) → Closing n
  refuses : (r : ℕ → Refusal) → ((e : ℕ) → Uncut (r e)) → ((s : List ℕ) (e p : ℕ) → n s e p ≡ refused (r e)) → Closing n

zeros-alike : {e : ℕ} {s t : List ℕ} → Alike e s t → (c k p : ℕ) → p + k ≤ e → zeros c k t e p ≡ zeros c k s e p
unfolding zeros pure
zeros-alike a c zero p h = refl
zeros-alike {e} {s} {t} a c (suc k) p h = go (eqb (bit_at t p) 0) (eqb (bit_at s p) 0) (ap (λ v. eqb v 0) (a.same p (omega arith))) (zeros-alike a c k (p + 1) (omega arith))
  where
    go : (x y : Bool) → x ≡ y → zeros c k t e (p + 1) ≡ zeros c k s e (p + 1)
        → Path (Parsed (Unit {0})) (elim x [ true ↦ zeros c k t e (p + 1) | false ↦ refused (invalid c p) ]) (elim y [ true ↦ zeros c k s e (p + 1) | false ↦ refused (invalid c p) ])
    go true true z h = h
    go true false z h = absurd (true≢false z)
    go false true z h = absurd (true≢false (sym z))
    go false false z h = refl

padding-alike : {e : ℕ} {s t : List ℕ} → Alike e s t → (c p : ℕ) → p ≤ e → padding c t e p ≡ padding c s e p
unfolding padding
padding-alike {e} a c p h = zeros-alike a c (e - p) p (omega arith)

module _ {A : Type 0} {K : Stretch} where
  pub padded : (c : ℕ) {n : Parser A} → Closing n → Grows K false (padding c >> n)
  unfolding ◌>>◌
  padded c {n} h = record {
    forward = record { from = λ s e p. before s e p h (padding c s e p) ((padding-tells c).tells s e p) };
    at = λ s e p l. record { grown = go s e p l h (padding c s e p) refl ((padding-tells c).tells s e p) };
  }
    where
      never-set : (s : List ℕ) (e p : ℕ) (r : Refusal) → FirstSet c s e p r → r.number ≡ 1 → ⊥
      never-set s e p r z i = let k = ap (λ (v : Refusal). v.number) z.kind in omega arith

      before : (s : List ℕ) (e p : ℕ) → Closing n → (x : Parsed (Unit {0})) → Zeros c s e p x → From p (and_then x (λ a q. n s e q))
      before s e p (gives a f) (got b q) z = let k = z.0 in rw (f s e q) (omega arith)
      before s e p (refuses r u f) (got b q) z = rw (f s e q) (λ i. absurd (never (r e) (u e) i))
      before s e p k (refused r) z = λ i. absurd (never-set s e p r z i)

      go : (s : List ℕ) (e p : ℕ) → p ≤ e → Closing n → (x : Parsed (Unit {0})) → padding c s e p ≡ x → Zeros c s e p x
          → Grown K false (padding c >> n) s e p (and_then x (λ a q. n s e q))
      go s e p l (gives a f) (got b q) g z =
          let k = z.0 in
          rw (f s e q) (omega arith, λ t e' i j y. rw (y refl, padding-alike i c p l, g) (f t e q))
      go s e p l (refuses r u f) (got b q) g z = rw (f s e q) (λ i. absurd (never (r e) (u e) i))
      go s e p l k (refused r) g z = λ i. absurd (never-set s e p r z i)
