-- What a reading makes of bits that were written, whatever follows them: one law for each way in which readings are put together.
use Prim.Native.Nat.{ℕ, ◌+◌, ◌*◌, ◌-◌, ◌^◌, ◌≤◌, ◌<◌}
use mathlib.Core.Path.{◌≡◌, refl, sym, ap}
use mathlib.Core.Bool.{Bool, true, false, cond}
use mathlib.Core.List.{List, [], ◌∷◌, ◌++◌, append-nil}
use native.Mathlib.Nat.{add-zero, zero-add}
use native.Mathlib.Omega.{arith}
use lib.Dec.{leb}
use lib.ListN.{length, length-append}
use borrow.Author.Tests.{le-leb}
use Rattle.bits.specs.Bits.{field}
use Rattle.bits.specs.Parsed.{Refusal, Parsed, got, refused, Parser, and_then, map_parsed, instead_of, ◌>>=◌, ◌>>◌, map_p, pure, refused_as, times, here, require}
use Rattle.bits.specs.Reads.{read, flag, skip}
use Rattle.bits.proofs.Always.{All}
use Rattle.writes.specs.Writes.{Bits, one, ◌⊳◌, spread, packed}
use Rattle.writes.proofs.Writes.{Spells, spells-left, spells-right, width, field_back, packed-spell, packed-length}

module _ {A : Type 0} where
  -- a value that has P, and the place q behind it
  abbrev pub Got : (A → Type 0) → ℕ → Parsed A → Type 0
  Got P q (got a q') = P a × (q' ≡ q)
  Got P q (refused r) = ⊥

  -- the value is v
  abbrev pub Is : A → A → Type 0
  Is v a = a ≡ v

  -- any value at all
  abbrev pub Any : A → Type 0
  Any a = Unit {0}

-- m reads the bits w as a value that has P, wherever they stand, whatever follows, and wherever the end is past them
pub record Reads {A : Type 0} (P : A → Type 0) (w : Bits) (m : Parser A) : Type 0 where
  pub reads : (s : List ℕ) (e p : ℕ) → Spells s p w → p + length w ≤ e → Got P (p + length w) (m s e p)

-- In a row

module _ {A B : Type 0} where
  got-then : (P : A → Type 0) (Q : B → Type 0) (q q' : ℕ) (x : Parsed A) (k : A → ℕ → Parsed B) → Got P q x
      → ((a : A) → P a → Got Q q' (k a q)) → Got Q q' (and_then x k)
  got-then P Q q q' (got a z) k h f = rw h.1 (f a h.0)
  got-then P Q q q' (refused r) k h f = h

  got-map : (P : A → Type 0) (Q : B → Type 0) (q : ℕ) (f : A → B) (x : Parsed A) → Got P q x → ((a : A) → P a → Q (f a))
      → Got Q q (map_parsed f x)
  got-map P Q q f (got a z) h g = (g a h.0, h.1)
  got-map P Q q f (refused r) h g = h

module _ {A B : Type 0} {P : A → Type 0} {Q : B → Type 0} where
  pub bind : {u w : Bits} {m : Parser A} (f : A → Parser B) → Reads P u m → ((a : A) → P a → Reads Q w (f a)) → Reads Q (u ++ w) (m >>= f)
  unfolding ◌>>=◌
  bind {u} {w} {m} f h g = record {
    reads = λ s e p l i.
        let n = length-append u w in
        let e' : p + length (u ++ w) ≡ p + length u + length w = omega arith in
        rw e'
        (got-then P Q (p + length u) (p + length u + length w) (m s e p) (λ a q. f a s e q) (h.reads s e p (spells-left u w l) (omega arith))
        (λ a pa. (g a pa).reads s e (p + length u) (spells-right u w l) (omega arith)));
  }

  pub next : {u w : Bits} {m : Parser A} {n : Parser B} → Reads P u m → Reads Q w n → Reads Q (u ++ w) (m >> n)
  unfolding ◌>>◌ ◌>>=◌
  next {u} {w} {m} {n} h g = record { reads = (bind (λ a. n) h (λ a pa. g)).reads }

  pub mapped : {w : Bits} (f : A → B) {m : Parser A} → Reads P w m → ((a : A) → P a → Q (f a)) → Reads Q w (map_p f m)
  unfolding map_p
  mapped f {m} h g = record { reads = λ s e p l i. got-map P Q _ f (m s e p) (h.reads s e p l i) g }

  -- a value made of what was read last
  pub ends : {w : Bits} {m : Parser A} (g : A → B) → Reads P w m → ((a : A) → P a → Q (g a)) → Reads Q w (m >>= λ a. pure (g a))
  unfolding ◌>>=◌ pure
  ends {w} {m} g h f = record {
    reads = λ s e p l i.
        got-then P Q (p + length w) (p + length w) (m s e p) (λ a q. got (g a) q) (h.reads s e p l i) (λ a pa. (f a pa, refl));
  }

module _ {A B : Type 0} {Q : B → Type 0} where
  -- of a value that is known
  pub goes_on : {u w : Bits} {m : Parser A} (v : A) (f : A → Parser B) → Reads (Is v) u m → Reads Q w (f v) → Reads Q (u ++ w) (m >>= f)
  goes_on {u} {w} v f h g = bind {u = u} {w = w} f h λ a e. rw e g

  -- what follows reads nothing
  pub stops : {w : Bits} {m : Parser A} (v : A) (f : A → Parser B) → Reads (Is v) w m → Reads Q [] (f v) → Reads Q w (m >>= f)
  stops {w} v f h g = rw append-nil at (goes_on {u = w} {w = []} v f h g)

module _ {A : Type 0} {P : A → Type 0} where
  pub given : (a : A) → P a → Reads P [] (pure a)
  unfolding pure
  given a h = record { reads = λ s e p l i. (h, sym (add-zero p)) }

  pub from-here : {w : Bits} {f : ℕ → Parser A} → ((at : ℕ) → Reads P w (f at)) → Reads P w (here >>= f)
  unfolding ◌>>=◌ here
  from-here g = record { reads = λ s e p l i. (g p).reads s e p l i }

  -- a reading that may take as many steps as bits are left
  pub by-room : {w : Bits} {m : ℕ → Parser A} → ((k : ℕ) → length w ≤ k → Reads P w (m k)) → Reads P w (λ s e p. m (e - p) s e p)
  by-room g = record { reads = λ s e p l i. (g (e - p) (omega arith)).reads s e p l i }

  pub recast : {w : Bits} (r : Refusal) {m : Parser A} → Reads P w m → Reads P w (refused_as r m)
  unfolding refused_as
  recast {w} r {m} h = record { reads = λ s e p l i. go _ (m s e p) (h.reads s e p l i) }
    where
      go : (q : ℕ) (x : Parsed A) → Got P q x → Got P q (instead_of r x)
      go q (got a z) k = k
      go q (refused r') k = k

  -- what was written by a test
  pub either : (b : Bool) {u w : Bits} {m : Parser A} → (b ≡ true → Reads P u m) → (b ≡ false → Reads P w m) → Reads P (cond b u w) m
  either true f g = f refl
  either false f g = g refl

  -- a test that is passed reads nothing
  pub required : {w : Bits} (b : Bool) (r : Refusal) {n : Parser A} → b ≡ true → Reads P w n → Reads P w (require b r >> n)
  unfolding require ◌>>◌ pure
  required b r h g = rw h (record { reads = λ s e p. g.reads s e p })

module _ {A : Type 0} {P Q : A → Type 0} where
  pub weaken : {w : Bits} {m : Parser A} → Reads P w m → ((a : A) → P a → Q a) → Reads Q w m
  weaken {w} {m} h f = record { reads = λ s e p l i. go _ (m s e p) (h.reads s e p l i) }
    where
      go : (q : ℕ) (x : Parsed A) → Got P q x → Got Q q x
      go q (got a z) k = (f a k.0, k.1)
      go q (refused r) k = k

-- Fields, flags, and bits passed over

fits : {A : Type 0} (P : A → Type 0) (a : A) (w e p : ℕ) (r : Refusal) → P a → p + w ≤ e
    → Got P (p + w) (cond (leb (p + w) e) (got a (p + w)) (refused r))
fits P a w e p r h l = rw (le-leb (p + w) e l) (h, refl)

pub a-field : (w c v : ℕ) → v < 2 ^ w → Reads (Is v) (w ⊳ v) (read w c)
unfolding read
a-field w c v h = record {
  reads = λ s e p l i.
      let n = width w v in
      let e' : p + length (w ⊳ v) ≡ p + w = omega arith in
      rw e' (fits (Is v) (field s p w) w e p _ (field_back s p w v h l) (omega arith));
}

pub a-flag : (c : ℕ) (b : Bool) → Reads (Is b) (one b) (flag c)
unfolding flag ◌⊳◌
a-flag c true = mapped _ (a-field 1 c 1 (omega arith)) λ v q. rw q
a-flag c false = mapped _ (a-field 1 c 0 (omega arith)) λ v q. rw q

-- any n bits are passed
pub skipped : (w : Bits) (n c : ℕ) → length w ≡ n → Reads Any w (skip n c)
unfolding skip
skipped w n c h = record { reads = λ s e p l i. rw h (fits Any tt n e p _ tt (omega arith)) }

-- Lists

module _ {K A : Type 0} (R : K → A → Type 0) where
  -- each of the values has R with what was written for it
  abbrev pub Each : List K → List A → Type 0
  Each [] [] = Unit {0}
  Each [] (a ∷ l) = ⊥
  Each (k ∷ ks) [] = ⊥
  Each (k ∷ ks) (a ∷ l) = R k a × Each ks l

  pub repeated : (f : K → Bits) (m : Parser A) (ks : List K) → All (λ k. Reads (R k) (f k) m) ks
      → Reads (Each ks) (spread f ks) (times (length ks) m)
  unfolding times spread
  repeated f m [] h = given [] tt
  repeated f m (k ∷ ks) h = bind _ h.0 λ a ra. ends _ (repeated f m ks h.1) λ l rl. (ra, rl)

module _ {A : Type 0} where
  -- each is what was written
  pub each-is : (ks l : List A) → Each Is ks l → l ≡ ks
  each-is [] [] h = refl
  each-is [] (a ∷ l) h = absurd h
  each-is (k ∷ ks) [] h = absurd h
  each-is (k ∷ ks) (a ∷ l) h = rw h.0 (ap (λ (x : List A). k ∷ x) (each-is ks l h.1))

-- Packed

module _ {A : Type 0} {P : A → Type 0} where
  -- from the first of the bytes, whatever lies behind
  pub of-packed : {w : Bits} {m : Parser A} (behind : Bits) → Reads P w m
      → Got P (length w) (m (packed (w ++ behind)) (length (packed (w ++ behind)) * 8) 0)
  of-packed {w} behind h =
      let n = length-append w behind in
      let s = packed (w ++ behind) in
      let inside : 0 + length w ≤ length s * 8 = omega (arith, packed-length (w ++ behind)) in
      rw zero-add at (h.reads s (length s * 8) 0 (spells-left w behind (packed-spell (w ++ behind))) inside)
