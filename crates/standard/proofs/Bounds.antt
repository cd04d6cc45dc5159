-- A refusal has one of the numbers 1 to 4 and one of the contexts 1 to 86, and stands within the payload. Bits are missing where it is cut.
use Prim.Native.Nat.{ℕ, zero, suc, ◌+◌, ◌*◌, ◌-◌, ◌^◌, ◌≤◌, ◌<◌}
use mathlib.Core.Path.{◌≡◌, refl}
use mathlib.Core.Bool.{Bool, true, false, cond, ◌&&◌}
use mathlib.Core.List.{List, [], ◌∷◌}
use mathlib.Core.Option.{Option, none, some}
use native.Mathlib.Omega.{arith}
use lib.Dec.{leb, eqb}
use lib.ListN.{length}
use borrow.Author.Tests.{le-leb, leb-true, leb-false}
use Rattle.bits.specs.Bits.{bit_at}
use Rattle.bits.specs.Parsed.{Refusal, Parsed, got, refused, Parser, and_then, map_parsed, ◌>>=◌, ◌>>◌, map_p, pure, refuse, within, refused_as, times, optional, each, here, the_end, go_to, require, instead_of, placed_at, placed, truncated, invalid, limit, unsupported}
use Rattle.bits.proofs.Always.{Ok, Always, anything, mapped-such}
use Rattle.bits.proofs.Fields.{read-lt}
use Rattle.bits.proofs.Groups.{variable-lt}
use Rattle.bits.specs.Reads.{read, flag, skip, zeros, padding, read_signed, extended, skip_bytes, later_groups, variable_bits}
use Rattle.standard.specs.Numbers.{object_limit}
use Rattle.standard.specs.Contexts as context
use Rattle.standard.specs.Tree.{Kind, Tree}
use Rattle.standard.specs.Assignment.{version, object_count, only_dynamic, one_bed, beds, isfs, dynamics, contents, assignment}
use Rattle.standard.specs.Updates.{gain_by, gain_word, priority_word, levels, parts, basic, differential, absolutely, distance, position_word, zone_word, three_sizes, size_by, size_word, screen_word, groups, render, status, render_of, active_update, table_data, update, object}
use Rattle.standard.specs.Syntax.{sample_offset, ramp, timing, reserved, object_element, trim, element_count, element_size, alternate, once, content, element, elements, present, body, payload, syntax}
use Rattle.standard.proofs.Counts.{kinds-counted}

-- a context of the list
abbrev pub Listed : ℕ → Type 0
Listed c = (leb 1 c && leb c context.context_count) ≡ true

-- the bits of the longest element, 69,904 bytes: no read wants more
abbrev pub most_bits : ℕ
most_bits = 69904 * 8

abbrev Wide : ℕ → Type 0
Wide w = leb w most_bits ≡ true

pub record Bounded (e : ℕ) (r : Refusal) : Type 0 where
  pub above : 1 ≤ r.number
  pub below : r.number ≤ 4
  pub context : Listed r.context
  pub place : r.place ≤ e
  pub cut : r.number ≡ 1 → 1 ≤ r.missing
  pub uncut : (r.number ≡ 1 → ⊥) → r.missing ≡ 0
  pub most : r.missing ≤ most_bits

-- from a place up to the end e, a reading goes on and stays within, and so does its refusal
abbrev Fine : {A : Type 0} → ℕ → ℕ → Parsed A → Type 0
Fine e p (got a q) = (p ≤ q) × (q ≤ e)
Fine e p (refused r) = Bounded e r

record Stays {A : Type 0} (e : ℕ) (m : Parser A) : Type 0 where
  stays : (s : List ℕ) (p : ℕ) → p ≤ e → Fine e p (m s e p)

-- what an element holds
abbrev pub Inside : Bool → List Kind → ℕ → ℕ → Option Tree → Parser (Option Tree)
Inside alternated ks at id o = alternate alternated >> (flag context.discard-unknown-element-flag >> content ks at id o)

-- One rule for each way in which readings are put together

module _ {A B : Type 0} {P : A → Type 0} {e : ℕ} where
  then-fine : (p : ℕ) (x : Parsed A) (k : A → ℕ → Parsed B) → Ok P x → Fine e p x → ((a : A) (q : ℕ) → P a → p ≤ q → q ≤ e → Fine e q (k a q)) → Fine e p (and_then x k)
  then-fine p (got a q) k i h f = go (k a q) (f a q i h.0 h.1)
    where
      go : (y : Parsed B) → Fine e q y → Fine e p y
      go (got b q') z = (omega arith, z.1)
      go (refused r) z = z
  then-fine p (refused r) k i h f = h

  -- what m always gives, f goes on from
  bind-such : {m : Parser A} {f : A → Parser B} → Always P m → Stays e m → ((a : A) → P a → Stays e (f a)) → Stays e (m >>= f)
  unfolding ◌>>=◌
  bind-such {m} {f} i h g = record { stays = λ s p l. then-fine p (m s e p) (λ a q. f a s e q) (i.ok s e p) (h.stays s p l) (λ a q x j k. (g a x).stays s q k) }

module _ {A B : Type 0} {e : ℕ} where
  bind : {m : Parser A} {f : A → Parser B} → Stays e m → ((a : A) → Stays e (f a)) → Stays e (m >>= f)
  bind {m} h g = bind-such (anything m) h (λ a x. g a)

  next : {m : Parser A} {n : Parser B} → Stays e m → Stays e n → Stays e (m >> n)
  unfolding ◌>>=◌ ◌>>◌
  next {m} {n} h g = record { stays = (bind {m = m} {f = λ a. n} h (λ a. g)).stays }

  mapped : (f : A → B) {m : Parser A} → Stays e m → Stays e (map_p f m)
  unfolding map_p
  mapped f {m} h = record { stays = λ s p l. go p (m s e p) (h.stays s p l) }
    where
      go : (p : ℕ) (x : Parsed A) → Fine e p x → Fine e p (map_parsed f x)
      go p (got a q) t = t
      go p (refused r) t = t

module _ {A : Type 0} {e : ℕ} where
  -- a place that was noted lies within
  from-here : {f : ℕ → Parser A} → ((at : ℕ) → at ≤ e → Stays e (f at)) → Stays e (here >>= f)
  unfolding ◌>>=◌ here
  from-here g = record { stays = λ s p l. (g p l).stays s p l }

  to_end : (f : ℕ → Parser A) → Stays e (f e) → Stays e (the_end >>= f)
  unfolding ◌>>=◌ the_end
  to_end f g = record { stays = λ s p l. g.stays s p l }

  choose : (b : Bool) {m n : Parser A} → Stays e m → Stays e n → Stays e (cond b m n)
  choose true h k = h
  choose false h k = k

  given : (a : A) → Stays e (pure a)
  unfolding pure
  given a = record { stays = λ s p l. (omega arith, l) }

  refusing : {r : Refusal} → Bounded e r → Stays {A = A} e (refuse r)
  unfolding refuse
  refusing h = record { stays = λ s p l. h }

  recast : {r : Refusal} {m : Parser A} → Bounded e r → Stays e m → Stays e (refused_as r m)
  unfolding refused_as
  recast {r} {m} h g = record { stays = λ s p l. go p (m s e p) (g.stays s p l) }
    where
      go : (p : ℕ) (x : Parsed A) → Fine e p x → Fine e p (instead_of r x)
      go p (got a q) t = t
      go p (refused z) t = h

  placing : {m : Parser A} → Stays e m → Stays e (placed m)
  unfolding placed
  placing {m} h = record { stays = λ s p l. go p (m s e p) (h.stays s p l) }
    where
      go : (p : ℕ) (x : Parsed A) → Fine e p x → Fine e p (map_parsed (placed_at p) x)
      go p (got a q) t = t
      go p (refused r) t = t

module _ {e : ℕ} where
  asked : {A : Type 0} (b : Bool) {m : Parser A} → Stays e m → Stays e (optional b m)
  unfolding optional
  asked true h = mapped some h
  asked false h = given none

  repeated : {A : Type 0} (n : ℕ) {m : Parser A} → Stays e m → Stays e (times n m)
  unfolding times
  repeated zero h = given []
  repeated (suc n) h = bind h λ a. bind (repeated n h) λ rest. given (a ∷ rest)

  at_each : {K A : Type 0} {m : K → Parser A} (ks : List K) → ((k : K) → Stays e (m k)) → Stays e (each m ks)
  unfolding each
  at_each [] h = given []
  at_each (k ∷ ks) h = bind (h k) λ a. bind (at_each ks h) λ rest. given (a ∷ rest)

  required : (b : Bool) {r : Refusal} → Bounded e r → Stays e (require b r)
  unfolding require
  required b h = choose b (given tt) (refusing h)

  -- The refusals, and the reads

  whole : {n c p : ℕ} → Listed c → p ≤ e → 2 ≤ n → n ≤ 4 → Bounded e (record { number = n; context = c; place = p; missing = 0 })
  whole k l i j = record { above = omega arith; below = j; context = k; place = l; cut = λ h. absurd (omega arith); uncut = λ h. refl; most = omega arith }

  a-fault : {c p : ℕ} → Listed c → p ≤ e → Bounded e (invalid c p)
  a-fault k l = whole k l (omega arith) (omega arith)

  a-limit : {c p : ℕ} → Listed c → p ≤ e → Bounded e (limit c p)
  a-limit k l = whole k l (omega arith) (omega arith)

  a-stranger : {c p : ℕ} → Listed c → p ≤ e → Bounded e (unsupported c p)
  a-stranger k l = whole k l (omega arith) (omega arith)

  a-cut : (c p w n : ℕ) → Listed c → p ≤ e → n < w → w ≤ most_bits → Bounded e (truncated c p w n)
  a-cut c p w n k l i j =
      record { above = omega arith; below = omega arith; context = k; place = l; cut = λ h. omega arith; uncut = λ h. absurd (h refl); most = omega arith }

  run-fine : {A : Type 0} (a : A) (c p w : ℕ) → Wide w → Listed c → p ≤ e → Fine e p (cond (leb (p + w) e) (got a (p + w)) (refused (truncated c p w (e - p))))
  run-fine a c p w wide x l = go (leb (p + w) e) refl
    where
      go : (b : Bool) → leb (p + w) e ≡ b → Fine e p (cond b (got a (p + w)) (refused (truncated c p w (e - p))))
      go true h = let k = leb-true _ _ h in (omega arith, k)
      go false h = let k : e < p + w = leb-false _ _ h in a-cut c p w (e - p) x l (omega arith) (leb-true w most_bits wide)

  field : (w c : ℕ) → Wide w → Listed c → Stays e (read w c)
  unfolding read
  field w c i k = record { stays = λ s p l. run-fine _ c p w i k l }

  run : (w c : ℕ) → Wide w → Listed c → Stays e (skip w c)
  unfolding skip
  run w c i k = record { stays = λ s p l. run-fine tt c p w i k l }

  a-flag : (c : ℕ) → Listed c → Stays e (flag c)
  unfolding flag
  a-flag c k = mapped _ (field 1 c refl k)

  a-sign : (w c : ℕ) → Wide w → Listed c → Stays e (read_signed w c)
  unfolding read_signed
  a-sign w c i k = mapped _ (field w c i k)

  zeros-fine : (c n : ℕ) → Listed c → (s : List ℕ) (p : ℕ) → p + n ≤ e → Fine e p (zeros c n s e p)
  unfolding zeros pure
  zeros-fine c zero x s p l = (omega arith, omega arith)
  zeros-fine c (suc n) x s p l = go (eqb (bit_at s p) 0) (zeros-fine c n x s (p + 1) (omega arith))
    where
      go : (b : Bool) → Fine e (p + 1) (zeros c n s e (p + 1)) → Fine {A = Unit {0}} e p (elim b [ true ↦ zeros c n s e (p + 1) | false ↦ refused (invalid c p) ])
      go true h = back (zeros c n s e (p + 1)) h
        where
          back : (x : Parsed (Unit {0})) → Fine e (p + 1) x → Fine e p x
          back (got a q) k = (omega arith, k.1)
          back (refused r) k = k
      go false h = a-fault x (omega arith)

  rest : (c : ℕ) → Listed c → Stays e (padding c)
  unfolding padding
  rest c k = record { stays = λ s p l. zeros-fine c (e - p) k s p (omega arith) }

-- a context by its name stands in the list
named : true ≡ true
named = refl

ruleset staying = (bind, next, mapped, from-here, to_end, choose, given, refusing, recast, placing, asked, repeated, at_each, required, a-fault, a-limit, a-stranger, a-cut, field, run, a-flag, a-sign, rest, named)

module _ {e : ℕ} where
  later : (w c f n v : ℕ) → Wide w → Listed c → f ≤ e → Stays e (later_groups w c f n v)
  unfolding later_groups
  later w c f zero v i k l = bind (a-flag c k) λ more. choose more (refusing (a-limit k l)) (given v)
  later w c f (suc n) v i k l =
      bind (a-flag c k) λ more. choose more (bind (recast (a-limit k l) (field w c i k)) λ x. later w c f n (v * 2 ^ w + 2 ^ w + x) i k l) (given v)

  variable : (w n c : ℕ) → Wide w → Listed c → Stays e (variable_bits w n c)
  unfolding variable_bits
  variable w n c i k = from-here λ at l. bind (field w c i k) λ v. later w c at n v i k l

  -- The grammar

  extension : (w c l w' c' : ℕ) → Wide w → Listed c → Wide w' → Listed c' → Stays e (extended w c l w' c')
  unfolding extended
  extension w c l w' c' i h j k = search staying depth 12

  bytes : (c c' : ℕ) → Listed c → Listed c' → Stays e (skip_bytes c c')
  unfolding skip_bytes
  bytes c c' h k = bind-such (read-lt 4 c) (field 4 c refl h) λ n l. run ((n + 1) * 8) c' (le-leb ((n + 1) * 8) most_bits (omega arith)) k

  kinds : (n : ℕ) → Stays e (assignment n)
  unfolding assignment only_dynamic contents beds one_bed isfs dynamics
  kinds n = search (staying, extension, bytes) depth 20 fits 4000

  both-levels : (at n : ℕ) → Stays e (basic at n)
  unfolding basic parts levels gain_by gain_word priority_word
  both-levels at n = search staying depth 20 fits 4000

  a-position : (first : Bool) → Stays e (position_word first)
  unfolding position_word differential absolutely distance
  a-position first = search staying depth 20 fits 4000

  a-picture : (first : Bool) (n : ℕ) → Stays e (groups first n)
  unfolding groups zone_word three_sizes size_by size_word screen_word
  a-picture first n = search (staying, a-position) depth 20 fits 4000

  an-update : (k : Kind) (first : Bool) → Stays e (update k first)
  unfolding update active_update render_of status render parts table_data
  an-update k first = search (staying, both-levels, a-picture, bytes) depth 20 fits 4000

  an-object : (m : ℕ) (k : Kind) → Stays e (object m k)
  unfolding object
  an-object m k = search (staying, an-update) depth 12

  objects : (ks : List Kind) → Stays e (object_element ks)
  unfolding object_element sample_offset timing ramp reserved
  objects ks = search (staying, an-object) depth 20 fits 4000

  trimming : (n : ℕ) → n ≤ object_limit → Stays e (trim n)
  unfolding trim object_limit
  trimming n l = let i = le-leb n most_bits (omega arith) in search staying depth 20 fits 4000

  first_one : (at : ℕ) (o : Option Tree) (ks : List Kind) → at ≤ e → Stays e (once at o (object_element ks))
  unfolding once
  first_one at none ks l = mapped some (objects ks)
  first_one at (some t) ks l = refusing (a-fault refl l)

  -- the id of an element stands before its end
  inside : (alternated : Bool) (ks : List Kind) (at id : ℕ) (o : Option Tree) → length ks ≤ object_limit → at ≤ e → Stays e (Inside alternated ks at id o)
  unfolding alternate content
  inside alternated ks at id o n l =
      next (search staying depth 12)
      (next (a-flag _ refl)
      (choose (eqb id 1) (bind (first_one at o ks l) λ t. next (rest _ refl) (given t)) (choose (eqb id 2) (next (trimming _ n) (next (rest _ refl) (given o))) (given o))))

-- an element's end lies within the payload
closed : {A : Type 0} (e e' p : ℕ) (x : Parsed A) → p ≤ e' → e' ≤ e → Fine e' p x → Fine e p (and_then x (λ a q. got a e'))
closed e e' p (got a q) l m h = (l, m)
closed e e' p (refused r) l m h =
    record { above = h.above; below = h.below; context = h.context; place = let k = h.place in omega arith; cut = h.cut; uncut = h.uncut; most = h.most }

-- an element has a byte at least
size-lt : Always (λ n. (1 ≤ n) × (n ≤ 69904)) element_size
unfolding element_size
size-lt = mapped-such _ (variable-lt 4 _ (omega arith)) λ v l. (omega arith, omega arith)

module _ {e : ℕ} where
  size : Stays e element_size
  unfolding element_size
  size = mapped _ (variable 4 3 _ refl refl)

  an-element : (alternated : Bool) (ks : List Kind) (o : Option Tree) → length ks ≤ object_limit → Stays e (element alternated ks o)
  unfolding element ◌>>=◌ ◌>>◌ here the_end require pure refuse within go_to
  an-element alternated ks o u = record {
    stays = λ s p l.
        then-fine p (read 4 context.element-id s e p) _ ((read-lt 4 _).ok s e p) ((field 4 context.element-id refl refl).stays s p l) (λ id q x i j.
        then-fine q (element_size s e q) _ (size-lt.ok s e q) (size.stays s q j) (λ n q' x' i' j'.
        ends s p id n q' (omega arith) j' x' (leb (q' + n * 8) e) refl));
  }
    where
      ends : (s : List ℕ) (at id n p : ℕ) → at ≤ p → p ≤ e → (1 ≤ n) × (n ≤ 69904) → (b : Bool) → leb (p + n * 8) e ≡ b
          → Fine e p (and_then (cond {A = Parser (Unit {0})} b (pure tt) (refuse (truncated context.element p (n * 8) (e - p))) s e p) (λ a q. and_then (Inside alternated ks at id o s (p + n * 8) q) (λ t q. got t (p + n * 8))))
      ends s at id n p l m i true h =
          let k = leb-true _ _ h in
          closed e (p + n * 8) p (Inside alternated ks at id o s (p + n * 8) p) (omega arith) k ((inside {e = p + n * 8} alternated ks at id o u (omega arith)).stays s p (omega arith))
      ends s at id n p l m i false h =
          let k : e < p + n * 8 = leb-false _ _ h in
          let j = i.1 in
          a-cut context.element p (n * 8) (e - p) refl m (omega arith) (omega arith)

  all-elements : (n : ℕ) (alternated : Bool) (ks : List Kind) (o : Option Tree) → length ks ≤ object_limit → Stays e (elements n alternated ks o)
  unfolding elements
  all-elements zero alternated ks o u = given o
  all-elements (suc n) alternated ks o u = bind (an-element alternated ks o u) λ t. all-elements n alternated ks t u

  at_last : (o : Option Tree) → Stays e (present o)
  unfolding present
  at_last none = to_end _ (refusing (a-fault refl (omega arith)))
  at_last (some t) = given t

  counted : Stays e object_count
  unfolding object_count
  counted = search (staying, extension) depth 20 fits 4000

  remainder : (ks : List Kind) → length ks ≤ object_limit → Stays e (body ks)
  unfolding body element_count
  remainder ks u = search (staying, extension, all-elements, at_last) depth 20 fits 4000

  in_all : Stays e payload
  unfolding payload version
  in_all = next (search (staying, extension) depth 20 fits 4000) (bind-such kinds-counted (bind counted λ n. kinds n) λ ks l. remainder ks l.1)

-- A payload that is refused is refused by a number from 1 to 4 and a context from 1 to 86, at a place within it, with bits missing where the
-- number is 1 and there alone.
pub bounded : (s : List ℕ) {r : Refusal} → syntax s ≡ refused r → Bounded (length s * 8) r
unfolding syntax
bounded s {r} e = rw e at ((in_all {e = length s * 8}).stays s 0 (omega arith))
