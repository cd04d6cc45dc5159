-- What more bits would change in an element that is cut by its end.
use Prim.Native.Nat.{ℕ, zero, suc, ◌+◌, ◌*◌, ◌^◌, ◌≤◌, ◌<◌}
use mathlib.Core.Path.{◌≡◌, refl}
use mathlib.Core.Bool.{Bool, true, false}
use mathlib.Core.List.{List}
use mathlib.Core.Option.{Option, none, some}
use native.Mathlib.Omega.{arith}
use lib.Dec.{leb, eqb}
use borrow.Author.Tests.{le-leb}
use Rattle.bits.specs.Bits.{field}
use Rattle.bits.specs.Parsed.{Refusal, refused, Parser, ◌>>=◌, ◌>>◌, map_p, pure, refuse, here, require, unsupported}
use Rattle.bits.specs.Reads.{read, flag, extended, skip_bytes, later_groups, variable_bits}
use Rattle.bits.proofs.Growing.{Alike, alike-itself, alike-field, From, from-earlier, Stretch, GrowsAt, Grows, carried, bind, next, mapped, from-here, choose, given, refusing, recast, Uncut, never, a-field, a-flag, Closing, gives, padded, growing}
use Rattle.standard.specs.Contexts as context
use Rattle.standard.specs.Tree.{Kind, Tree}
use Rattle.standard.specs.Updates.{gain_by, gain_word, priority_word, levels, parts, basic, differential, absolutely, distance, position_word, zone_word, three_sizes, size_by, size_word, screen_word, groups, render, status, render_of, active_update, table_data, update, object}
use Rattle.standard.specs.Syntax.{sample_offset, ramp, timing, reserved, object_element, trim, alternate, once, content}
use Rattle.standard.proofs.Bounds.{Inside}

-- Of any stretch

module _ {K : Stretch} where
  later : (w c f n v : ℕ) → K.cuts c ≡ true → Grows K true (later_groups w c f n v)
  unfolding later_groups
  later w c f zero v k = bind (a-flag c k) λ more. choose more (refusing _ refl) (given v)
  later w c f (suc n) v k = bind (a-flag c k) λ more. choose more (bind (recast _ refl (a-field w c k)) λ x. later w c f n (v * 2 ^ w + 2 ^ w + x) k) (given v)

  pub variable : (w n c : ℕ) → K.cuts c ≡ true → Grows K true (variable_bits w n c)
  unfolding variable_bits
  variable w n c k = from-here λ at. bind (a-field w c k) λ v. later w c at n v k

  pub extension : (w c l w' c' : ℕ) → K.cuts c ≡ true → K.cuts c' ≡ true → Grows K true (extended w c l w' c')
  unfolding extended
  extension w c l w' c' h k = search growing depth 12

  pub bytes : (c c' : ℕ) → K.cuts c ≡ true → K.cuts c' ≡ true → Grows K true (skip_bytes c c')
  unfolding skip_bytes
  bytes c c' h k = search growing depth 12

-- Inside an element

-- the last context of what stands outside elements
abbrev pub last_outside : ℕ
last_outside = context.program-assignment-object-count

abbrev pub of_element : Stretch
of_element = record { cuts = λ c. leb (last_outside + 1) c; Inner = λ s e r. ⊥ }

both-levels : (at n : ℕ) → Grows of_element true (basic at n)
unfolding basic parts levels gain_by gain_word priority_word
both-levels at n = search growing depth 20 fits 4000

a-position : (first : Bool) → Grows of_element true (position_word first)
unfolding position_word differential absolutely distance
a-position first = search growing depth 20 fits 4000

a-picture : (first : Bool) (n : ℕ) → Grows of_element true (groups first n)
unfolding groups zone_word three_sizes size_by size_word screen_word
a-picture first n = search (growing, a-position) depth 20 fits 4000

an-update : (k : Kind) (first : Bool) → Grows of_element true (update k first)
unfolding update active_update render_of status render parts table_data
an-update k first = search (growing, both-levels, a-picture, bytes) depth 20 fits 4000

an-object : (m : ℕ) (k : Kind) → Grows of_element true (object m k)
unfolding object
an-object m k = search (growing, an-update) depth 12

objects : (ks : List Kind) → Grows of_element true (object_element ks)
unfolding object_element sample_offset timing ramp reserved
objects ks = search (growing, an-object) depth 20 fits 4000

trimming : (n : ℕ) → Grows of_element true (trim n)
unfolding trim
trimming n = search growing depth 20 fits 4000

first_one : (at : ℕ) (o : Option Tree) (ks : List Kind) → Grows of_element true (once at o (object_element ks))
unfolding once
first_one at none ks = mapped some (objects ks)
first_one at (some t) ks = refusing _ refl

pub closing : {A : Type 0} (a : A) → Closing (pure a)
unfolding pure
closing a = gives a (λ s e p. refl)

in-element : (ks : List Kind) (at id : ℕ) (o : Option Tree) → Grows of_element false (content ks at id o)
unfolding content
in-element ks at id o =
    choose (eqb id 1) (bind (first_one at o ks) λ t. padded _ (closing t)) (choose (eqb id 2) (next (trimming _) (padded _ (closing o))) (given o))

-- An element has a byte at least, so its alternate id and its discard flag are there

-- where its content begins, or the refusal of an alternate id
data Opened (alternated : Bool) (n : Parser (Option Tree)) (s : List ℕ) (e p : ℕ) : Type 0 where
  through : (q : ℕ) → p < q → q ≤ e
      → ((t : List ℕ) (e' : ℕ) → Alike e s t → e ≤ e' → (alternate alternated >> (flag context.discard-unknown-element-flag >> n)) t e' p ≡ n t e' q) → Opened alternated n s e p
  stopped : (r : Refusal) → Uncut r
      → ((t : List ℕ) (e' : ℕ) → Alike e s t → e ≤ e' → (alternate alternated >> (flag context.discard-unknown-element-flag >> n)) t e' p ≡ refused r) → Opened alternated n s e p

opened : (alternated : Bool) (n : Parser (Option Tree)) (s : List ℕ) (e p : ℕ) → p + 8 ≤ e → Opened alternated n s e p
unfolding alternate flag read map_p ◌>>=◌ ◌>>◌ here require pure refuse
opened false n s e p l = through (p + 1) (omega arith) (omega arith) (λ t e' i j. rw (le-leb (p + 1) e' (omega arith)))
opened true n s e p l = go (eqb (field s p 4) 0) refl
  where
    go : (b : Bool) → eqb (field s p 4) 0 ≡ b → Opened true n s e p
    go true k =
        through (p + 4 + 1) (omega arith) (omega arith)
        (λ t e' i j. rw (le-leb (p + 4) e' (omega arith), alike-field i p 4 (omega arith), k, le-leb (p + 4 + 1) e' (omega arith)))
    go false k = stopped (unsupported context.alternate-object-data-type p) refl (λ t e' i j. rw (le-leb (p + 4) e' (omega arith), alike-field i p 4 (omega arith), k))

module _ (alternated : Bool) (ks : List Kind) (at id : ℕ) (o : Option Tree) where
  pub inside-from : (s : List ℕ) (e p : ℕ) → p + 8 ≤ e → From (p + 1) (Inside alternated ks at id o s e p)
  inside-from s e p l = go (opened alternated (content ks at id o) s e p l)
    where
      go : Opened alternated (content ks at id o) s e p → From (p + 1) (Inside alternated ks at id o s e p)
      go (through q h k f) = rw (f s e (alike-itself e s) (omega arith)) (from-earlier (omega arith) (content ks at id o s e q) ((in-element ks at id o).forward.from s e q))
      go (stopped r u f) = rw (f s e (alike-itself e s) (omega arith)) (λ i. absurd (never r u i))

  pub inside-grows : (s : List ℕ) (e p : ℕ) → p + 8 ≤ e → GrowsAt of_element false (Inside alternated ks at id o) s e p
  inside-grows s e p l = go (opened alternated (content ks at id o) s e p l)
    where
      go : Opened alternated (content ks at id o) s e p → GrowsAt of_element false (Inside alternated ks at id o) s e p
      go (through q h k f) = carried {m = content ks at id o} {q = q} f ((in-element ks at id o).at s e q k)
      go (stopped r u f) = record { grown = rw (f s e (alike-itself e s) (omega arith)) (λ i. absurd (never r u i)) }
