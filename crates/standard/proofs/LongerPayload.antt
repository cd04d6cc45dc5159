-- What more bits would change in a payload that is cut: by its own end, or by the end of an element in it.
use Prim.Native.Nat.{ℕ, zero, suc, ◌+◌, ◌*◌, ◌-◌, ◌≤◌, ◌<◌}
use mathlib.Core.Path.{◌≡◌, refl, sym, ◌∙◌, ap}
use mathlib.Core.Bool.{Bool, true, false, cond}
use mathlib.Core.List.{List}
use mathlib.Core.Option.{Option, none, some}
use native.Mathlib.Omega.{arith}
use lib.Dec.{leb}
use borrow.Author.Tests.{le-leb, leb-true, leb-false}
use Rattle.bits.specs.Parsed.{Refusal, Parsed, got, refused, Parser, and_then, ◌>>=◌, ◌>>◌, map_p, pure, refuse, within, here, the_end, go_to, require, truncated, invalid}
use Rattle.bits.specs.Reads.{read, flag, padding, variable_bits}
use Rattle.bits.proofs.ParsedLaws.{then-got, map-then, then-then}
use Rattle.bits.proofs.Growing.{Alike, alike-before, less_none, From, from-earlier, Eased, eased, Stretch, Cut, at_end, inside, Grown, GrowsAt, Forward, Grows, forwards, carried, bound, given, a-field, a-flag, Closing, refuses, padded, growing}
use Rattle.standard.specs.Contexts as context
use Rattle.standard.specs.Tree.{Kind, Tree}
use Rattle.standard.specs.Assignment.{version, object_count, only_dynamic, one_bed, beds, isfs, dynamics, contents, assignment}
use Rattle.standard.specs.Syntax.{element_count, element_size, element, elements, present, body, payload}
use Rattle.standard.proofs.Bounds.{Inside}
use Rattle.standard.proofs.Longer.{variable, extension, bytes, last_outside, of_element, closing, inside-from, inside-grows}

-- What a payload says up to the bytes of an element before which n elements stand
pub record Opening : Type 0 where
  pub kinds : List Kind
  pub alternated : Bool
  pub count : ℕ
  pub found : Option Tree
  pub at : ℕ  -- where its id stands
  pub id : ℕ
  pub bytes : ℕ

unfoldable pub opening : ℕ → Parser Opening
opening n = do
  version
  kinds ← object_count >>= assignment
  alternated ← flag context.alternate-object-data-flag
  count ← element_count
  found ← elements n alternated kinds none
  at ← here
  id ← read 4 context.element-id
  bytes ← element_size
  pure (record { kinds = kinds; alternated = alternated; count = count; found = found; at = at; id = id; bytes = bytes })

-- what the element holds
abbrev pub held : Opening → Parser (Option Tree)
held h = Inside h.alternated h.kinds h.at h.id h.found

-- An element of the payload is cut by its end: reading it is refused, and a longer one with the same bits would ease that
pub record ElementCut (s : List ℕ) (e : ℕ) (r : Refusal) : Type 0 where
  pub before : ℕ
  pub head : Opening
  pub start : ℕ
  pub reached : opening before s e 0 ≡ got head start
  pub counted : before < head.count
  pub within : start + head.bytes * 8 ≤ e
  pub context : last_outside < r.context
  pub cut : held head s (start + head.bytes * 8) start ≡ refused r
  pub eased : (t : List ℕ) (e' : ℕ) → Alike (start + head.bytes * 8) s t → start + head.bytes * 8 ≤ e' → Eased r (e' - (start + head.bytes * 8)) (held head t e' start)

abbrev pub of_payload : Stretch
of_payload = record { cuts = λ c. leb c last_outside; Inner = ElementCut }

-- One element

-- what follows its size
abbrev Sized : Bool → List Kind → ℕ → ℕ → Option Tree → ℕ → Parser (Option Tree)
Sized alternated ks at id o n = do
  start ← here
  end ← the_end
  require (leb (start + n * 8) end) (truncated context.element start (n * 8) (end - start))
  t ← within (start + n * 8) (Inside alternated ks at id o)
  go_to (start + n * 8)
  pure t

module _ (alternated : Bool) (ks : List Kind) (at id : ℕ) (o : Option Tree) (n : ℕ) (some : 1 ≤ n) where
  -- the element's end closes it
  closed : List ℕ → ℕ → Parsed (Option Tree)
  closed s p = and_then (Inside alternated ks at id o s (p + n * 8) p) (λ t q. got t (p + n * 8))

  sized-is : (s : List ℕ) (e p : ℕ) → Sized alternated ks at id o n s e p ≡ cond (leb (p + n * 8) e) (closed s p) (refused (truncated context.element p (n * 8) (e - p)))
  unfolding closed ◌>>=◌ ◌>>◌ here the_end require pure refuse within go_to
  sized-is s e p = go (leb (p + n * 8) e)
    where
      go : (b : Bool) → and_then (cond {A = Parser (Unit {0})} b (pure tt) (refuse (truncated context.element p (n * 8) (e - p))) s e p) (λ a q. and_then (Inside alternated ks at id o s (p + n * 8) q) (λ t q. got t (p + n * 8)))
          ≡ cond b (closed s p) (refused (truncated context.element p (n * 8) (e - p)))
      go true = refl
      go false = refl

  closed-from : (s : List ℕ) (p : ℕ) → From (p + 1) (closed s p)
  unfolding closed
  closed-from s p = go (Inside alternated ks at id o s (p + n * 8) p) (inside-from alternated ks at id o s (p + n * 8) p (omega arith))
    where
      go : (x : Parsed (Option Tree)) → From (p + 1) x → From (p + 1) (and_then x (λ t q. got t (p + n * 8)))
      go (got t q) z = omega arith
      go (refused r) z = z

  sized-forward : Forward (Sized alternated ks at id o n)
  sized-forward = record { from = λ s e p. rw (sized-is s e p) (go s e p (leb (p + n * 8) e)) }
    where
      go : (s : List ℕ) (e p : ℕ) (b : Bool) → From p (cond b (closed s p) (refused (truncated context.element p (n * 8) (e - p))))
      go s e p true = from-earlier (omega arith) (closed s p) (closed-from s p)
      go s e p false = λ i. omega arith

  -- the payload does not hold it
  over : (s : List ℕ) (e p : ℕ) → p ≤ e → e < p + n * 8 → Cut of_payload (Sized alternated ks at id o n) s e p (truncated context.element p (n * 8) (e - p))
  over s e p l h = at_end refl (omega arith) (λ t e' i j. rw (sized-is t e' p) (eased context.element p (n * 8) e e' l h j (closed t p) (closed-from t p)))

  module _ (s : List ℕ) (e p : ℕ) (l : p ≤ e)
      (told : (r : Refusal) → p + n * 8 ≤ e → Cut of_element (Inside alternated ks at id o) s (p + n * 8) p r → Inside alternated ks at id o s (p + n * 8) p ≡ refused r → ElementCut s e r) where
    -- the payload holds it
    whole : p + n * 8 ≤ e → Grown of_payload true (Sized alternated ks at id o n) s e p (closed s p)
    unfolding closed
    whole h = go (Inside alternated ks at id o s (p + n * 8) p) refl (inside-grows alternated ks at id o s (p + n * 8) p (omega arith)).grown
      where
        same : (r : Refusal) → Cut of_element (Inside alternated ks at id o) s (p + n * 8) p r → (t : List ℕ) → Alike e s t → Inside alternated ks at id o t (p + n * 8) p ≡ refused r
        same r (at_end c k f) t i = (f t (p + n * 8) (alike-before h i) (omega arith)).short (omega arith) ∙ ap refused (less_none r (p + n * 8 - (p + n * 8)) (omega arith))
        same r (inside c f) t i = absurd c

        go : (x : Parsed (Option Tree)) → Inside alternated ks at id o s (p + n * 8) p ≡ x → Grown of_element false (Inside alternated ks at id o) s (p + n * 8) p x
            → Grown of_payload true (Sized alternated ks at id o n) s e p (and_then x (λ t q. got t (p + n * 8)))
        go (got t q) y g =
            (h, λ t' e' i j w. rw (sized-is t' e' p, le-leb (p + n * 8) e' (omega arith), g.1 t' (p + n * 8) (alike-before h i) (omega arith) (λ w. refl)))
        go (refused r) y g = λ w. inside (told r h (g w) y) (λ t e' i j. rw (sized-is t e' p, le-leb (p + n * 8) e' (omega arith), same r (g w) t i))

    sized-grows : GrowsAt of_payload true (Sized alternated ks at id o n) s e p
    sized-grows = record { grown = rw (sized-is s e p) (go (leb (p + n * 8) e) refl) }
      where
        go : (b : Bool) → leb (p + n * 8) e ≡ b → Grown of_payload true (Sized alternated ks at id o n) s e p (cond b (closed s p) (refused (truncated context.element p (n * 8) (e - p))))
        go true h = whole (leb-true _ _ h)
        go false h = λ w. over s e p l (leb-false _ _ h)

-- The elements, one by one

module _ (alternated : Bool) (ks : List Kind) where
  -- from the id on, which stands at `at`, and from the size on, which is coded less 1

  abbrev Named : ℕ → Option Tree → ℕ → Parser (Option Tree)
  Named at o id = variable_bits 4 3 context.element-size >>= λ v. Sized alternated ks at id o (v + 1)

  abbrev Element : ℕ → Option Tree → Parser (Option Tree)
  Element at o = read 4 context.element-id >>= Named at o

  element-is : (o : Option Tree) (s : List ℕ) (e p : ℕ) → element alternated ks o s e p ≡ Element p o s e p
  unfolding element element_size map_p ◌>>=◌ here
  element-is o s e p = then-got (read 4 context.element-id s e p) _ _ (λ id q. map-then (variable_bits 4 3 context.element-size s e q) _ _)

  named-forward : (at : ℕ) (o : Option Tree) (id : ℕ) → Forward (Named at o id)
  named-forward at o id = forwards (variable {K = of_payload} 4 3 context.element-size refl).forward (λ v. sized-forward alternated ks at id o (v + 1) (omega arith))

  element-forward : (o : Option Tree) → Forward (element alternated ks o)
  element-forward o = record { from = λ s e p. rw (element-is o s e p) ((forwards (a-field {K = of_payload} 4 context.element-id refl).forward (named-forward p o)).from s e p) }

  elements-forward : (n : ℕ) (o : Option Tree) → Forward (elements n alternated ks o)
  unfolding elements
  elements-forward zero o = (given {K = of_payload} {b = true} o).forward
  elements-forward (suc n) o = forwards (element-forward o) (λ t. elements-forward n t)

  -- one element more
  elements-last : (n : ℕ) (o : Option Tree) (s : List ℕ) (e p : ℕ) → elements (suc n) alternated ks o s e p ≡ and_then (elements n alternated ks o s e p) (λ t q. element alternated ks t s e q)
  unfolding elements ◌>>=◌ pure
  elements-last zero o s e p = go (element alternated ks o s e p)
    where
      go : (x : Parsed (Option Tree)) → and_then x (λ t q. got t q) ≡ x
      go (got t q) = refl
      go (refused r) = refl
  elements-last (suc n) o s e p =
      then-got (element alternated ks o s e p) _ _ (λ t q. elements-last n t s e q) ∙ sym (then-then (element alternated ks o s e p) _ _)

-- The payload

-- what stands before the elements
record Before (s : List ℕ) (e first : ℕ) (alternated : Bool) (ks : List Kind) (count : ℕ) : Type 0 where
  kinds_at : ℕ
  flag_at : ℕ
  count_at : ℕ
  version-there : version s e 0 ≡ got tt kinds_at
  kinds-there : (object_count >>= assignment) s e kinds_at ≡ got ks flag_at
  flag-there : flag context.alternate-object-data-flag s e flag_at ≡ got alternated count_at
  count-there : element_count s e count_at ≡ got count first

module _ {s : List ℕ} {e first : ℕ} {alternated : Bool} {ks : List Kind} {count : ℕ} (h : Before s e first alternated ks count) where
  reached : (n : ℕ) {o : Option Tree} {p id q v start : ℕ} → elements n alternated ks none s e first ≡ got o p → read 4 context.element-id s e p ≡ got id q
      → variable_bits 4 3 context.element-size s e q ≡ got v start
      → opening n s e 0 ≡ got (record { kinds = ks; alternated = alternated; count = count; found = o; at = p; id = id; bytes = v + 1 }) start
  unfolding opening element_size map_p ◌>>=◌ ◌>>◌ here pure
  reached n x y z = rw (h.version-there, h.kinds-there, h.flag-there, h.count-there, x, y, z)

  element-grows : (n : ℕ) → n < count → {o : Option Tree} {p : ℕ} → p ≤ e → elements n alternated ks none s e first ≡ got o p → GrowsAt of_payload true (element alternated ks o) s e p
  element-grows n c {o} {p} l x =
      carried {m = Element alternated ks p o} (λ t e' i j. element-is alternated ks o t e' p)
      (bound ((a-field 4 context.element-id refl).at s e p l) (named-forward alternated ks p o) (λ id q y k.
      bound ((variable 4 3 context.element-size refl).at s e q k) (λ v. sized-forward alternated ks p id o (v + 1) (omega arith)) (λ v start z m.
      sized-grows alternated ks p id o (v + 1) (omega arith) s e start m (told id q v start y z))))
    where
      told : (id q v start : ℕ) → read 4 context.element-id s e p ≡ got id q → variable_bits 4 3 context.element-size s e q ≡ got v start
          → (r : Refusal) → start + (v + 1) * 8 ≤ e → Cut of_element (Inside alternated ks p id o) s (start + (v + 1) * 8) start r → Inside alternated ks p id o s (start + (v + 1) * 8) start ≡ refused r → ElementCut s e r
      told id q v start y z r w (at_end a m f) cut =
          record { before = n; head = _; start = start; reached = reached n x y z; counted = c; within = w; context = leb-true _ _ a; cut = cut; eased = f }
      told id q v start y z r w (inside a f) cut = absurd a

  elements-grow : (m n : ℕ) → n + m ≡ count → {o : Option Tree} {p : ℕ} → p ≤ e → elements n alternated ks none s e first ≡ got o p → GrowsAt of_payload true (elements m alternated ks o) s e p
  unfolding elements
  elements-grow zero n c {o} {p} l x = (given o).at s e p l
  elements-grow (suc m) n c {o} {p} l x =
      bound (element-grows n (omega arith) l x) (λ t. elements-forward alternated ks m t) (λ t q y k.
      elements-grow m (suc n) (omega arith) k (elements-last alternated ks n none s e first ∙ rw x y))

at_last : (o : Option Tree) → Closing (present o)
unfolding present ◌>>=◌ the_end refuse
at_last none = refuses (invalid context.missing-object-element) (λ e. refl) (λ s e p. refl)
at_last (some t) = closing t

ending : (o : Option Tree) → Grows of_payload false (padding context.payload-padding >> present o)
ending o = padded _ (at_last o)

counting : Grows of_payload true element_count
unfolding element_count
counting = search (growing, extension) depth 12

kinds : Grows of_payload true (object_count >>= assignment)
unfolding object_count assignment only_dynamic contents beds one_bed isfs dynamics
kinds = search (growing, extension, bytes) depth 20 fits 4000

versions : Grows of_payload true version
unfolding version
versions = search (growing, extension) depth 12

counted-forward : (alternated : Bool) (ks : List Kind) (n : ℕ) → Forward (elements n alternated ks none >>= λ t. padding context.payload-padding >> present t)
counted-forward alternated ks n = forwards (elements-forward alternated ks n none) (λ t. (ending t).forward)

flagged-forward : (ks : List Kind) (alternated : Bool) → Forward (element_count >>= λ n. elements n alternated ks none >>= λ t. padding context.payload-padding >> present t)
flagged-forward ks alternated = forwards counting.forward (counted-forward alternated ks)

body-forward : (ks : List Kind) → Forward (body ks)
unfolding body
body-forward ks = forwards (a-flag {K = of_payload} context.alternate-object-data-flag refl).forward (flagged-forward ks)

-- A payload that is cut: its own end cuts it, and more bits ease that; or the end of an element in it cuts, and more bits behind the payload change nothing.
pub longer : (s : List ℕ) (e : ℕ) → GrowsAt of_payload false payload s e 0
unfolding payload body ◌>>◌ ◌>>=◌ elements pure
longer s e =
    carried {m = version >>= λ x. (object_count >>= assignment) >>= body} (λ t e' i j. refl)
    (bound (versions.at s e 0 (omega arith)) (λ x. forwards kinds.forward body-forward) (λ x kinds_at v k.
    bound (kinds.at s e kinds_at k) body-forward (λ ks flag_at w l.
    bound ((a-flag context.alternate-object-data-flag refl).at s e flag_at l) (flagged-forward ks) (λ alternated count_at f m.
    bound (counting.at s e count_at m) (counted-forward alternated ks) (λ n first c o.
    bound (elements-grow (record { kinds_at = kinds_at; flag_at = flag_at; count_at = count_at; version-there = v; kinds-there = w; flag-there = f; count-there = c }) n 0 (omega arith) o refl) (λ t. (ending t).forward) (λ t q y i.
    (ending t).at s e q i))))))
