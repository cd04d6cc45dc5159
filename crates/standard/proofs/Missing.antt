-- What the missing bits of decode's answer say: which end cut the payload, and what would have been enough.
use Prim.Native.Nat.{ℕ, ◌+◌, ◌*◌, ◌-◌, ◌/◌, ◌≤◌, ◌<◌}
use mathlib.Core.Path.{◌≡◌, refl, sym, ◌∙◌, ap}
use mathlib.Core.Bool.{false}
use mathlib.Core.List.{List, ◌++◌}
use native.Mathlib.Omega.{arith}
use lib.ListN.{length, length-append, get_or-append}
use borrow.Author.Tests.{le-leb, leb-true}
use Rattle.bits.specs.Bits.{bit_at}
use Rattle.bits.specs.Parsed.{Refusal, Parsed, got, refused}
use Rattle.bits.proofs.Growing.{Alike, less, From, Eased, Cut, at_end, inside, Grown}
use Rattle.standard.specs.Numbers.{payload_limit}
use Rattle.standard.specs.Tree.{Tree}
use Rattle.standard.specs.Syntax.{payload, syntax}
use Rattle.standard.specs.Calls.{Lent, accept, decline, settle, decode}
use Rattle.standard.proofs.Endings.{Passed, ends}
use Rattle.standard.proofs.Longer.{last_outside}
use Rattle.standard.proofs.LongerPayload.{ElementCut, of_payload, longer}

-- The payload's own end cut it. With a tail x that is too short the answer is the same, but as many bits less are missing; with a longer one
-- nothing up to the place is cut.
pub record CutAtEnd (s : List ℕ) (l : Lent) (r : Refusal) : Type 0 where
  pub context : r.context ≤ last_outside
  pub short : (x : List ℕ) → length (s ++ x) ≤ payload_limit → length x * 8 < r.missing → decode (s ++ x) l ≡ decline l (less (length x * 8) r)
  pub enough : (x : List ℕ) → length (s ++ x) ≤ payload_limit → r.missing ≤ length x * 8 → (decode (s ++ x) l).answer.verdict.number ≡ 1
      → r.place < (decode (s ++ x) l).answer.verdict.place

-- The end of an element cut it, and what would have been enough is told of the element. A tail changes nothing.
pub record CutInElement (s : List ℕ) (l : Lent) (r : Refusal) : Type 0 where
  pub element : ElementCut s (length s * 8) r
  pub tail : (x : List ℕ) → length (s ++ x) ≤ payload_limit → decode (s ++ x) l ≡ decode s l

pub data Missed (s : List ℕ) (l : Lent) (r : Refusal) : Type 0 where
  by_payload : CutAtEnd s l r → Missed s l r
  by_element : CutInElement s l r → Missed s l r

-- A payload that decode refuses by 1 was read

passed : (s : List ℕ) (l : Lent) → (decode s l).answer.verdict.number ≡ 1 → Passed s l
unfolding accept decline
passed s l = ends (λ d. d.answer.verdict.number ≡ 1 → Passed s l) s l (λ n low high e. absurd (omega arith)) (λ h r b e. h) (λ h t f e. h)

longer-passed : {s : List ℕ} {l : Lent} (x : List ℕ) → length (s ++ x) ≤ payload_limit → Passed s l → Passed (s ++ x) l
longer-passed x n h = record { room = h.room; form = h.form; size = n }

reads : {s : List ℕ} {l : Lent} → Passed s l → decode s l ≡ settle l (syntax s)
unfolding decode
reads {s} {l} h = rw (h.room, h.form, le-leb (length s) payload_limit h.size)

-- A tail leaves the bits before it

append-alike : (s x : List ℕ) → Alike (length s * 8) s (s ++ x)
unfolding bit_at
append-alike s x = record { same = λ i h. rw (get_or-append s x 0 (i / 8) (omega arith)) }

append-end : (s x : List ℕ) → length s * 8 ≤ length (s ++ x) * 8
append-end s x = let i = length-append s x in omega arith

-- The payload's own end

module _ (s : List ℕ) (l : Lent) (r : Refusal) (h : Passed s l) where
  short : (x : List ℕ) → length (s ++ x) ≤ payload_limit → Eased r (length (s ++ x) * 8 - length s * 8) (syntax (s ++ x)) → length x * 8 < r.missing
      → decode (s ++ x) l ≡ decline l (less (length x * 8) r)
  unfolding settle
  short x n e k =
      let i = length-append s x in
      let same : length (s ++ x) * 8 - length s * 8 ≡ length x * 8 = omega arith in
      reads (longer-passed x n h) ∙ rw (e.short (omega arith)) (ap (λ k. decline l (less k r)) same)

  enough : (x : List ℕ) → length (s ++ x) ≤ payload_limit → Eased r (length (s ++ x) * 8 - length s * 8) (syntax (s ++ x)) → r.missing ≤ length x * 8
      → (decode (s ++ x) l).answer.verdict.number ≡ 1 → r.place < (decode (s ++ x) l).answer.verdict.place
  unfolding settle accept decline
  enough x n e k =
      let i = length-append s x in
      rw (reads (longer-passed x n h)) (go (syntax (s ++ x)) (e.enough (omega arith)))
    where
      go : (y : Parsed Tree) → From (r.place + 1) y → (settle l y).answer.verdict.number ≡ 1 → r.place < (settle l y).answer.verdict.place
      go (got t q) f z = absurd (omega arith)
      go (refused r') f z = let m = f z in omega arith

  -- what a cut reading of the payload says of the call
  told : syntax s ≡ refused r → Cut of_payload payload s (length s * 8) 0 r → Missed s l r
  unfolding settle syntax
  told y (at_end c k f) =
      by_payload (record { context = leb-true _ _ c; short = λ x n. short x n (eased x); enough = λ x n. enough x n (eased x) })
    where
      eased : (x : List ℕ) → Eased r (length (s ++ x) * 8 - length s * 8) (payload (s ++ x) (length (s ++ x) * 8) 0)
      eased x = f (s ++ x) (length (s ++ x) * 8) (append-alike s x) (append-end s x)
  told y (inside c f) =
      by_element
      (record {
        element = c;
        tail = λ x n.
            reads (longer-passed x n h) ∙ ap (settle l) (f (s ++ x) (length (s ++ x) * 8) (append-alike s x) (append-end s x) ∙ sym y) ∙ sym (reads h);
      })

-- Of every payload that decode refuses by 1, and whatever is lent.
pub missed : (s : List ℕ) (l : Lent) → (decode s l).answer.verdict.number ≡ 1 → Missed s l (decode s l).answer.verdict
unfolding settle accept decline syntax
missed s l e =
    let h = passed s l e in
    rw (reads h) (go (syntax s) refl (longer s (length s * 8)).grown h (rw (reads h) at e))
  where
    go : (y : Parsed Tree) → syntax s ≡ y → Grown of_payload false payload s (length s * 8) 0 y → Passed s l → (settle l y).answer.verdict.number ≡ 1 → Missed s l (settle l y).answer.verdict
    go (got t q) z g h i = absurd (omega arith)
    go (refused r) z g h i = told s l r h z (g i)
