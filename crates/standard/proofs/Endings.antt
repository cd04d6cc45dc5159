-- The ways in which decode ends: what holds of each holds of decode, for every payload and whatever is lent.
use Prim.Native.Nat.{ℕ, ◌*◌, ◌≤◌}
use mathlib.Core.Path.{◌≡◌, refl}
use mathlib.Core.Bool.{Bool, true, false, cond}
use mathlib.Core.List.{List}
use native.Mathlib.Omega.{arith}
use borrow.Author.Tests.{leb-true}
use lib.Dec.{leb}
use lib.ListN.{length}
use Rattle.bits.specs.Parsed.{Refusal, Parsed, got, refused}
use Rattle.bits.proofs.Always.{Ok}
use Rattle.standard.specs.Numbers.{payload_limit}
use Rattle.standard.specs.Numbers as number
use Rattle.standard.specs.Tree.{Tree}
use Rattle.standard.specs.Syntax.{syntax}
use Rattle.standard.specs.Meaning.{taken}
use Rattle.standard.specs.Tables.{state_of, in_form}
use Rattle.standard.specs.Calls.{Lent, Done, unchanged, has_room, accept, decline, settle, decode}
use Rattle.standard.proofs.Payload.{InTree}
use Rattle.standard.proofs.FirstUpdates.{TreeForm, first_block}
use Rattle.standard.proofs.Words.{WordsOk, words-ok}
use Rattle.standard.proofs.Counts.{Sized, sized}
use Rattle.standard.proofs.Bounds.{Bounded, bounded}

-- what every accepted payload's tree has
pub record Fit (t : Tree) : Type 0 where
  pub first : TreeForm t
  pub words : InTree WordsOk t
  pub sized : Sized t

pub fit : (s : List ℕ) → Ok Fit (taken s)
fit s = go (taken s) (first_block s) (words-ok s) (sized s)
  where
    go : (p : Parsed Tree) → Ok TreeForm p → Ok (InTree WordsOk) p → Ok Sized p → Ok Fit p
    go (got t q) f w n = record { first = f; words = w; sized = n }
    go (refused r) f w n = tt

-- the tests 5, 6 and 7 are passed
pub record Passed (s : List ℕ) (l : Lent) : Type 0 where
  pub room : has_room l ≡ true
  pub form : in_form l.retained ≡ true
  pub size : length s ≤ payload_limit

-- refused before it is read; refused within; accepted
pub ends : (P : Done → Type 0) (s : List ℕ) (l : Lent)
    → ((n : ℕ) → number.room ≤ n → n ≤ number.size → P (unchanged l n))
    → (Passed s l → (r : Refusal) → Bounded (length s * 8) r → P (decline l r))
    → (Passed s l → (t : Tree) → Fit t → P (accept l (state_of l.retained) t))
    → P (decode s l)
unfolding decode settle taken
ends P s l unread declined accepted = go (has_room l) (in_form l.retained) (leb (length s) payload_limit) refl refl refl
  where
    read : (p : Parsed Tree) → syntax s ≡ p → Ok Fit p → Passed s l → P (settle l p)
    read (got t q) e f h = accepted h t f
    read (refused r) e f h = declined h r (bounded s e)

    go : (x y z : Bool) → has_room l ≡ x → in_form l.retained ≡ y → leb (length s) payload_limit ≡ z
        → P (cond x (cond y (cond z (settle l (syntax s)) (unchanged l number.size)) (unchanged l number.form)) (unchanged l number.room))
    go false y z hx hy hz = unread number.room (omega arith) (omega arith)
    go true false z hx hy hz = unread number.form (omega arith) (omega arith)
    go true true false hx hy hz = unread number.size (omega arith) (omega arith)
    go true true true hx hy hz = read (syntax s) refl (rw hz at (fit s)) (record { room = hx; form = hy; size = leb-true _ _ hz })
