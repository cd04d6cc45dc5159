-- The laws that a caller cites: what an answer gives, what it tells of places, and what its refusal is.
use Prim.Native.Nat.{ℕ}
use mathlib.Core.Path.{◌≡◌, sym, ◌∙◌, ap, subst}
use mathlib.Core.List.{List}
use Rattle.bits.specs.Parsed.{Parsed, Parser}
use Rattle.bits.proofs.Always.{Ok, Always}
pub use Rattle.bits.proofs.Fields.{read-lt, extended_lt}
pub use Rattle.bits.proofs.Groups.{variable-lt, variable-tells}
pub use Rattle.bits.proofs.Padding.{FirstSet, Zeros, padding-tells}
pub use Rattle.bits.proofs.Signs.{signed_lt}
pub use Rattle.bits.proofs.Tells.{About, Tells, Run, Onward, read-tells, flag-tells, skip-tells, signed-tells}

-- From a call's `ensures` and the answer that it gave, as in `gives said (read-lt _ _) c.read.ensures c.v.given.1`:
-- what the reading came to (`came`), what the value has (`gives`), and what the answer tells of places and of a refusal (`told`).
module _ {A N : Type 0} (say : N → Parsed A) {n n' : N} where
  pub came : {x : Parsed A} → say n ≡ x → n ≡ n' → x ≡ say n'
  came f g = sym f ∙ ap say g

  answered : (Q : Parsed A → Type 0) {x : Parsed A} → Q x → say n ≡ x → n ≡ n' → Q (say n')
  answered Q h f g = subst Q (came f g) h

  module _ {m : Parser A} {s : List ℕ} {e p : ℕ} where
    pub gives : {P : A → Type 0} → Always P m → say n ≡ m s e p → n ≡ n' → Ok P (say n')
    gives {P} h = answered (Ok P) (h.ok s e p)

    pub told : {R : About A} → Tells R m → say n ≡ m s e p → n ≡ n' → R s e p (say n')
    told {R} h = answered (R s e p) (h.tells s e p)
