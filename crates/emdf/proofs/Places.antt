-- Where a container's readings leave the place: a header takes a bit at least, and ends within the container.
use Prim.Native.Nat.{ℕ, suc, ◌+◌, ◌-◌, ◌≤◌, ◌<◌}
use mathlib.Core.Bool.{Bool, not}
use mathlib.Core.List.{List}
use native.Mathlib.Omega.{arith}
use lib.Dec.{eqb}
use Rattle.bits.specs.Parsed.{Parsed, got, refused, Parser, and_then, map_parsed, ◌>>=◌, map_p}
use Rattle.bits.proofs.Groups.{variable-tells}
use Rattle.bits.proofs.Tells.{About, Tells, Within, within, instead, stays, chosen, along, next, made, required}
use Rattle.standard.specs.Container.{or_ends_early, pass, variable, extended, passed, if_set, flagged, handling, after_offset, config, Header, header}
use Rattle.emdf.specs.Say.{near_header}
use Rattle.emdf.proofs.Cuts.{Whole, bits-tells, flag-whole, pass-tells}

module _ {A : Type 0} where
  -- a bit at least, and no further than the end
  abbrev pub Forward : About A
  Forward s e p (got a q) = (p < q) × (q ≤ e)
  Forward s e p (refused r) = Unit {0}

  whole-within : (w : ℕ) {m : Parser A} → Tells (Whole w) m → Tells Within m
  whole-within w {m} h = record { tells = λ s e p. go s e p (m s e p) (h.tells s e p) }
    where
      go : (s : List ℕ) (e p : ℕ) (x : Parsed A) → Whole w s e p x → Within s e p x
      go s e p (got a q) k = omega arith
      go s e p (refused r) k = tt

  -- some bits
  whole-forward : (w : ℕ) {m : Parser A} → Tells (Whole (suc w)) m → Tells Forward m
  whole-forward w {m} h = record { tells = λ s e p. go s e p (m s e p) (h.tells s e p) }
    where
      go : (s : List ℕ) (e p : ℕ) (x : Parsed A) → Whole (suc w) s e p x → Forward s e p x
      go s e p (got a q) k = omega arith
      go s e p (refused r) k = tt

  from : (s : List ℕ) (e p q : ℕ) (x : Parsed A) → p < q → q ≤ e → Within s e q x → Forward s e p x
  from s e p q (got a q') l h k = omega arith
  from s e p q (refused r) l h k = tt

further : {A B : Type 0} {m : Parser A} (f : A → Parser B) → Tells Forward m → ((a : A) → Tells Within (f a)) → Tells Forward (m >>= f)
unfolding ◌>>=◌
further {A} {B} {m} f h g = record { tells = λ s e p. go s e p (m s e p) (h.tells s e p) }
  where
    go : (s : List ℕ) (e p : ℕ) (x : Parsed A) → Forward s e p x → Forward s e p (and_then x (λ a q. f a s e q))
    go s e p (got a q) (k, l) = from s e p q (f a s e q) k l ((g a).tells s e q)
    go s e p (refused r) k = tt

pass-within : (w : ℕ) → Tells Within (pass w)
pass-within w = whole-within w (pass-tells w)

variable-within : (w : ℕ) → Tells Within (variable w)
unfolding variable or_ends_early
variable-within w = record { tells = λ s e p. (within (instead _ (variable-tells w 0 (e - p)))).tells s e p }

extended-forward : (w : ℕ) → Tells Forward (extended (suc w))
unfolding extended
extended-forward w = further _ (whole-forward w (bits-tells (suc w))) λ v. chosen (eqb v _) (made (λ more. v + more) (variable-within (suc w))) (stays v)

if-within : (b : Bool) {m : Parser (Unit {0})} → Tells Within m → Tells Within (if_set b m)
unfolding if_set
if-within b h = chosen b h (stays tt)

flagged-within : {m : Parser (Unit {0})} → Tells Within m → Tells Within (flagged m)
unfolding flagged
flagged-within h = along _ (whole-within 1 flag-whole) λ b. if-within b h

passed-within : (w : ℕ) → Tells Within (passed (variable w))
unfolding passed
passed-within w = made (λ n. tt) (variable-within w)

config-within : Tells Within config
unfolding config after_offset handling
config-within =
    along _ (whole-within 1 flag-whole) λ offset. next (if-within offset (pass-within 12)) (next (flagged-within (passed-within 11))
    (next (flagged-within (passed-within 2)) (next (flagged-within (pass-within 8)) (along _ (whole-within 1 flag-whole)
    λ discard. if-within (not discard) (chosen offset (pass-within 7) (flagged-within (pass-within 9)))))))

pub header-forward : Tells Forward header
unfolding header
header-forward =
    further _ (extended-forward 4) λ id. next (required (not (eqb id 0)) _) (next config-within (along _ (variable-within 8) λ n. stays _))

-- so does what is kept of it
pub near-header-forward : Tells Forward (map_p near_header header)
unfolding map_p
near-header-forward = record { tells = λ s e p. go s e p (header s e p) (header-forward.tells s e p) }
  where
    go : (s : List ℕ) (e p : ℕ) (x : Parsed Header) → Forward s e p x → Forward s e p (map_parsed near_header x)
    go s e p (got h q) k = k
    go s e p (refused r) k = tt
