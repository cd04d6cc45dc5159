-- What stands at the head of a list, by its length, its mark and its length field.
use Rattle.std.proofs.Common.{◌≡◌, ℕ, ◌+◌, ◌*◌, ◌-◌, ◌≤◌, ◌<◌, false, cond, List, [], ◌∷◌, length, get_or, take, drop, Result, Ok, Err, refl, arith, le-leb}
use borrow.Author.Tests.{eq-eqb, lt-leb}
use lib.Dec.{eqb, leb}
use lib.Seq.{take_all}
use mathlib.Core.Bool.{◌&&◌}
use Rattle.standard.specs.Journal.{payload, whole, more, payload_step, step}
use Rattle.journals.specs.Say.{said_record}
use Rattle.journals.specs.Promises.{Stepped}
use Rattle.journals.specs.declared.records.Record.{Record}
use Rattle.journals.specs.declared.records.Record.TheVariants.{Gap, Reset, Start}
use Rattle.journals.specs.declared.records.Found.{Found}
use Rattle.journals.specs.declared.records.Pause.{Pause}
use Rattle.journals.specs.declared.records.Pause.TheVariants.{More, Unknown}

-- Behind a payload's mark

pub no_length : (s : List ℕ) → length s < 2 → Stepped (payload_step s) (2 + length s) (Err More)
unfolding payload_step
no_length [] h = record { said = refl; placed = omega arith }
no_length (a ∷ []) h = record { said = refl; placed = omega arith }
no_length (a ∷ b ∷ s) h = absurd (omega arith)

abbrev length_field : List ℕ → ℕ
length_field s = get_or s 0 0 * 256 + get_or s 1 0

-- what follows it
abbrev rest : List ℕ → List ℕ
rest s = take (length s - 2) (drop 2 s)

rest-all : (a b : ℕ) (s : List ℕ) → rest (a ∷ b ∷ s) ≡ s
rest-all a b s = take_all (length (a ∷ b ∷ s) - 2) s (omega arith)

payload-headed : (s : List ℕ) → 2 ≤ length s → let n = length_field s in payload_step s ≡ cond (leb n (length (rest s))) (whole (payload (take n (rest s))) (n + 4)) more
unfolding payload_step
payload-headed [] h = absurd (omega arith)
payload-headed (a ∷ []) h = absurd (omega arith)
payload-headed (a ∷ b ∷ s) h = rw (rest-all a b s)

rest-length : (s : List ℕ) → 2 ≤ length s → 2 + length (rest s) ≡ length s
rest-length [] h = absurd (omega arith)
rest-length (a ∷ []) h = absurd (omega arith)
rest-length (a ∷ b ∷ s) h = rw (rest-all a b s) (omega arith)

module _ (s : List ℕ) (headed : 2 ≤ length s) {n : ℕ} (e : n ≡ length_field s) where
  pub no_payload : length (rest s) < n → n < 65536 → Stepped (payload_step s) (2 + length s) (Err More)
  no_payload h few = record { said = rw (payload-headed s headed, ← e, lt-leb _ _ h); placed = omega (arith, rest-length s headed) }

  pub whole-payload : n ≤ length (rest s) → {f : Found} → said_record f.what ≡ payload (take n (rest s)) → f.length ≡ 4 + n → Stepped (payload_step s) (2 + length s) (Ok f)
  whole-payload h {f} g k =
      let size : f.length ≡ n + 4 = omega arith in
      record { said = rw (payload-headed s headed, ← e, le-leb _ _ h, g, size); placed = (omega arith, omega (arith, rest-length s headed)) }

-- By the mark, the first two bytes

abbrev marked : List ℕ → ℕ → ℕ → Type 0
marked s a b = (get_or s 0 0 ≡ a) × (get_or s 1 0 ≡ b)

pub no-mark : (s : List ℕ) → length s < 2 → Stepped (step s) (length s) (Err More)
unfolding step
no-mark [] h = record { said = refl; placed = omega arith }
no-mark (a ∷ []) h = record { said = refl; placed = omega arith }
no-mark (a ∷ b ∷ s) h = absurd (omega arith)

pub payload-found : (s : List ℕ) {f : Result Found Pause} → 2 ≤ length s → marked s 80 76
    → Stepped (payload_step (rest s)) (2 + length (rest s)) f → Stepped (step s) (length s) f
unfolding step
payload-found [] h m p = absurd (omega arith)
payload-found (a ∷ []) h m p = absurd (omega arith)
payload-found (a ∷ b ∷ s) {f} h m p =
    let long : 2 + length s ≡ length (a ∷ b ∷ s) = omega arith in
    rw (eq-eqb a 80 m.0, eq-eqb b 76 m.1) (rw (rest-all a b s, long) at p)

-- a record that is its mark alone
abbrev bare : Record → Found
bare k = record { what = k; length = 2 }

pub gap-found : (s : List ℕ) {f : Found} → 2 ≤ length s → marked s 71 80 → f ≡ bare Gap → Stepped (step s) (length s) (Ok f)
unfolding step
gap-found [] h m e = absurd (omega arith)
gap-found (a ∷ []) h m e = absurd (omega arith)
gap-found (a ∷ b ∷ s) h m e = rw (m.0, m.1, e) (record { said = refl; placed = (omega arith, h) })

pub reset-found : (s : List ℕ) {f : Found} → 2 ≤ length s → marked s 82 83 → f ≡ bare Reset → Stepped (step s) (length s) (Ok f)
unfolding step
reset-found [] h m e = absurd (omega arith)
reset-found (a ∷ []) h m e = absurd (omega arith)
reset-found (a ∷ b ∷ s) h m e = rw (m.0, m.1, e) (record { said = refl; placed = (omega arith, h) })

pub start-found : (s : List ℕ) {f : Found} → 2 ≤ length s → marked s 80 83 → f ≡ bare Start → Stepped (step s) (length s) (Ok f)
unfolding step
start-found [] h m e = absurd (omega arith)
start-found (a ∷ []) h m e = absurd (omega arith)
start-found (a ∷ b ∷ s) h m e = rw (m.0, m.1, e) (record { said = refl; placed = (omega arith, h) })

-- and no mark of these
pub unknown-mark : (s : List ℕ) → 2 ≤ length s → (marked s 80 76 → ⊥) → (marked s 71 80 → ⊥) → (marked s 82 83 → ⊥) → (marked s 80 83 → ⊥) → Stepped (step s) (length s) (Err Unknown)
unfolding step
unknown-mark [] h p g r t = absurd (omega arith)
unknown-mark (a ∷ []) h p g r t = absurd (omega arith)
unknown-mark (a ∷ b ∷ s) h p g r t =
    record { said = rw (neither 80 76 p, neither 71 80 g, neither 82 83 r, neither 80 83 t); placed = tt }
  where
    neither : (x y : ℕ) → (marked (a ∷ b ∷ s) x y → ⊥) → (eqb a x && eqb b y) ≡ false
    neither x y h = grind arith
