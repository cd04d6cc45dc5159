-- A play that does nothing breaks the promise: 2^64 - 1 steps use a record or leave bytes, and a last line is not empty.
use Rattle.std.proofs.Common.{◌≡◌, ℕ, suc, ◌+◌, ◌^◌, ◌<◌, ◌≤◌, List, [], length, Ok, refl, ap, ◌∙◌, length-append, arith}
use native.Mathlib.Nat.{mod-eq_of_lt}
use Rattle.standard.specs.Journal.{last_line}
use Rattle.journals.specs.Texts.{ending_text}
use Rattle.journals.specs.Runs as runs
use Rattle.journals.specs.Runs.{Standing, at_start, Goes, Closed, Ran}
use Rattle.journals.proofs.Running.{closing}
use Rattle.journals.specs.declared.lines.Ending.{Ending}
use Rattle.journals.specs.declared.lines.Ending.TheVariants.{Complete, Torn, BadMark, Fault}
use Rattle.journal.specs.Steps.{Brings, steps, Fed, WaitsBehind, Played, on, over, faulted, failed}

-- after n steps: while no record is used, each has left a byte
record Used (n : ℕ) (p : Standing) : Type 0 where
  few : p.records ≤ n
  fed : p.records ≡ 0 → n ≤ length p.unused

more-used : {n : ℕ} {p q : Standing} {part text : List ℕ} → suc n < 2 ^ 64 → Used n p → (g : Goes p part text q) → Brings g → Used (suc n) q
more-used {n} {p} h u (runs.prints c) b =
    let next : runs.counted p.records 1 ≡ p.records + 1 = mod-eq_of_lt (omega (arith, u.few)) in
    record { few = omega (arith, next, u.few); fed = λ e. absurd (omega (arith, next)) }
more-used {n} {p} h u (runs.arrives c part) b =
    record { few = omega (arith, u.few); fed = λ e. omega (arith, u.fed e, length-append p.unused part) }

used : {s text : List ℕ} {p : Standing} (r : Ran s text p) → Fed r → steps r < 2 ^ 64 → Used (steps r) p
unfolding at_start
used runs.begins f h = record { few = omega arith; fed = λ e. omega arith }
used (runs.goes r g) f h = more-used h (used r f.0 (omega arith)) g f.1

no-bytes : length at_start.unused ≡ 0
unfolding at_start
no-bytes = refl

no_records : at_start.records ≡ 0
unfolding at_start
no_records = refl

some-text : (n : ℕ) (e : Ending) → 0 < length (ending_text n e)
unfolding last_line
some-text n Complete = omega arith
some-text n (Torn at) = omega arith
some-text n (BadMark at) = omega arith
some-text n (Fault at) = omega arith

none-waits : {n : ℕ} {e : Ending} {last : List ℕ} → Closed n e last → WaitsBehind last [] → ⊥
none-waits {n} {e} c w =
    let size = ap length w.1 ∙ length-append w.0 _ in
    omega (arith, size, ap length (closing c), some-text n e)

pub idle-breaks : Played (Ok tt) at_start [] → ⊥
idle-breaks (on handed f run n fed h) =
    let u = used run fed (omega (arith, n)) in
    omega (arith, u.fed no_records, no-bytes, n)
idle-breaks (over handed f a b c h l k) = none-waits c l
idle-breaks (faulted handed f a b c h l k) = none-waits c l
idle-breaks (failed f) = let z : ⊥ = cc in z
