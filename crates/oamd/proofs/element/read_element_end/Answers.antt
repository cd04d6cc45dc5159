-- The size has 4 groups of 4 bits, so an element is shorter than 2 to the 32nd bits, and what remained before its end too.
use Rattle.std.proofs.Common.{◌≡◌, ℕ, ◌+◌, ◌<◌, ◌≤◌, Ok, Err, refl, ap, arith}
use Rattle.std.proofs.lemmas.Bool.{le-leb, lt-leb}
use Rattle.bits.specs.Reads.{variable_bits}
use Rattle.bits.specs.Say.{Reads}
use Rattle.bits.specs.declared.cursor.BitCursor.{BitCursor}
use Rattle.bits.proofs.Groups.{variable-lt, variable-tells}
use Rattle.bits.proofs.Reading.{stops, stops_with, then, then_with, here_is, done, has, tells}
use Rattle.standard.specs.Syntax.{element_size}
use Rattle.oamd.specs.Head.{element_end}
use Rattle.oamd.specs.Say.{said_place}
use Rattle.bits.proofs.Reading.{passes, fails, end_is}
use Rattle.oamd.proofs.element.read_element_end.Goals as goal

-- at most 69,904 bytes, and the place after their number is within the limit
sized : {b b' : BitCursor} {n : ℕ} (k : ℕ) → Reads (variable_bits 4 3 k) b (Ok n) b' → (n < 69904) × (b'.position.0 ≤ b'.limit.0) × (b'.limit.0 ≡ b.limit.0)
sized k h =
    let e = ap (λ l. l.0) h.end in
    (has (variable-lt 4 k (omega arith)) h, rw (← e) at (tells (variable-tells 4 k 3) h).1, e)

pub returns-in_err-size_bits : goal.returns-in_err-size_bits
unfolding element_end element_size
returns-in_err-size_bits c = stops _ (stops_with {say' = λ n. n} (λ n. n + 1) {r = Err _} c.in_err-size_bits.ensures.reads refl) c.from_residual.ensures.1

pub overflow_add-result : goal.overflow_add-result
overflow_add-result c = omega (arith, sized _ c.in_ok-size_bits.ensures.reads, c.bits-element_bits.ensures)

pub overflow_sub-remained : goal.overflow_sub-remained
overflow_sub-remained c = omega (arith, sized _ c.in_ok-size_bits.ensures.reads)

pub overflow_cast-element_bits : goal.overflow_cast-element_bits
overflow_cast-element_bits c = omega (arith, sized _ c.in_ok-size_bits.ensures.reads, c.bits-element_bits.ensures)

pub overflow_cast-remained : goal.overflow_cast-remained
overflow_cast-remained c = omega (arith, sized _ c.in_ok-size_bits.ensures.reads)

pub returns-then-element_bits-remained : goal.returns-then-element_bits-remained
unfolding element_end element_size
returns-then-element_bits-remained c =
    then _ (then_with (λ n. n + 1) c.in_ok-size_bits.ensures.reads) (then _ here_is (then _ end_is (fails _ (lt-leb _ _ (omega (arith, c.if-element_bits-remained.true, c.bits-element_bits.ensures))) (rw c.bits-element_bits.ensures at c.truncated.ensures))))

pub returns : goal.returns
unfolding element_end element_size
returns c =
    then _ (then_with (λ n. n + 1) c.in_ok-size_bits.ensures.reads) (then _ here_is (then _ end_is (passes _ (le-leb _ _ (omega (arith, c.if-element_bits-remained.false, c.bits-element_bits.ensures))) (rw c.bits-element_bits.ensures (done {say = said_place})))))
