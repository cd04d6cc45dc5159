-- The value is cut out of the field of whole bytes.
use Rattle.std.proofs.Common.{◌≡◌, ℕ, ◌+◌, ◌-◌, ◌*◌, ◌/◌, ◌%◌, ◌^◌, ◌≤◌, ◌<◌, List, sym, ap, ◌∙◌, arith}
use lib.Pow.{pow_mono}
use Rattle.bits.specs.Bits.{field}
use Rattle.bits.proofs.Fields.{field_lt}
use Rattle.bits.proofs.Covered.{byte_more, field-within}
use Rattle.bits.proofs.bytes.bits_from.Goals as goal

-- what was fetched before the last byte has 16 bits at most
small : (s : List ℕ) (p w : ℕ) → w ≤ 16 → field s p w < 2 ^ 16
small s p w h = omega (arith, field_lt s p w, pow_mono h)

pub returns-then-width-eq0 : goal.returns-then-width-eq0
unfolding field
returns-then-width-eq0 c = rw c.if-width-eq0.true

pub loop-index-init : goal.loop-index-init
unfolding field
loop-index-init c = let none : (c.args.from / 8 - c.args.from / 8) * 8 ≡ 0 = omega arith in rw none

pub overflow_mul-value : goal.overflow_mul-value
overflow_mul-value c =
    rw c.loop-index.invariant (omega (arith, small c.args.payload.now (c.args.from / 8 * 8) ((c.loop-index.index - c.args.from / 8) * 8) (omega (arith, c.loop-index-test.true))))

pub overflow_add-value : goal.overflow_add-value
overflow_add-value c =
    rw c.loop-index.invariant (omega (arith, small c.args.payload.now (c.args.from / 8 * 8) ((c.loop-index.index - c.args.from / 8) * 8) (omega (arith, c.loop-index-test.true))))

pub loop-index-preserved : goal.loop-index-preserved
loop-index-preserved c =
    let fetched = (c.loop-index.index - c.args.from / 8) * 8 in
    let more : (c.loop-index.index + 1 - c.args.from / 8) * 8 ≡ fetched + 8 = omega (arith, c.loop-index.auto.index) in
    rw (c.loop-index.invariant, c.byte_at.ensures, more)
    (sym (byte_more c.args.payload.now (c.args.from / 8 * 8) fetched c.loop-index.index (omega (arith, c.loop-index.auto.index)) (rw (← c.byte_at.ensures) (omega arith))))

pub returns : goal.returns
returns c =
    let first = c.args.from / 8 * 8 in
    let fetched = (c.loop-index.index - c.args.from / 8) * 8 in
    let e : c.args.from ≡ first + c.args.from % 8 = omega arith in
    let all : c.loop-index.index ≡ (c.args.from + c.args.width - 1) / 8 + 1 = omega (arith, c.loop-index-test.false, c.loop-index.auto.index-end) in
    let b : 7 - (c.args.from + c.args.width - 1) % 8 ≡ fetched - (c.args.from % 8 + c.args.width) = omega (arith, all) in
    let w = field-within c.args.payload.now first (c.args.from % 8) c.args.width fetched (omega (arith, all)) in
    rw (c.cut.ensures, c.loop-index.invariant)
    (ap (λ k. field c.args.payload.now first fetched / 2 ^ k % 2 ^ c.args.width) b ∙ sym (ap (λ p. field c.args.payload.now p c.args.width) e ∙ w))
