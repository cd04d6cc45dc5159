-- What is left to read is a flag and what it asks for, of the value so far.
use Rattle.std.proofs.Common.{ℕ, ◌+◌, ◌*◌, ◌^◌, ◌≤◌, ◌<◌, true, false, min, ap, arith, Result, Ok, Err}
use lib.Pow.{pow_mono}
use native.Mathlib.Nat.{mul-le-mul_left}
use Rattle.bits.specs.declared.refusals.Fault.{Fault}
use Rattle.bits.specs.declared.cursor.BitCursor.{BitCursor}
use Rattle.bits.proofs.Reading.{HandsOn, then, stops, done, has, tells}
use Rattle.standard.specs.Container.{bits, flag}
use Rattle.emdf.specs.Say.{ReadsContainer, large}
use Rattle.emdf.proofs.Cuts.{bits-lt, bits-tells, flag-whole}
use Rattle.emdf.proofs.Kept.{later, flag-then, variable-then}
use Rattle.emdf.proofs.Reading.{same_here}
use Rattle.emdf.proofs.variable.read_variable_bits.Goals as goal

pub returns-in_err-value : goal.returns-in_err-value
returns-in_err-value c = same_here (variable-then _ _ _ _) (stops _ c.in_err-value.ensures c.from_residual.ensures.1)

first-small : (w g : ℕ) → w ≤ 11 → g < 2 ^ w → g ≤ large
first-small w g h l = omega (arith, pow_mono {j = 11} h)

pub loop-bits-init : goal.loop-bits-init
loop-bits-init c = record {
  small = first-small _ _ c.requires (has (bits-lt _) c.in_ok-value.ensures);
  rest = λ r d h. same_here (variable-then _ _ _ _) (then _ c.in_ok-value.ensures h);
}

module _ (w first v : ℕ) (small : v ≤ large) {c c' : BitCursor} where
  -- the flag is cut short, or it ends the number
  flag_cut : {e : Fault} {r : Result ℕ Fault} → ReadsContainer flag c (Err e) c' → HandsOn e r → ReadsContainer (later w first v) c r c'
  flag_cut h x = same_here (flag-then w first v small _ _ _) (stops _ h x)

  last_group : ReadsContainer flag c (Ok false) c' → ReadsContainer (later w first v) c (Ok v) c'
  last_group h = same_here (flag-then w first v small _ _ _) (then _ h done)

  -- another group is cut short, or it is read
  module _ (more : ReadsContainer flag c (Ok true) c') {c'' : BitCursor} where
    group_cut : {e : Fault} {r : Result ℕ Fault} → ReadsContainer (bits w) c' (Err e) c'' → HandsOn e r → ReadsContainer (later w first v) c r c''
    group_cut h x = same_here (flag-then w first v small _ _ _) (then _ more (stops _ h x))

    next_group : {g : ℕ} {r : Result ℕ Fault} {d : BitCursor} → ReadsContainer (bits w) c' (Ok g) c'' → ReadsContainer (later w first (min (v * 2 ^ w + 2 ^ w + g) large)) c'' r d → ReadsContainer (later w first v) c r d
    next_group h i = same_here (flag-then w first v small _ _ _) (then _ more (then _ h i))

pub returns-in_err-read_flag : goal.returns-in_err-read_flag
returns-in_err-read_flag c =
    c.loop-bits.invariant.rest _ _ (flag_cut _ _ _ c.loop-bits.invariant.small c.in_err-read_flag.ensures c.from_residual-in_err-read_flag.ensures.1)

pub returns : goal.returns
returns c =
    c.loop-bits.invariant.rest _ _ (last_group _ _ _ c.loop-bits.invariant.small (rw c.if-branch.false at c.in_ok-read_flag.ensures))

pub returns-in_err-group : goal.returns-in_err-group
returns-in_err-group c =
    c.loop-bits.invariant.rest _ _ (group_cut _ _ _ c.loop-bits.invariant.small (rw c.if-branch.true at c.in_ok-read_flag.ensures) c.in_err-group.ensures c.from_residual-in_err-group.ensures.1)

pub loop-bits-preserved : goal.loop-bits-preserved
loop-bits-preserved c = record {
  small = omega (arith, c.min-value.ensures);
  rest = λ r d h. c.loop-bits.invariant.rest _ _ (next_group _ _ _ c.loop-bits.invariant.small (rw c.if-branch.true at c.in_ok-read_flag.ensures) c.in_ok-group.ensures (rw (c.min-value.ensures, c.two_to-span.ensures) at h));
}

pub loop-bits-smaller : goal.loop-bits-smaller
loop-bits-smaller c =
    omega (arith, tells flag-whole c.in_ok-read_flag.ensures, tells (bits-tells _) c.in_ok-group.ensures, ap (λ b. b.0) c.in_ok-read_flag.ensures.end, ap (λ b. b.0) c.in_ok-group.ensures.end)

-- the value with a group more
fits : (w v g : ℕ) → w ≤ 11 → v ≤ large → g < 2 ^ w → v * 2 ^ w + 2 ^ w + g < 2 ^ 32
fits w v g h l k =
    let p : 2 ^ w ≤ 2048 = pow_mono {j = 11} h in
    omega (arith, mul-le-mul_left v p)

more-fits : (c : goal.In_ok-group) → c.loop-bits.value * c.two_to-span.result + c.two_to-span.result + c.in_ok-group.group < 2 ^ 32
more-fits c = rw c.two_to-span.ensures (fits _ _ _ c.requires c.loop-bits.invariant.small (has (bits-lt _) c.in_ok-group.ensures))

pub overflow_mul-value : goal.overflow_mul-value
overflow_mul-value c = omega (arith, more-fits c)

pub overflow_add-value : goal.overflow_add-value
overflow_add-value c = omega (arith, more-fits c)

pub overflow_add-value-in-loop-bits : goal.overflow_add-value-in-loop-bits
overflow_add-value-in-loop-bits c = omega (arith, more-fits c)
