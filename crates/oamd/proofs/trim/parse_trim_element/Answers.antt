-- The parts of a trim element, each with what follows it.
use Rattle.std.proofs.Common.{◌≡◌, ℕ, ◌≤◌, ◌≢◌, ap, cond, not, eqb, Result, Ok, arith}
use Rattle.std.proofs.lemmas.Bool.{eq-eqb, ne_eqb, le-leb, lt-leb}
use Rattle.bits.specs.Parsed.{Parser, ◌>>=◌, ◌>>◌, pure, here, require, invalid, unsupported}
use Rattle.bits.specs.Reads.{read, flag, skip}
use Rattle.bits.specs.Say.{Reads}
use Rattle.bits.specs.declared.refusals.Refusal.{Refusal}
use Rattle.bits.specs.declared.cursor.BitCursor.{BitCursor}
use Rattle.bits.proofs.Reading.{stops, then, here_is, done, on_true, on_false}
use Rattle.standard.specs.Contexts as context
use Rattle.standard.specs.Syntax.{trim}
use Rattle.bits.proofs.Reading.{passes, fails, handed_on}
use Rattle.oamd.proofs.trim.parse_trim_element.Goals as goal

unfoldable object_trims : ℕ → Parser (Unit {0})
object_trims count = do
  disabling ← flag context.per-object-trim-disable-flag
  cond disabling (skip count context.per-object-trim-disable-flags) (pure tt)

unfoldable global_trim : ℕ → Parser (Unit {0})
global_trim count = do
  at ← here
  mode ← read 2 context.global-trim-mode
  require (not (eqb mode 2)) (unsupported context.custom-trim-configuration at)
  require (not (eqb mode 3)) (invalid context.global-trim-mode at)
  object_trims count

unfoldable reserved_trim : ℕ → Parser (Unit {0})
reserved_trim count = do
  at ← here
  zeros ← read 2 context.trim-reserved-bits
  require (eqb zeros 0) (invalid context.trim-reserved-bits at)
  global_trim count

module _ (n : ℕ) {c c' c'' : BitCursor} {v : ℕ} {r : Result (Unit {0}) Refusal} where
  warped : Reads (read 2 context.trim-warp-mode) c (Ok v) c' → v ≤ 1 → Reads (reserved_trim n) c' r c'' → Reads (trim n) c r c''
  unfolding trim reserved_trim global_trim object_trims
  warped h l g = then _ here_is (then _ h (passes _ (le-leb _ _ l) g))

  reserved : Reads (read 2 context.trim-reserved-bits) c (Ok v) c' → v ≡ 0 → Reads (global_trim n) c' r c'' → Reads (reserved_trim n) c r c''
  unfolding reserved_trim
  reserved h l g = then _ here_is (then _ h (passes _ (eq-eqb _ _ l) g))

  moded : Reads (read 2 context.global-trim-mode) c (Ok v) c' → v ≢ 2 → v ≢ 3 → Reads (object_trims n) c' r c'' → Reads (global_trim n) c r c''
  unfolding global_trim
  moded h l k g = then _ here_is (then _ h (passes _ (ap not (ne_eqb _ _ l)) (passes _ (ap not (ne_eqb _ _ k)) g)))

pub returns-in_err-warp_mode : goal.returns-in_err-warp_mode
unfolding trim
returns-in_err-warp_mode c = then _ here_is (stops _ c.in_err-warp_mode.ensures.reads c.from_residual.ensures.1)

pub returns-then-warp_mode-gt1 : goal.returns-then-warp_mode-gt1
unfolding trim
returns-then-warp_mode-gt1 c =
    then _ here_is (then _ c.in_ok-warp_mode.ensures.reads (fails _ (lt-leb _ _ c.if-warp_mode-gt1.true) c.invalid.ensures))

pub returns-in_err-reserved : goal.returns-in_err-reserved
unfolding reserved_trim
returns-in_err-reserved c =
    warped _ c.in_ok-warp_mode.ensures.reads c.if-warp_mode-gt1.false (then _ here_is (stops _ c.in_err-reserved.ensures.reads c.from_residual-in_err-reserved.ensures.1))

pub returns-then-reserved-ne0 : goal.returns-then-reserved-ne0
unfolding reserved_trim
returns-then-reserved-ne0 c =
    warped _ c.in_ok-warp_mode.ensures.reads c.if-warp_mode-gt1.false (then _ here_is (then _ c.in_ok-reserved.ensures.reads (fails _ (ne_eqb _ _ c.if-reserved-ne0.true) c.invalid-then-reserved-ne0.ensures)))

pub returns-in_err-read : goal.returns-in_err-read
unfolding global_trim
returns-in_err-read c =
    warped _ c.in_ok-warp_mode.ensures.reads c.if-warp_mode-gt1.false
    (reserved _ c.in_ok-reserved.ensures.reads c.if-reserved-ne0.false (then _ here_is (stops _ c.in_err-read.ensures.reads c.from_residual-in_err-read.ensures.1)))

pub returns-in-2 : goal.returns-in-2
unfolding global_trim
returns-in-2 c =
    warped _ c.in_ok-warp_mode.ensures.reads c.if-warp_mode-gt1.false
    (reserved _ c.in_ok-reserved.ensures.reads c.if-reserved-ne0.false (then _ here_is (then _ c.in_ok-read.ensures.reads (fails _ (ap not (eq-eqb _ _ c.in-2.is)) c.unsupported.ensures))))

pub returns-in-3 : goal.returns-in-3
unfolding global_trim
returns-in-3 c =
    warped _ c.in_ok-warp_mode.ensures.reads c.if-warp_mode-gt1.false
    (reserved _ c.in_ok-reserved.ensures.reads c.if-reserved-ne0.false (then _ here_is (then _ c.in_ok-read.ensures.reads (passes _ (ap not (ne_eqb _ _ (omega (arith, c.in-3.is)))) (fails _ (ap not (eq-eqb _ _ c.in-3.is)) c.invalid-in-3.ensures)))))

pub returns-in_err-disabling : goal.returns-in_err-disabling
unfolding object_trims
returns-in_err-disabling c =
    warped _ c.in_ok-warp_mode.ensures.reads c.if-warp_mode-gt1.false
    (reserved _ c.in_ok-reserved.ensures.reads c.if-reserved-ne0.false
    (moded _ c.in_ok-read.ensures.reads (omega (arith, c.in_default)) (omega (arith, c.in_default)) (stops _ c.in_err-disabling.ensures.reads c.from_residual-in_err-disabling.ensures.1)))

pub returns-in_err-skip : goal.returns-in_err-skip
unfolding object_trims
returns-in_err-skip c =
    warped _ c.in_ok-warp_mode.ensures.reads c.if-warp_mode-gt1.false
    (reserved _ c.in_ok-reserved.ensures.reads c.if-reserved-ne0.false
    (moded _ c.in_ok-read.ensures.reads (omega (arith, c.in_default)) (omega (arith, c.in_default))
    (then _ c.in_ok-disabling.ensures.reads (on_true _ c.if-disabling.true (handed_on c.in_err-skip.ensures.reads c.from_residual-in_err-skip.ensures.1)))))

pub returns-in_ok-skip : goal.returns-in_ok-skip
unfolding object_trims
returns-in_ok-skip c =
    warped _ c.in_ok-warp_mode.ensures.reads c.if-warp_mode-gt1.false
    (reserved _ c.in_ok-reserved.ensures.reads c.if-reserved-ne0.false
    (moded _ c.in_ok-read.ensures.reads (omega (arith, c.in_default)) (omega (arith, c.in_default))
    (then _ c.in_ok-disabling.ensures.reads (on_true _ c.if-disabling.true c.in_ok-skip.ensures.reads))))

pub returns-else-disabling : goal.returns-else-disabling
unfolding object_trims
returns-else-disabling c =
    warped _ c.in_ok-warp_mode.ensures.reads c.if-warp_mode-gt1.false
    (reserved _ c.in_ok-reserved.ensures.reads c.if-reserved-ne0.false
    (moded _ c.in_ok-read.ensures.reads (omega (arith, c.in_default)) (omega (arith, c.in_default))
    (then _ c.in_ok-disabling.ensures.reads (on_false _ c.if-disabling.false done))))
