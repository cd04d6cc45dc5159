-- A format with no count is refused.
use Rattle.std.proofs.Common.{◌≡◌, ℕ, ltb, leb, get_or, replicate, Option, None, Some, sym, arith}
use Rattle.std.proofs.lemmas.Bool.{le-leb, lt-leb, ltb-true, ltb-false}
use Rattle.std.specs.Borrow.{Bor}
use Rattle.std.specs.Option.{is_some, option_copied, option_map, ok_or, unwrap_or}
use Rattle.bits.specs.Parsed.{Refusal, ◌>>◌, pure, require}
use Rattle.bits.specs.Say.{ReadsAs, refusal}
use Rattle.bits.specs.declared.cursor.BitCursor.{BitCursor}
use Rattle.bits.specs.declared.refusals.Refusal.{Refusal as Told}
use Rattle.bits.proofs.Reading.{stops, then, here_is, done}
use Rattle.standard.specs.Tree.{isf}
use Rattle.standard.specs.Assignment.{isfs, isf_counts}
use Rattle.bits.proofs.Reading.{passes, fails}
use Rattle.assignment.proofs.contents.read_isf_count.Goals as goal

pub returns-in_err-format : goal.returns-in_err-format
unfolding isfs
returns-in_err-format c = then _ here_is (stops _ c.in_err-format.ensures.reads c.from_residual.ensures.1)

-- what is looked up is what is required
module _ (format : ℕ) (e : Told) {z : Refusal} {c : BitCursor} where
  looked-up : (found : Option (Bor ℕ)) → refusal e ≡ z → is_some found ≡ ltb format 6 → unwrap_or (option_map (λ x. x.now) found) 0 ≡ get_or isf_counts format 0 →
      ReadsAs (λ n. replicate n isf) (require (leb format 5) z >> pure (replicate (get_or isf_counts format 0) isf)) c (ok_or (option_copied found) e) c
  looked-up None r h g = fails _ (lt-leb format 5 (omega (arith, ltb-false format 6 (sym h)))) r
  looked-up (Some x) r h g = rw (← g) (passes _ (le-leb format 5 (omega (arith, ltb-true format 6 (sym h)))) done)

pub returns : goal.returns
unfolding isfs isf_counts
returns c =
    let found = c.get.ensures.lookup in
    rw (c.ok_or.ensures.value, c.copied.ensures) (then _ here_is (then _ c.in_ok-format.ensures.reads (looked-up _ _ _ c.invalid.ensures found.0 (found.4 (omega arith) 0))))
