-- A field is a run passed over, with its value.
use Rattle.std.proofs.Common.{◌≡◌, ℕ, ◌+◌, List, Bool, true, false, cond, leb, refl, ◌∙◌, arith}
use Rattle.bits.specs.Bits.{field}
use Rattle.bits.specs.Parsed.{Refusal, got, refused, map_parsed}
use Rattle.bits.specs.Reads.{read, skip}
use Rattle.bits.proofs.Tells.{skip-tells}
use Rattle.bits.proofs.Reading.{falls, tells}
use Rattle.bits.proofs.cursor.BitCursor.read.Goals as goal

read-skip : (w c : ℕ) (s : List ℕ) (e p : ℕ) → read w c s e p ≡ map_parsed (λ u. field s p w) (skip w c s e p)
unfolding read skip
read-skip w c s e p = go (leb (p + w) e) _
  where
    go : (b : Bool) (r : Refusal) → cond b (got (field s p w) (p + w)) (refused r) ≡ map_parsed (λ u. field s p w) (cond b (got (tt {0}) (p + w)) (refused r))
    go true r = refl
    go false r = refl

pub returns-in_err-skip-clause-reads : goal.returns-in_err-skip-clause-reads
returns-in_err-skip-clause-reads c =
    falls _ _ (λ s e p r is. read-skip _ _ s e p ∙ rw is refl) _ c.in_err-skip.ensures.reads c.from_residual.ensures.1

pub bits_from-requires : goal.bits_from-requires
bits_from-requires c =
    let t = tells (skip-tells _ _) c.in_ok-skip.ensures.reads in
    omega (arith, t)

pub returns-clause-reads : goal.returns-clause-reads
returns-clause-reads c = record {
  answer = rw (c.bits_from.ensures, read-skip, ← c.in_ok-skip.ensures.reads.answer, c.in_ok-skip.ensures.reads.bytes) refl;
  bytes = c.in_ok-skip.ensures.reads.bytes;
  end = c.in_ok-skip.ensures.reads.end;
}
