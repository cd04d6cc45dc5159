-- Where the words are refused, the place is put back.
use Rattle.std.proofs.Common.{◌≡◌, false, Result, Ok, Err, refl, sym, ◌∙◌}
use Rattle.std.specs.Prelude.{is_err, OnErr}
use Rattle.std.proofs.lemmas.Bool.{false≢true}
use Rattle.bits.proofs.Reading.{put_back}
use Rattle.update.proofs.read_update.Goals as goal

module _ {V E : Type 0} (P : Type 0) where
  either_way : (r : Result V E) → P → OnErr r P
  either_way (Ok v) p = tt
  either_way (Err e) p = p

  accepted : (r : Result V E) → is_err r ≡ false → OnErr r P
  accepted (Ok v) h = tt
  accepted (Err e) h = absurd (false≢true (sym h))

pub returns-then-is_err-clause-reads : goal.returns-then-is_err-clause-reads
returns-then-is_err-clause-reads c =
    let h = c.read_words-answer.ensures in
    put_back _ (sym c.is_err.ensures.value ∙ c.if-is_err.true) h.bytes h.end h

pub returns-then-is_err-clause-stays : goal.returns-then-is_err-clause-stays
returns-then-is_err-clause-stays c =
    let h = c.read_words-answer.ensures in
    rw (h.bytes, h.end) (either_way (c.args.bits.now ≡ c.args.bits.now) _ refl)

pub returns-else-is_err-clause-stays : goal.returns-else-is_err-clause-stays
returns-else-is_err-clause-stays c = accepted _ _ (sym c.is_err.ensures.value ∙ c.if-is_err.false)
