-- What is left of each byte is passed over as a field.
use Rattle.std.proofs.Common.{refl, sym, ◌∙◌, arith}
use Rattle.bits.proofs.Fields.{field_lt}
use Rattle.bits.proofs.Padding.{padding-ends, padding-passes, padding-stops}
use Rattle.bits.proofs.cursor.BitCursor.consume_zero_padding.Goals as goal

pub zeros_before-requires : goal.zeros_before-requires
zeros_before-requires c =
    (omega (arith, c.if-rest-ne0.true), (omega (arith, c.min-width.ensures), rw c.bits_from-rest.ensures (field_lt _ _ _)))

pub returns-then-rest-ne0-clause-reads : goal.returns-then-rest-ne0-clause-reads
returns-then-rest-ne0-clause-reads c = record {
  answer = rw (c.invalid.ensures, ← c.loop-place.invariant)
      (sym (padding-stops _ _ _ _ c.min-width.result _ (omega (arith, c.min-width.ensures)) c.zeros_before.ensures.0 (rw (← c.bits_from-rest.ensures) c.zeros_before.ensures.1)));
  bytes = refl;
  end = refl;
}

pub loop-place-preserved : goal.loop-place-preserved
loop-place-preserved c =
    sym (padding-passes _ _ _ _ c.min-width.result (omega (arith, c.min-width.ensures)) (sym c.bits_from-rest.ensures ∙ c.if-rest-ne0.false)) ∙ c.loop-place.invariant

pub returns-clause-reads : goal.returns-clause-reads
returns-clause-reads c = record {
  answer = sym (padding-ends _ _ _ _ (omega arith)) ∙ c.loop-place.invariant;
  bytes = refl;
  end = refl;
}
