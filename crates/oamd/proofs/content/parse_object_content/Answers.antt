use Rattle.std.proofs.Common.{refl, sym, ◌∙◌}
use Rattle.oamd.proofs.Framing.{duplicate, element-refused, element-read}
use Rattle.oamd.proofs.content.parse_object_content.Goals as goal

pub returns-then-is_some : goal.returns-then-is_some
returns-then-is_some c = duplicate _ _ _ _ (sym c.is_some.ensures ∙ c.if-is_some.true) c.invalid.ensures

pub returns-in_err-block_count : goal.returns-in_err-block_count
returns-in_err-block_count c =
    element-refused _ _ _ _ (sym c.is_some.ensures ∙ c.if-is_some.false) (record { blocks = refl; timings = refl }) c.in_err-block_count.ensures.reads c.from_residual.ensures.1

pub returns : goal.returns
returns c =
    element-read _ _ _ _ (sym c.is_some.ensures ∙ c.if-is_some.false) (record { blocks = refl; timings = refl }) refl c.in_ok-block_count.ensures.reads
