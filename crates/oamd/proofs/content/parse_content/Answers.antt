use Rattle.std.proofs.Common.{arith}
use Rattle.std.proofs.lemmas.List.{length-map}
use Rattle.standard.specs.Numbers.{object_limit}
use Rattle.oamd.proofs.Framing.{object_stops, object_ends, trim_stops, trim_ends, unknown}
use Rattle.oamd.proofs.content.parse_content.Goals as goal
use Rattle.oamd.proofs.content.parse_content.Goals.{in-1+in_ok-parse_object_content-in-1, in-2+in_ok-parse_trim_element-in-2}

pub returns-in_err-parse_object_content-in-1 : goal.returns-in_err-parse_object_content-in-1
returns-in_err-parse_object_content-in-1 c = object_stops _ _ _ c.in-1.is c.in_err-parse_object_content-in-1.ensures c.from_residual.ensures.1

pub overflow_cast-objects : goal.overflow_cast-objects
unfolding object_limit
overflow_cast-objects c = omega (arith, c.args.objects.few)

pub returns-in_err-parse_trim_element-in-2 : goal.returns-in_err-parse_trim_element-in-2
returns-in_err-parse_trim_element-in-2 c =
    trim_stops _ _ _ c.in-2.is (rw length-map c.in_err-parse_trim_element-in-2.ensures) c.from_residual-in_err-parse_trim_element-in-2.ensures.1

pub returns-in_default : goal.returns-in_default
returns-in_default c = unknown _ _ _ (omega (arith, c.in_default)) (omega (arith, c.in_default))

pub returns : goal.returns
returns c =
    elim c.match-id.branch [
      | in-1+in_ok-parse_object_content-in-1 w ↦ rw w.tables-is (object_ends _ _ _ w.in-1.is w.in_ok-parse_object_content-in-1.ensures (rw w.element-is at c.consume_zero_padding.ensures.reads))
      | in-2+in_ok-parse_trim_element-in-2 w ↦ rw w.tables-is (trim_ends _ _ _ w.in-2.is (rw length-map w.in_ok-parse_trim_element-in-2.ensures) (rw w.element-is at c.consume_zero_padding.ensures.reads))
    ]
