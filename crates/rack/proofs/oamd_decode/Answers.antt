use Rattle.std.proofs.Common.{Err, ap, ◌∙◌, arith}
use Rattle.standard.specs.Numbers.{payload_limit}
use Rattle.rack.proofs.Promised.{place-small}
use Rattle.rack.proofs.oamd_decode.Goals as goal

pub overflow_cast-answer-in-Err-Refused : goal.overflow_cast-answer-in-Err-Refused
unfolding payload_limit
overflow_cast-answer-in-Err-Refused c =
    let k = place-small _ _ c.decode.ensures (c.in-Err-Refused.is ∙ ap Err c.in-Err-Refused.field-0-is) in
    omega arith
