-- A length field, and as many bytes, or more to wait for.
use Rattle.std.proofs.Common.{refl}
use Rattle.journals.proofs.Stepping.{no_length, no_payload, whole-payload}
use Rattle.journals.proofs.records.payload_step.Goals as goal

pub returns-in_default : goal.returns-in_default
returns-in_default c = no_length _ c.in_default.len_below

pub returns-then-rest-length : goal.returns-then-rest-length
returns-then-rest-length c =
    no_payload _ c.in-len2-up.len_at_least c.from_be_bytes-length.ensures c.if-rest-length.true c.from_be_bytes-length.type_inv

pub returns : goal.returns
returns c =
    whole-payload _ c.in-len2-up.len_at_least c.from_be_bytes-length.ensures c.if-rest-length.false refl refl
