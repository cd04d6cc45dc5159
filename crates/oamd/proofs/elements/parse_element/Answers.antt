use Rattle.oamd.proofs.Inside.{id_stops, end_stops, alternate_stops, flag_stops, content_stops, element_ends}
use Rattle.oamd.proofs.elements.parse_element.Goals as goal

pub returns-in_err-id : goal.returns-in_err-id
returns-in_err-id c = id_stops _ _ _ c.in_err-id.ensures.reads c.from_residual.ensures.1

pub returns-in_err-end : goal.returns-in_err-end
returns-in_err-end c = end_stops _ _ _ c.in_ok-id.ensures.reads c.in_err-end.ensures c.from_residual-in_err-end.ensures.1

pub returns-in_err-parse_alternate_data : goal.returns-in_err-parse_alternate_data
returns-in_err-parse_alternate_data c =
    alternate_stops _ _ _ c.in_ok-id.ensures.reads c.in_ok-end.ensures (rw c.new-element.ensures at c.in_err-parse_alternate_data.ensures) c.from_residual-in_err-parse_alternate_data.ensures.1

pub returns-in_err-_discard_unknown : goal.returns-in_err-_discard_unknown
returns-in_err-_discard_unknown c =
    flag_stops _ _ _ c.in_ok-id.ensures.reads c.in_ok-end.ensures (rw c.new-element.ensures at c.in_ok-parse_alternate_data.ensures) c.in_err-_discard_unknown.ensures.reads c.from_residual-in_err-_discard_unknown.ensures.1

pub returns-in_err-parse_content : goal.returns-in_err-parse_content
returns-in_err-parse_content c =
    content_stops _ _ _ c.in_ok-id.ensures.reads c.in_ok-end.ensures (rw c.new-element.ensures at c.in_ok-parse_alternate_data.ensures) c.in_ok-_discard_unknown.ensures.reads c.in_err-parse_content.ensures c.from_residual-in_err-parse_content.ensures.1

pub returns : goal.returns
returns c =
    element_ends _ _ _ c.in_ok-id.ensures.reads c.in_ok-end.ensures (rw c.new-element.ensures at c.in_ok-parse_alternate_data.ensures) c.in_ok-_discard_unknown.ensures.reads c.in_ok-parse_content.ensures
