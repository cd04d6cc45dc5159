use Rattle.std.proofs.Common.{map, length, refl, arith}
use lib.ListN.{length-map}
use Rattle.bits.specs.Parsed.{map_p, ◌>>=◌}
use Rattle.bits.proofs.Reading.{Leads, begins, turns, turn_stops, ends, then_as, stops_with, has, anywhere}
use Rattle.standard.specs.Syntax.{object_element}
use Rattle.standard.specs.Tables.{rows_of}
use Rattle.rows.specs.Kinds.{kind_said}
use Rattle.objects.specs.Walk.{objects_from}
use Rattle.objects.specs.Element.{block_timings, timed_by}
use Rattle.objects.proofs.Filling.{untouched, further}
use Rattle.objects.proofs.Parts.{few-timed, fit, left, left_by, element-read, element-left}
use Rattle.objects.proofs.parse_object_element.Goals as goal
use Rattle.objects.proofs.parse_object_element.Goals.{Start}

-- what stands before the objects, and then the objects
begun : (c : Start) →
    let ks = map kind_said c.args.kinds.now in
    let n = length c.args.kinds.now in
    Leads (map_p (left_by (rows_of n c.args.start.now) c.args.timings.now c.args.blocks.now) (object_element ks)) c.args.bits.now
    (map_p (timed_by c.args.timings.now) block_timings >>= λ h. map_p (left h.count h.table) (objects_from n h.count c.args.start.now 0 ks c.args.blocks.now)) c.args.bits.now
begun c = begins (λ s e p. element-read s e _ _ _ _ _ p (length-map c.args.kinds.now kind_said) c.requires.few c.requires.for_blocks)

pub returns-in_err-block_count-clause-reads : goal.returns-in_err-block_count-clause-reads
returns-in_err-block_count-clause-reads c =
    let e = c.from_residual.ensures.1 in
    element-left _ (anywhere _ e refl refl (turn_stops _ (begun (goal.at.returns-in_err-block_count-clause-reads c).Start) c.in_err-block_count.ensures.reads e)) untouched c.parse_block_timings.ensures.filled

pub parse_objects-requires : goal.parse_objects-requires
parse_objects-requires c =
    let u = fit _ _ (has (few-timed _) c.in_ok-block_count.ensures.reads) c.requires.few in
    (c.requires.its_start, omega (arith, u, c.requires.for_blocks))

pub returns-in_err-parse_objects-clause-reads : goal.returns-in_err-parse_objects-clause-reads
returns-in_err-parse_objects-clause-reads c =
    let u = fit _ _ (has (few-timed _) c.in_ok-block_count.ensures.reads) c.requires.few in
    let e = c.from_residual-in_err-parse_objects.ensures.1 in
    element-left _ (anywhere _ e refl refl (ends (turns _ (begun (goal.at.returns-in_err-parse_objects-clause-reads c).Start) c.in_ok-block_count.ensures.reads) (stops_with _ c.in_err-parse_objects.ensures.reads e)))
    (further untouched c.parse_objects.ensures.filled u) c.parse_block_timings.ensures.filled

pub returns-clause-reads : goal.returns-clause-reads
returns-clause-reads c =
    let u = fit _ _ (has (few-timed _) c.in_ok-block_count.ensures.reads) c.requires.few in
    element-left _ (ends (turns _ (begun (goal.at.returns-clause-reads c).Start) c.in_ok-block_count.ensures.reads) (then_as _ refl c.in_ok-parse_objects.ensures.reads))
    (further untouched c.parse_objects.ensures.filled u) c.parse_block_timings.ensures.filled
