-- The tables of widths spell the beds of the definitions.
use Rattle.std.proofs.Common.{refl}
use Rattle.bits.proofs.Reading.{stops, then, stops_with, then_as, on_true, on_false, done}
use Rattle.standard.specs.Assignment.{one_bed, standard_beds, nonstandard_beds}
use Rattle.assignment.specs.Parts.{channel_kind, channels}
use Rattle.assignment.proofs.Adding.{adds, stopped}
use Rattle.assignment.proofs.beds.parse_bed.Goals as goal

pub returns-in_err-read_flag : goal.returns-in_err-read_flag
unfolding one_bed
returns-in_err-read_flag c =
    stopped _ _ (stops _ c.in_err-read_flag.ensures.reads c.from_residual.ensures.1) c.from_residual.ensures.1 refl

pub returns-then-branch : goal.returns-then-branch
unfolding one_bed
returns-then-branch c =
    adds (then _ c.in_ok-read_flag.ensures.reads (on_true _ c.if-branch.true done)) c.push.ensures

pub returns-in_err-read_flag-2 : goal.returns-in_err-read_flag-2
unfolding one_bed
returns-in_err-read_flag-2 c =
    let e = c.from_residual-in_err-read_flag-2.ensures.1 in
    stopped _ _ (then _ c.in_ok-read_flag.ensures.reads (on_false _ c.if-branch.false (stops _ c.in_err-read_flag-2.ensures.reads e))) e refl

pub returns-in_err-assignment : goal.returns-in_err-assignment
unfolding one_bed
returns-in_err-assignment c =
    let e = c.from_residual-in_err-assignment.ensures.1 in
    stopped _ _ (then _ c.in_ok-read_flag.ensures.reads (on_false _ c.if-branch.false (then _ c.in_ok-read_flag-2.ensures.reads (on_true _ c.if-branch-2.true (stops_with _ c.in_err-assignment.ensures.reads e))))) e refl

pub returns-in_ok-assignment : goal.returns-in_ok-assignment
unfolding one_bed standard_beds channels channel_kind
returns-in_ok-assignment c =
    adds (then _ c.in_ok-read_flag.ensures.reads (on_false _ c.if-branch.false (then _ c.in_ok-read_flag-2.ensures.reads (on_true _ c.if-branch-2.true (then_as _ refl c.in_ok-assignment.ensures.reads))))) c.extend_chosen.ensures

pub returns-in_err-assignment-2 : goal.returns-in_err-assignment-2
unfolding one_bed
returns-in_err-assignment-2 c =
    let e = c.from_residual-in_err-assignment-2.ensures.1 in
    stopped _ _ (then _ c.in_ok-read_flag.ensures.reads (on_false _ c.if-branch.false (then _ c.in_ok-read_flag-2.ensures.reads (on_false _ c.if-branch-2.false (stops_with _ c.in_err-assignment-2.ensures.reads e))))) e refl

pub returns-in_ok-assignment-2 : goal.returns-in_ok-assignment-2
unfolding one_bed nonstandard_beds channels channel_kind
returns-in_ok-assignment-2 c =
    adds (then _ c.in_ok-read_flag.ensures.reads (on_false _ c.if-branch.false (then _ c.in_ok-read_flag-2.ensures.reads (on_false _ c.if-branch-2.false (then_as _ refl c.in_ok-assignment-2.ensures.reads))))) c.extend_chosen-else-branch-2.ensures
