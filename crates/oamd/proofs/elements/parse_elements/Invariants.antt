use Rattle.std.proofs.Common.{◌-◌}
use Rattle.bits.proofs.Reading.{Leads}
use Rattle.oamd.specs.Frame.{elements_in}
use Rattle.oamd.specs.Say.{said_frame, said_kinds, starts_of}
use Rattle.oamd.specs.Tables.{Kept}
use Rattle.oamd.proofs.elements.parse_elements.Given as goal

abbrev pub invariant-loop-element : goal.invariant-loop-element
invariant-loop-element l = record {
  rest : Leads
      (elements_in (starts_of l.objects) l.count l.alternate_data (said_kinds l.objects) (said_frame l.initial.tables)) l.initial.bits
      (elements_in (starts_of l.objects) (l.count - l._element) l.alternate_data (said_kinds l.objects) (said_frame l.tables)) l.bits;
  kept : Kept l.initial.tables l.tables;
}
