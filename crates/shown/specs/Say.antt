-- What the code's gains, views and answers say: the paper's records.
use Rattle.std.specs.Prelude.{Result, Ok, Err}
use Rattle.bits.specs.declared.refusals.Fault.{Fault}
use Rattle.bits.specs.Faults.{fault_number}
use Rattle.standard.specs.Shown as paper
use Rattle.standard.specs.Numbers.{accepted}
use Rattle.standard.specs.Calls.{ShownAnswer}
use Rattle.shown.specs.declared.view.Gain.{Gain}
use Rattle.shown.specs.declared.view.Gain.TheVariants.{Silence, Decibels}
use Rattle.shown.specs.declared.view.Shown.{Shown}

abbrev pub gain_said : Gain → paper.Gain
gain_said Silence = paper.silent
gain_said (Decibels f) = paper.decibels f

abbrev pub shown_said : Shown → paper.Shown
shown_said s =
    record {
      x = s.x;
      y = s.y;
      z = s.z;
      width = s.width;
      depth = s.depth;
      height = s.height;
      priority = s.priority;
      gain = gain_said s.gain;
    }

-- on a refusal every float is 0, and the gain silence
abbrev pub view_said : Result Shown Fault → ShownAnswer
view_said (Ok s) = record { number = accepted; shown = shown_said s }
view_said (Err f) = record { number = fault_number f; shown = paper.nothing_shown }
