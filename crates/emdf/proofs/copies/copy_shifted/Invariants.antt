-- A byte more stands at the front each turn, and the first of its two neighbours is at hand.
use Rattle.std.proofs.Common.{◌≡◌, get_or}
use Rattle.standard.specs.Calls.{over}
use Rattle.emdf.specs.Say.{bytes_from}
use Rattle.emdf.proofs.copies.copy_shifted.Given as goal

abbrev pub invariant-loop-index : goal.invariant-loop-index
invariant-loop-index l = record {
  copied : l.buffer ≡ over (bytes_from l.bytes l.shift l.index) l.fn.buffer;
  high : l.high ≡ get_or l.bytes l.index 0;
}
