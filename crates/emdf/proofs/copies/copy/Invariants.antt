use Rattle.std.proofs.Common.{◌≡◌, take, length}
use Rattle.emdf.proofs.copies.copy.Given as goal

abbrev pub invariant-loop-index : goal.invariant-loop-index
invariant-loop-index l = record {
  front : take l.index l.to ≡ take l.index l.from;
  long : length l.to ≡ length l.from;
}
