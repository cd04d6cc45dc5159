-- The bytes fetched so far are one field.
use Rattle.std.proofs.Common.{◌≡◌, ◌-◌, ◌*◌, ◌/◌}
use Rattle.bits.specs.Bits.{field}
use Rattle.bits.proofs.bytes.bits_from.Given as goal

abbrev pub invariant-loop-index : goal.invariant-loop-index
invariant-loop-index l = l.value ≡ field l.payload (l.from / 8 * 8) ((l.index - l.from / 8) * 8)
