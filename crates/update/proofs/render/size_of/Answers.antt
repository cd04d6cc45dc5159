use Rattle.std.proofs.Common.{arith}
use Rattle.standard.specs.Updates.{sized}
use Rattle.update.proofs.Numbers.{up}
use Rattle.update.proofs.render.size_of.Goals as goal

pub returns : goal.returns
unfolding sized
returns c =
    let s = c.requires in
    rw (up {n = c.args.width} (omega (arith, s.0)), up {n = c.args.depth} (omega (arith, s.1)), up {n = c.args.height} (omega (arith, s.2)))
