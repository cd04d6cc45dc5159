-- What is kept stands at the front, and what arrives behind it.
use Rattle.std.proofs.Common.{take, rules, arith}
use Rattle.journal.proofs.Arriving.{arrived}
use Rattle.journal.proofs.input.Arrived.read_from.Goals as goal

pub returns : goal.returns
returns g c =
    let count = c.in_ok-count.count in
    let i = c.self.inside in
    (take count c.read.new.buf, arrived i.bytes c.read.new.buf i.from i.to _ count c.copy_within.ensures.after c.self.view_is (omega arith) (search rules) (omega (arith, c.in_ok-count.ensures.bound)), search rules)
