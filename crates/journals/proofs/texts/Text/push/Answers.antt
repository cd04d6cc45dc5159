-- Behind the longer text stand zeros still.
use Rattle.std.proofs.Common.{◌≡◌, ◌+◌, ◌-◌, ◌≤◌, length, ap, ◌∙◌, arith}
use Rattle.journals.specs.Padded.{length-back}
use Rattle.journals.proofs.Padding.{grown-padded}
use Rattle.journals.proofs.texts.Text.push.Goals as goal

pub invariant_of-self : goal.invariant_of-self
invariant_of-self g c =
    let p = c.self.invariant in
    let k = length c.args.word.now in
    let room : c.self.inside.length + k ≤ g.row.N = omega (arith, c.requires, ap length c.self.view_is, length-back p.0 p.1) in
    let size : k ≡ c.self.inside.length + k - c.self.inside.length = omega arith in
    (room, grown-padded p.0 p.1 c.copy_from_slice.new.self (omega arith) room (ap length c.copy_from_slice.ensures.after ∙ size))
