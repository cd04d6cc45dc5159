-- Room is tested without a sum that could wrap.
use Rattle.std.proofs.Common.{◌≡◌, ◌+◌, ◌-◌, ◌≤◌, length, arith, rules}
use Rattle.rows.proofs.Written.{copied}
use Rattle.journals.proofs.Keeping.{appended}
use Rattle.journals.proofs.buffers.append.Goals as goal

pub returns-in-Some : goal.returns-in-Some
returns-in-Some c =
    let end : c.in-Some.end ≡ c.args.at + length c.args.text.now = search rules in
    let room : c.args.at + length c.args.text.now ≤ length c.args.out.now = omega (arith, c.if-end-out.true) in
    let fit : c.args.at + (c.in-Some.end - c.args.at) ≤ length c.args.out.now = omega arith in
    appended c.args.out.now c.args.at c.args.text.now room end
    (copied c.args.at (c.in-Some.end - c.args.at) c.args.out.now c.copy_from_slice.new.self fit c.copy_from_slice.ensures.len c.copy_from_slice.ensures.after)
