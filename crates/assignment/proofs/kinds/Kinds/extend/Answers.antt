use Rattle.std.proofs.Common.{◌≡◌, suc, ◌+◌, ◌-◌, ◌∙◌, arith}
use Rattle.assignment.specs.Kinds.{extend}
use Rattle.assignment.proofs.Filling.{grown}
use Rattle.assignment.proofs.kinds.Kinds.extend.Goals as goal

pub loop-preserved : goal.loop-preserved
unfolding extend
loop-preserved c =
    let n : c.args.number - c.loop.counter ≡ suc (c.args.number - (c.loop.counter + 1)) = omega arith in
    record {
      count = grown c.push.ensures ∙ omega arith;
      left = rw c.push.ensures.holds (rw n at c.loop.invariant.left);
      table = c.push.ensures.table ∙ c.loop.invariant.table;
    }

pub returns : goal.returns
unfolding extend
returns c =
    let n : c.args.number - c.loop.counter ≡ 0 = omega arith in
    record { holds = rw n at c.loop.invariant.left; table = c.loop.invariant.table }
