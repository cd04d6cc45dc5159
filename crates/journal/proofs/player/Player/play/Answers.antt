-- It begins on a run, each turn goes on with it, and the last ends it.
use Rattle.std.proofs.Common.{[], refl, arith}
use Rattle.journals.specs.Runs.{begins}
use Rattle.journal.specs.Steps.{on}
use Rattle.journal.proofs.Stages.{turned-on, turned-over}
use Rattle.journal.proofs.player.Player.play.Goals as goal

pub loop-init : goal.loop-init
loop-init g c = rw (c.requires.stands, c.requires.waits) (record { arrived = []; text = []; handed = []; ran = begins; turns = refl; fed = tt; same = refl })

pub loop-preserved : goal.loop-preserved
loop-preserved g c = turned-on c.loop.invariant c.in_ok-turn.ensures c.if-not-branch.false

pub returns-after-loop : goal.returns-after-loop
returns-after-loop g c = let i = c.loop.invariant in on i.handed refl i.ran (omega (arith, i.turns)) i.fed i.same

pub returns-then-not-branch : goal.returns-then-not-branch
returns-then-not-branch g c = turned-over c.loop.invariant c.in_ok-turn.ensures c.if-not-branch.true
