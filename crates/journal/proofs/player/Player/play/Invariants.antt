-- The program is on a run at every turn.
use Rattle.journal.specs.Steps.{standing}
use Rattle.journal.proofs.Stages.{Running}
use Rattle.journal.proofs.player.Player.play.Given as goal

abbrev pub invariant-loop : goal.invariant-loop
invariant-loop g l = Running l.counter (standing l.self) l.self.lines
