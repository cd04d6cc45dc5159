-- A record is used, or more is read, or a mark is not known.
use Rattle.journals.specs.Say.{lent_of}
use Rattle.journal.proofs.Stepping.{used-on, stopped-on}
use Rattle.journal.proofs.player.Player.turn.Goals as goal

pub returns-in-Ok : goal.returns-in-Ok
returns-in-Ok g c = used-on c.args.self.now c.unused.ensures c.in-Ok.ensures c.use_up.ensures c.emit.ensures

pub returns-in-Err-More : goal.returns-in-Err-More
returns-in-Err-More g c =
    c.read_on.ensures (lent_of c.args.self.now.tables) (record { left = rw (c.unused.ensures, c.in-Err-More.field-0-is) at c.in-Err-More.ensures })

pub returns-in-Err-Unknown : goal.returns-in-Err-Unknown
returns-in-Err-Unknown g c =
    stopped-on c.args.self.now c.unused.ensures c.in-Err-Unknown.ensures c.in-Err-Unknown.field-0-is c.stop.ensures
